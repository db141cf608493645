-- Lists of books that stand in a building.
use Rattle.std.proofs.Common.{◌≡◌, ◌∙◌}
use Rattle.keycard_rules.specs.declared.kept.Kept.{Ghosts as KeptOf}
use Rattle.keycard_rules.proofs.CallsTogether.{together}
use Rattle.hotel_model.specs.Rows.{Rows}
use Rattle.building_calls.specs.Lists.{ListsStay}

pub lists_stay : {S : Type 0} (K : KeptOf S) (rows : S → Rows) → ((a b : S) → K.is_kept a b → rows b ≡ rows a)
    → ListsStay K rows
lists_stay K rows same old new end b looks stands clean = same old new (looks.kept clean)
    ∙ stands ((together K old new looks.told looks.calls).since.was_clean clean)
