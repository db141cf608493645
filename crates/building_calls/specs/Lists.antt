-- Lists of books that stand in a building.
use Rattle.std.specs.Prelude.{Result}
use Rattle.keycard_rules.specs.declared.kept.Kept.{Ghosts as KeptOf}
use Rattle.hotel_model.specs.Rows.{Rows}
use Rattle.hotel_lists.specs.RowLines.{LooksAt}
use Rattle.hotel_lists.specs.declared.fault.ListFault.{ListFault}
use Rattle.hotel_building.specs.Building.{Building}
use Rattle.building_calls.specs.Stands.{StandIn}

-- What a list promises: it leaves the books in the building in which they stood.
abbrev pub ListsStay : {S : Type 0} → KeptOf S → (S → Rows) → Type 0
ListsStay {S = S} K rows = (old new : S) (end : Result (Unit {0}) ListFault) (b : Building)
    → LooksAt K old new end → StandIn K rows old b → StandIn K rows new b
