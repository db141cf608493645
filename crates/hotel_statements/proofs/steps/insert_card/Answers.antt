use Rattle.std.proofs.Common.{[], ◌∷◌, refl}
use Rattle.hotel_statements.specs.Values.{int}
use Rattle.hotel_statements.proofs.InTurn.{writes_row}
use Rattle.hotel_statements.proofs.Made.Inserts.{card_step}
use Rattle.hotel_statements.proofs.steps.insert_card.Goals as goal

pub returns-clause-makes : goal.returns-clause-makes
returns-clause-makes g c =
    let k = c.args.card in
    writes_row (int k.number ∷ int k.party ∷ int k.link.old_code ∷ int k.link.new_code ∷ []) c.run.ensures.runs
    c.run.ensures.answers (card_step _ _ k)
    (rw (c.numbered.ensures, c.numbered-2.ensures, c.coded.ensures, c.coded-2.ensures) refl)
