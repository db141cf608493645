use Rattle.std.proofs.Common.{[], ◌∷◌, refl}
use Rattle.hotel_statements.specs.Values.{int}
use Rattle.hotel_statements.proofs.InTurn.{writes_row}
use Rattle.hotel_statements.proofs.Made.Insides.{inside_step}
use Rattle.hotel_statements.proofs.steps.insert_inside.Goals as goal

pub returns-clause-makes : goal.returns-clause-makes
returns-clause-makes g c = writes_row (int c.args.room ∷ int c.args.card ∷ []) c.run.ensures.runs c.run.ensures.answers
    (inside_step _ _ c.args.room c.args.card) (rw (c.numbered.ensures, c.numbered-2.ensures) refl)
