use Rattle.std.proofs.Common.{[], ◌∷◌, refl}
use Rattle.hotel_statements.specs.Values.{int}
use Rattle.hotel_statements.proofs.InTurn.{writes_row}
use Rattle.hotel_statements.proofs.Made.Updates.{day_step}
use Rattle.hotel_statements.proofs.steps.set_day.Goals as goal

pub returns-clause-makes : goal.returns-clause-makes
returns-clause-makes g c = writes_row (int 1 ∷ int c.args.day ∷ []) c.run.ensures.runs c.run.ensures.answers
    (day_step _ _ c.args.day) (rw (c.small.ensures, c.dated.ensures) refl)
