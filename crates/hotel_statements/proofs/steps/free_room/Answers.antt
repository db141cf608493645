use Rattle.std.proofs.Common.{[], ◌∷◌, refl}
use Rattle.hotel_statements.specs.Values.{int}
use Rattle.hotel_statements.proofs.InTurn.{writes_row}
use Rattle.hotel_statements.proofs.Made.Updates.{freed_step}
use Rattle.hotel_statements.proofs.steps.free_room.Goals as goal

pub returns-clause-makes : goal.returns-clause-makes
returns-clause-makes g c = writes_row (int c.args.room ∷ []) c.run.ensures.runs c.run.ensures.answers
    (freed_step _ _ c.args.room) (rw (c.numbered.ensures) refl)
