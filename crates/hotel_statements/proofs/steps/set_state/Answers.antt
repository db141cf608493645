use Rattle.std.proofs.Common.{[], ◌∷◌, refl}
use Rattle.hotel_model.specs.Stays.{room_of_state}
use Rattle.hotel_statements.specs.Values.{int, maybe_int}
use Rattle.hotel_statements.specs.Columns.{state_number}
use Rattle.hotel_statements.proofs.InTurn.{writes_row}
use Rattle.hotel_statements.proofs.Made.Reads.{bound_maybe}
use Rattle.hotel_statements.proofs.Made.Updates.{state_step}
use Rattle.hotel_statements.proofs.steps.set_state.Goals as goal

pub returns-clause-makes : goal.returns-clause-makes
returns-clause-makes g c =
    writes_row (int c.args.party ∷ int (state_number c.args.state_now) ∷ maybe_int (room_of_state c.args.state_now)
    ∷ []) c.run.ensures.runs c.run.ensures.answers (state_step _ _ c.args.party c.args.state_now)
    (rw (c.numbered.ensures, c.standing.ensures, c.room_of.ensures, bound_maybe (room_of_state c.args.state_now)) refl)
