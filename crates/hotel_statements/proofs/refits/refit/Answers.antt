use Rattle.std.proofs.Common.{refl}
use Rattle.hotel_statements.specs.Steps.{IsRefit}
use Rattle.hotel_statements.proofs.InTurn.{writes_then_if, writes_stopped, writes_as}
use Rattle.hotel_statements.proofs.Made.Rooms.{refit_is, refit_next}
use Rattle.hotel_statements.proofs.refits.refit.Goals as goal

pub returns-in_err-replace_lock-clause-makes : goal.returns-in_err-replace_lock-clause-makes
returns-in_err-replace_lock-clause-makes g c = writes_stopped _ c.from_residual.result c.from_residual.ensures.0
    c.from_residual.ensures.1 c.in_err-replace_lock.ensures.makes

pub returns-clause-makes : goal.returns-clause-makes
returns-clause-makes g c =
    let room = c.args.room in
    let code = c.args.code in
    let fit = c.args.fit in
    let codes = c.args.codes in
    let notes = c.args.notes in
    writes_as (λ rows is. is) (refit_is room code fit codes notes)
    (writes_then_if (refit_next room code fit codes notes)
    (writes_as {others = IsRefit room fit codes notes} (λ _ _. tt) (λ rows _. refl)
    c.in_ok-replace_lock.ensures.makes) c.insert_fit.ensures.makes)
