use Rattle.std.proofs.Common.{[], ◌∷◌, refl}
use Rattle.hotel_statements.specs.Values.{int}
use Rattle.hotel_statements.proofs.InTurn.{writes_row}
use Rattle.hotel_statements.proofs.Made.Updates.{refitted_step}
use Rattle.hotel_statements.proofs.steps.set_refitted.Goals as goal

pub returns-clause-makes : goal.returns-clause-makes
returns-clause-makes g c =
    writes_row (int c.args.room ∷ int c.args.lock_place ∷ int c.args.codes ∷ []) c.run.ensures.runs
    c.run.ensures.answers (refitted_step _ _ c.args.room c.args.lock_place c.args.codes)
    (rw (c.numbered.ensures, c.small.ensures, c.small-2.ensures) refl)
