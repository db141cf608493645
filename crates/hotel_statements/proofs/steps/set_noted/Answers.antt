use Rattle.std.proofs.Common.{[], ◌∷◌, refl}
use Rattle.hotel_statements.specs.Values.{int}
use Rattle.hotel_statements.specs.Columns.{bit_of}
use Rattle.hotel_statements.proofs.InTurn.{writes_row}
use Rattle.hotel_statements.proofs.Made.Updates.{noted_step}
use Rattle.hotel_statements.proofs.steps.set_noted.Goals as goal

pub returns-clause-makes : goal.returns-clause-makes
returns-clause-makes g c =
    writes_row (int c.args.room ∷ int c.args.lock_place ∷ int (bit_of c.args.secured) ∷ int c.args.notes ∷ [])
    c.run.ensures.runs c.run.ensures.answers (noted_step _ _ c.args.room c.args.lock_place c.args.secured c.args.notes)
    (rw (c.numbered.ensures, c.small.ensures, c.bit.ensures, c.small-2.ensures) refl)
