use Rattle.std.proofs.Common.{[], ◌∷◌, refl}
use Rattle.hotel_statements.specs.Values.{int}
use Rattle.hotel_statements.proofs.InTurn.{writes_row}
use Rattle.hotel_statements.proofs.Made.Updates.{issued_step}
use Rattle.hotel_statements.proofs.steps.set_issued.Goals as goal

pub returns-clause-makes : goal.returns-clause-makes
returns-clause-makes g c =
    writes_row (int c.args.room ∷ int c.args.codes ∷ int c.args.party ∷ []) c.run.ensures.runs c.run.ensures.answers
    (issued_step _ _ c.args.room c.args.codes c.args.party)
    (rw (c.numbered.ensures, c.small.ensures, c.numbered-2.ensures) refl)
