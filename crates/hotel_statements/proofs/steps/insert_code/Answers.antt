use Rattle.std.proofs.Common.{[], ◌∷◌, refl}
use Rattle.hotel_statements.specs.Values.{int}
use Rattle.hotel_statements.proofs.InTurn.{writes_row}
use Rattle.hotel_statements.proofs.Made.Inserts.{code_step}
use Rattle.hotel_statements.proofs.steps.insert_code.Goals as goal

pub returns-clause-makes : goal.returns-clause-makes
returns-clause-makes g c = writes_row (int c.args.code ∷ int c.args.at.room ∷ int c.args.at.place ∷ [])
    c.run.ensures.runs c.run.ensures.answers (code_step _ _ c.args.code c.args.at)
    (rw (c.coded.ensures, c.numbered.ensures, c.small.ensures) refl)
