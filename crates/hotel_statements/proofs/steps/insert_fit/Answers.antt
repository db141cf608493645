use Rattle.std.proofs.Common.{[], ◌∷◌, refl}
use Rattle.hotel_statements.specs.Values.{int}
use Rattle.hotel_statements.proofs.InTurn.{writes_row}
use Rattle.hotel_statements.proofs.Made.Inserts.{fit_step}
use Rattle.hotel_statements.proofs.steps.insert_fit.Goals as goal

pub returns-clause-makes : goal.returns-clause-makes
returns-clause-makes g c =
    let f = c.args.fit in
    writes_row (int f.room ∷ int f.fit ∷ int f.place ∷ int f.before ∷ []) c.run.ensures.runs c.run.ensures.answers
    (fit_step _ _ f)
    (rw (c.numbered.ensures, c.numbered-2.ensures, c.small.ensures, c.small-2.ensures) refl)
