use Rattle.std.proofs.Common.{[], ◌∷◌, refl}
use Rattle.hotel_statements.specs.Values.{int}
use Rattle.hotel_statements.proofs.Made.FirstFits.{first_fit_step}
use Rattle.hotel_statements.proofs.Upgraded.{gives_one}
use Rattle.hotel_statements.proofs.upgrade.insert_first_fit.Goals as goal

pub returns-clause-makes : goal.returns-clause-makes
returns-clause-makes g c =
    gives_one (int c.args.room ∷ int 1 ∷ int 0 ∷ int 0 ∷ []) c.run.ensures.runs c.run.ensures.answers
    (first_fit_step _ _ c.args.room)
    (rw (c.numbered.ensures, c.small.ensures, c.small-2.ensures, c.small-3.ensures) refl)
