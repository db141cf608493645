use Rattle.std.proofs.Common.{[], ◌∷◌, refl}
use Rattle.hotel_statements.specs.Values.{int}
use Rattle.hotel_statements.proofs.Made.FirstFits.{version_step}
use Rattle.hotel_statements.proofs.Upgraded.{gives_one}
use Rattle.hotel_statements.proofs.upgrade.set_version.Goals as goal

pub returns-clause-makes : goal.returns-clause-makes
returns-clause-makes g c =
    gives_one (int 1 ∷ int 2 ∷ []) c.run.ensures.runs c.run.ensures.answers (version_step _ _)
    (rw (c.small.ensures, c.small-2.ensures) refl)
