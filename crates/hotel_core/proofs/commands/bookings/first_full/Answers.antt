use Rattle.std.proofs.Common.{◌-◌}
use Rattle.hotel_model.specs.Refinement.Lookups.{first_full_on}
use Rattle.hotel_core.proofs.OfCode.LookUps.{knows}
use Rattle.hotel_core.proofs.commands.bookings.first_full.Goals as goal

pub returns : goal.returns
returns g c =
    knows g.met.B.Books.kept_rows
    (λ rows. first_full_on rows c.args.kind.now c.args.arrive (c.args.depart - c.args.arrive))
    c.full_night-night.result c.known.result c.full_night-night.ensures c.known.ensures
