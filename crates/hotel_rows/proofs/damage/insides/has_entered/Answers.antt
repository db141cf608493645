use Rattle.std.proofs.Common.{rules}
use Rattle.hotel_rows.specs.Stored.{number_of, plain_fits}
use Rattle.hotel_rows.proofs.OfDamage.KnownFits.{last_placed}
use Rattle.hotel_rows.proofs.damage.insides.has_entered.Goals as goal

pub returns-then-least-place : goal.returns-then-least-place
returns-then-least-place c =
    let known = last_placed c.args.fits.now.runs.entries (plain_fits c.args.stored.now)
    (number_of c.args.room.now.room) c.requires in
    search (rules, known)

pub returns-else-least-place : goal.returns-else-least-place
returns-else-least-place c =
    let known = last_placed c.args.fits.now.runs.entries (plain_fits c.args.stored.now)
    (number_of c.args.room.now.room) c.requires in
    search (rules, known)
