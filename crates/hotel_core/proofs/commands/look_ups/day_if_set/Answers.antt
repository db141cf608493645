use Rattle.hotel_core.proofs.OfCode.LookUps.{knows}
use Rattle.hotel_core.proofs.commands.look_ups.day_if_set.Goals as goal

pub returns-clause-finds : goal.returns-clause-finds
returns-clause-finds g c =
    knows g.met.B.Books.kept_rows (λ rows. rows.day)
    c.day-day.result c.known.result c.day-day.ensures c.known.ensures
