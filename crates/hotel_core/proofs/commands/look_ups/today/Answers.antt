use Rattle.std.proofs.Common.{refl}
use Rattle.hotel_core.proofs.OfCode.LookUps.{finds_there}
use Rattle.hotel_core.proofs.commands.look_ups.today.Goals as goal

pub returns-clause-finds : goal.returns-clause-finds
returns-clause-finds g c =
    finds_there g.met.B.Books.kept_rows (λ rows. rows.day)
    c.day-day.result c.there_or.result refl c.day-day.ensures c.there_or.ensures
