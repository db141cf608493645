use Rattle.std.proofs.Common.{refl}
use Rattle.hotel_books.proofs.Names.{room_at}
use Rattle.hotel_core.proofs.OfCode.LookUps.{finds_there}
use Rattle.hotel_core.proofs.commands.look_ups.room_there.Goals as goal

pub returns : goal.returns
returns g c =
    finds_there g.met.B.Books.kept_rows (λ rows. room_at rows c.args.room)
    c.room-row.result c.there_or.result refl c.room-row.ensures c.there_or.ensures
