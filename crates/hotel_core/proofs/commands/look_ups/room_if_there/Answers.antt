use Rattle.hotel_books.proofs.Names.{room_at}
use Rattle.hotel_core.proofs.OfCode.LookUps.{knows}
use Rattle.hotel_core.proofs.commands.look_ups.room_if_there.Goals as goal

pub returns : goal.returns
returns g c =
    knows g.met.B.Books.kept_rows (λ rows. room_at rows c.args.room)
    c.room-row.result c.known.result c.room-row.ensures c.known.ensures
