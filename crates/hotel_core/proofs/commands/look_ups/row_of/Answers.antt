use Rattle.hotel_books.proofs.Names.{room_at}
use Rattle.hotel_core.proofs.OfCode.LookUps.{finds_whole}
use Rattle.hotel_core.proofs.commands.look_ups.row_of.Goals as goal

pub returns : goal.returns
returns g c =
    finds_whole g.met.B.Books.kept_rows (λ rows. room_at rows c.args.room)
    c.room-row.result c.there_or.result c.room-row.ensures c.there_or.ensures
