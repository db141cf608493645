use Rattle.hotel_core.proofs.OfCode.DrawParts.{draws}
use Rattle.hotel_core.proofs.commands.fresh_codes.fresh.Goals as goal

pub returns : goal.returns
returns g c =
    let d = c.draw_fresh-drawn.ensures in
    draws c.draw_fresh-drawn.result c.drawn_or.result c.drawn_or.ensures g.met.B.Books.kept_rows
    g.met.B.Books.issued_are d.drawn d.kept d.leaves d.stop d.sure
