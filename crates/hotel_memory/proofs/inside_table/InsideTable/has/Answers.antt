use Rattle.std.proofs.Common.{ap, ◌∙◌}
use Rattle.hotel_books.proofs.Names.{is_one_of, those_in}
use Rattle.hotel_memory.proofs.OfTables.CardsInside.{known_inside}
use Rattle.hotel_memory.proofs.inside_table.InsideTable.has.Goals as goal

pub returns : goal.returns
returns c = c.contains.ensures ∙ known_inside c.self.inside.pairs.keys c.args.room c.args.number
    ∙ ap (λ pairs. is_one_of c.args.number (those_in pairs c.args.room)) c.self.view_is
