use Rattle.std.proofs.Common.{ap, ◌∙◌}
use Rattle.hotel_books.proofs.Names.{Rows, rooms_of_kind}
use Rattle.hotel_memory.proofs.tables.Tables.rooms_of_kind.Goals as goal

pub returns : goal.returns
returns c = c.rooms.ensures ∙ c.self.invariant.rooms_known.counts c.args.kind.now
    ∙ ap (λ (rows : Rows). rooms_of_kind rows.rooms c.args.kind.now) c.self.view_is
