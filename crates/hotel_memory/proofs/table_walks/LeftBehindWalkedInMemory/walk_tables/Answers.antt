use Rattle.std.proofs.Common.{ap, sym, ◌∙◌, filter_map}
use Rattle.hotel_books.proofs.{Names.rest_more, Names.behind_row_on, OfCode.Walking.one_more, OfCode.Walking.as_rest}
use Rattle.hotel_books.proofs.OfCode.Walking.{made_row}
use Rattle.hotel_memory.proofs.table_walks.LeftBehindWalkedInMemory.walk_tables.Goals as goal

pub loop-row-preserved-in-Continue-1 : goal.loop-row-preserved-in-Continue-1
loop-row-preserved-in-Continue-1 g c =
    let e = rest_more (λ row. row.now) c.loop-row.row-iterator c.next.new.self c.next.result c.in-Some.row
    c.in-Some.is c.next.ensures.steps in
    let f = behind_row_on c.args.tables.now in
    one_more g.S.Sink.after _ _ _ _ _ _
    (as_rest g.S.Sink.after _ (filter_map f c.loop-row.row-iterator) _ _ _
    (ap (filter_map f) e ∙ made_row f c.in-Some.row.now c.next.new.self c.in-Some-behind_row.behind
    (sym c.in-Some-behind_row.is ∙ c.behind_row.ensures)) c.loop-row.invariant)
    c.in_ok-take.ensures.taken
