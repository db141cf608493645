use Rattle.std.proofs.Common.{ap, sym, ◌∙◌, filter_map}
use Rattle.hotel_model.specs.Refinement.ListsOnRows.{inside_row_on}
use Rattle.hotel_books.proofs.{Names.rest_more, OfCode.Walking.one_more, OfCode.Walking.as_rest}
use Rattle.hotel_books.proofs.OfCode.Walking.{made_row}
use Rattle.hotel_memory.proofs.table_walks.InsideWalkedInMemory.walk_tables.Goals as goal

pub loop-pair-preserved-in-Continue-1 : goal.loop-pair-preserved-in-Continue-1
loop-pair-preserved-in-Continue-1 g c =
    let e = rest_more (λ pair. pair.now) c.loop-pair.pair-iterator c.next.new.self c.next.result c.in-Some.pair
    c.in-Some.is c.next.ensures.steps in
    let f = inside_row_on c.args.tables.now in
    one_more g.S.Sink.after _ _ _ _ _ _
    (as_rest g.S.Sink.after _ (filter_map f c.loop-pair.pair-iterator) _ _ _
    (ap (filter_map f) e ∙ made_row f c.in-Some.pair.now c.next.new.self c.in-Some-inside_row.row
    (sym c.in-Some-inside_row.is ∙ c.inside_row.ensures)) c.loop-pair.invariant)
    c.in_ok-take.ensures.taken
