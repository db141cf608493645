use Rattle.std.proofs.Common.{ap, sym, ◌∙◌, filter_map, map}
use Rattle.hotel_model.specs.Refinement.ListsOnRows.{lock_at}
use Rattle.hotel_books.proofs.{Names.rest_more, OfCode.Walking.one_more, OfCode.Walking.as_rest}
use Rattle.hotel_books.proofs.OfCode.Walking.{made_row}
use Rattle.hotel_memory.proofs.table_walks.LocksWalkedInMemory.walk_tables.Goals as goal

pub loop-row-preserved-in-Continue-1 : goal.loop-row-preserved-in-Continue-1
loop-row-preserved-in-Continue-1 g c =
    let e = rest_more (λ row. row.now) c.loop-row.row-iterator c.next.new.self c.next.result c.in-Some.row
    c.in-Some.is c.next.ensures.steps in
    let f = lock_at c.args.tables.now in
    one_more g.S.Sink.after _ _ _ _ _ _
    (as_rest g.S.Sink.after _ (filter_map f (map (λ row. row.room) c.loop-row.row-iterator)) _ _ _
    (ap (λ rs. filter_map f (map (λ row. row.room) rs)) e ∙ made_row f c.in-Some.row.now.room
    (map (λ row. row.room) c.next.new.self) c.in-Some-lock.lock
    (sym c.in-Some-lock.is ∙ c.lock.ensures)) c.loop-row.invariant)
    c.in_ok-take.ensures.taken
