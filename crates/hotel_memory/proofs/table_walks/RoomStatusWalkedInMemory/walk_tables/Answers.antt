use Rattle.std.proofs.Common.{◌∷◌, ap, sym, ◌∙◌, map}
use Rattle.hotel_model.specs.Refinement.ListsOnRows.{status_row_on}
use Rattle.hotel_books.proofs.{Names.rest_more, OfCode.Walking.one_more, OfCode.Walking.as_rest}
use Rattle.hotel_memory.proofs.table_walks.RoomStatusWalkedInMemory.walk_tables.Goals as goal

pub loop-row-preserved : goal.loop-row-preserved
loop-row-preserved g c =
    let e = rest_more (λ row. row.now) c.loop-row.row-iterator c.next.new.self c.next.result c.in-Some.row
    c.in-Some.is c.next.ensures.steps in
    one_more g.S.Sink.after _ c.of_room.result _ _ _ _
    (as_rest g.S.Sink.after _ (map status_row_on c.loop-row.row-iterator) _ _ _
    (ap (map status_row_on) e ∙ ap (λ r. r ∷ map status_row_on c.next.new.self) (sym c.of_room.ensures))
    c.loop-row.invariant)
    c.in_ok-take.ensures.taken
