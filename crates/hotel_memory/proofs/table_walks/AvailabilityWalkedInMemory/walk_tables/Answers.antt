use Rattle.std.proofs.Common.{◌∷◌, ap, sym, subst, ◌∙◌, map}
use Rattle.hotel_model.specs.Refinement.ListsOnRows.{free_row_on}
use Rattle.hotel_books.specs.NightIndex.{CountsNights}
use Rattle.hotel_books.proofs.Names.{rest_more, Rows, rooms_of_kind, values_of}
use Rattle.hotel_books.proofs.OfCode.Walking.{one_more, as_rest}
use Rattle.hotel_books.proofs.OfNights.FreeRows.{free_by_rows}
use Rattle.hotel_memory.proofs.table_walks.AvailabilityWalkedInMemory.walk_tables.Goals as goal

pub loop-kind-preserved : goal.loop-kind-preserved
loop-kind-preserved g c =
    let kind = c.in-Some.kind.now in
    let rows = c.args.tables.now in
    let f = free_row_on rows c.args.self.now.0 c.args.self.now.1 in
    let e = rest_more (λ kind. kind.now) c.loop-kind.kind-iterator c.next.new.self c.next.result c.in-Some.kind
    c.in-Some.is c.next.ensures.steps in
    let day = ap (λ (r : Rows). r.day) (sym c.tables.view_is) in
    let rooms = c.tables.invariant.rooms_known.counts kind
    ∙ ap (λ (r : Rows). rooms_of_kind r.rooms kind) c.tables.view_is in
    let taken = subst (λ (r : Rows). CountsNights c.nights-index.result.now (values_of r.stays)) c.tables.view_is
    c.nights-index.ensures in
    let row = c.free_row-row.ensures
    ∙ free_by_rows _ _ rows _ c.args.self.now.0 c.args.self.now.1 kind (sym day) rooms taken in
    one_more g.S.Sink.after _ c.free_row-row.result _ _ _ _
    (as_rest g.S.Sink.after _ (map f c.loop-kind.kind-iterator) _ _ _
    (ap (map f) e ∙ ap (λ r. r ∷ map f c.next.new.self) (sym row))
    c.loop-kind.invariant)
    c.in_ok-take.ensures.taken
