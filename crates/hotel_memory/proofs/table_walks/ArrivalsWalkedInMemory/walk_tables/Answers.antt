use Rattle.std.proofs.Common.{filter, ap, sym, ◌∙◌}
use Rattle.hotel_books.proofs.{Names.rest_more, Names.arrives_on, OfCode.Walking.one_more, OfCode.Walking.as_rest}
use Rattle.hotel_books.proofs.OfCode.Walking.{passing}
use Rattle.hotel_memory.proofs.table_walks.ArrivalsWalkedInMemory.walk_tables.Goals as goal

pub loop-stay-preserved-in-Continue-1 : goal.loop-stay-preserved-in-Continue-1
loop-stay-preserved-in-Continue-1 g c =
    let e = rest_more (λ stay. stay.now) c.loop-stay.stay-iterator c.next.new.self c.next.result c.in-Some.stay
    c.in-Some.is c.next.ensures.steps in
    let p = arrives_on c.args.self.now.0 in
    one_more g.S.Sink.after _ _ _ _ _ _
    (as_rest g.S.Sink.after _ (filter p c.loop-stay.stay-iterator) _ _ _ (ap (filter p) e
    ∙ passing p c.in-Some.stay.now c.next.new.self (sym c.arrives.ensures ∙ c.if-arrives.true)) c.loop-stay.invariant)
    c.in_ok-take.ensures.taken
