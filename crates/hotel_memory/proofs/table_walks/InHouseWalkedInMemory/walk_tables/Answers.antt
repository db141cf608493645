use Rattle.std.proofs.Common.{◌≡◌, ◌∙◌, Bool, true, false, ap, sym, filter_map, is_some, refl}
use Rattle.hotel_books.proofs.{Names.rest_more, Names.house_row_on, OfCode.Walking.one_more, OfCode.Walking.as_rest}
use Rattle.hotel_books.proofs.{Names.false≢true, Names.in_house_on, OfCode.Walking.made_is_any, OfCode.Walking.made_row}
use Rattle.hotel_memory.proofs.table_walks.InHouseWalkedInMemory.walk_tables.Goals as goal

pub loop-row-preserved-in-Some-2 : goal.loop-row-preserved-in-Some-2
loop-row-preserved-in-Some-2 g c =
    let e = rest_more (λ row. row.now) c.loop-row.row-iterator c.next.new.self c.next.result c.in-Some.row
    c.in-Some.is c.next.ensures.steps in
    let f = house_row_on c.args.tables.now in
    one_more g.S.Sink.after _ _ _ _ _ _
    (as_rest g.S.Sink.after _ (filter_map f c.loop-row.row-iterator) _ _ _ (ap (filter_map f) e
    ∙ made_row f c.in-Some.row.now c.next.new.self c.in-Some-2.house (sym c.in-Some-2.is ∙ c.in_ok-house.ensures.same))
    c.loop-row.invariant)
    c.in_ok-take.ensures.taken

holds : (b : Bool) → (b ≡ false → ⊥) → b ≡ true
holds true f = refl
holds false f = absurd (f refl)

pub returns-in_err-house-clause-sure : goal.returns-in_err-house-clause-sure
returns-in_err-house-clause-sure g c = λ none.
    let e = rest_more (λ row. row.now) c.loop-row.row-iterator c.next.new.self c.next.result c.in-Some.row
    c.in-Some.is c.next.ensures.steps in
    let f = house_row_on c.args.tables.now in
    let there = holds (is_some (f c.in-Some.row.now)) (λ gone. false≢true (c.in_err-house.ensures.sure gone)) in
    let so_far = c.loop-row.invariant in
    absurd (false≢true (sym none ∙ made_is_any f so_far.0 (in_house_on c.args.tables.now) c.loop-row.row-iterator
    c.next.new.self c.in-Some.row.now e there so_far.1))
