use Rattle.std.proofs.Common.{rules, ◌≡◌, ◌∙◌, true, bytes_eq, sym}
use Rattle.hotel_books.proofs.Names.{false≢true, rest_more, stays_of_kind}
use Rattle.hotel_books.proofs.OfCode.Walking.{passing_is_any}
use Rattle.hotel_memory.proofs.tables.Tables.stays_of_kind.Goals as goal

pub returns-in_err-push-clause-sure : goal.returns-in_err-push-clause-sure
returns-in_err-push-clause-sure c = λ none.
    let e = rest_more (λ stay. stay.now) c.loop-stay.stay-iterator c.next.new.self c.next.result c.in-Some.stay
    c.in-Some.is c.next.ensures.steps in
    let is : bytes_eq c.in-Some.stay.now.kind c.args.kind.now ≡ true = search rules in
    absurd (false≢true (sym none ∙ passing_is_any (λ stay. bytes_eq stay.kind c.args.kind.now) c.loop-stay.found.items
    c.loop-stay.stay-iterator c.next.new.self (stays_of_kind c.args.self.now c.args.kind.now) c.in-Some.stay.now e is
    c.loop-stay.invariant))
