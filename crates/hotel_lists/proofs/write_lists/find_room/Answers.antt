use Rattle.std.proofs.Common.{◌≡◌, None, Err, Some, rules, subst, sym}
use Rattle.keycard_rules.specs.Leaves.{told_by}
use Rattle.hotel_lists.specs.{Faults.list_fault, RowLines.LooksAt}
use Rattle.hotel_lists.proofs.LookedLemmas.{one_answered, one_failed, then_no_room}
use Rattle.hotel_lists.proofs.write_lists.find_room.Goals as goal

pub returns-in_err-room-clause-books : goal.returns-in_err-room-clause-books
returns-in_err-room-clause-books g c =
    let why = c.in_err-room.field-0.0 in
    let ends : c.from_residual.result ≡ Err (list_fault why) = search rules in
    let told : told_by c.room.result ≡ Some why = search rules in
    subst (λ r. LooksAt g.B.Kept c.args.books.now c.room.new.self r) (sym ends)
    (one_failed g.B.Kept why told c.room.ensures.looks)

pub returns-in-Some-clause-books : goal.returns-in-Some-clause-books
returns-in-Some-clause-books g c =
    let told : told_by c.room.result ≡ None = search rules in one_answered g.B.Kept told c.room.ensures.looks

pub returns-in-None-clause-books : goal.returns-in-None-clause-books
returns-in-None-clause-books g c =
    let told : told_by c.room.result ≡ None = search rules in
    then_no_room g.B.Kept (one_answered g.B.Kept told c.room.ensures.looks)
