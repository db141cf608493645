use Rattle.std.proofs.Common.{ℕ, ◌≡◌, true, false, nat_lt, ◌+◌, refl, arith, sym, ap, []}
use Rattle.hotel_books.proofs.Names.{nat_tests, LastDay, accepted, outcome_on}
use Rattle.hotel_memory.proofs.OfTables.DayNumbers.{is_day, no_day}
use Rattle.hotel_model.specs.declared.reply.Reply.TheVariants as reply
use Rattle.hotel_model.specs.declared.change.Change.TheVariants as change
use Rattle.hotel_core.proofs.OfCode.Parts.{begun, then_found, stopped, refuses}
use Rattle.hotel_core.proofs.{OfCode.Parts.ends, OfCode.AnswerParts.answers}
use Rattle.hotel_model.specs.declared.command.Command.TheVariants as command
use Rattle.hotel_core.proofs.commands.calendar.next_day.Goals as goal

pub returns-in_err-day-clause-steps : goal.returns-in_err-day-clause-steps
unfolding outcome_on
returns-in_err-day-clause-steps g c = λ source.
    stopped c.from_residual.result c.from_residual.ensures.1 begun c.in_err-day.ensures.finds (λ k e. rw e refl)

pub returns-in_default-clause-steps : goal.returns-in_default-clause-steps
unfolding outcome_on
returns-in_default-clause-steps g c = λ source.
    let late : nat_lt c.in_ok-day.day 36524 ≡ false = let p = no_day (c.in_ok-day.day + 1) c.in_default.ensures in
    grind (arith, nat_tests, p) in
    refuses LastDay refl (then_found begun c.in_ok-day.ensures.finds) (λ k. rw (k.1, late) refl)

pub make-requires-clause-answered : goal.make-requires-clause-answered
unfolding outcome_on
make-requires-clause-answered g c =
    let next = is_day (c.in_ok-day.day + 1) c.in-Some.next c.in-Some.ensures in
    let early : nat_lt c.in_ok-day.day 36524 ≡ true = grind (arith, nat_tests, next.1) in
    answers (then_found begun c.in_ok-day.ensures.finds) (λ clean k.
    ([], command.NextDay, tt, rw (k.1, early) (ap (λ (n : ℕ). accepted (reply.DayIs n) (change.DayTo n)) (sym next.0))))

pub returns-clause-steps : goal.returns-clause-steps
unfolding outcome_on
returns-clause-steps g c = λ source.
    let next = is_day (c.in_ok-day.day + 1) c.in-Some.next c.in-Some.ensures in
    let early : nat_lt c.in_ok-day.day 36524 ≡ true = grind (arith, nat_tests, next.1) in
    ends g.met.B.Books.change_after (then_found begun c.in_ok-day.ensures.finds) (c.make.ensures.steps source)
    (λ k. rw (k.1, early) (ap (λ (n : ℕ). accepted (reply.DayIs n) (change.DayTo n)) (sym next.0)))
