use Rattle.std.proofs.Common.{ℕ, ◌≡◌, true, false, None, List, refl, sym, ap, ◌∙◌, arith, nat_lt, ◌+◌, ◌-◌, []}
use Rattle.hotel_books.proofs.Names.{outcome_on, nat_tests, Change, Outcome, accepted}
use Rattle.hotel_memory.proofs.OfTables.DayNumbers.{is_day, no_day}
use Rattle.hotel_model.specs.declared.reply.Refusal.TheVariants as refusal
use Rattle.hotel_model.specs.declared.reply.Reply.TheVariants as reply
use Rattle.hotel_model.specs.declared.change.Change.TheVariants as change
use Rattle.hotel_core.proofs.OfCode.Parts.{begun, then_found, stopped, refuses}
use Rattle.hotel_core.proofs.OfCode.Parts.{ends, only, number_is}
use Rattle.hotel_nights.specs.declared.stay.StayState.TheVariants as state
use Rattle.hotel_core.proofs.OfCode.AnswerParts.{answers}
use Rattle.hotel_model.specs.declared.command.Command.TheVariants as command
use Rattle.hotel_core.proofs.commands.bookings.reserve.Goals as goal

abbrev booked_as : ℕ → List ℕ → List ℕ → ℕ → ℕ → Outcome Change
booked_as party guest kind arrive depart =
    accepted (reply.Reserved party) (change.Reserved
    (record { party = party; guest = guest; kind = kind; arrive = arrive; depart = depart; state = state.Booked }))

pub returns-in_err-today : goal.returns-in_err-today
unfolding outcome_on
returns-in_err-today g c = λ source.
    stopped c.from_residual.result c.from_residual.ensures.1 begun c.in_err-today.ensures.finds (λ k e. rw e refl)

pub returns-in_err-is_kind : goal.returns-in_err-is_kind
unfolding outcome_on
returns-in_err-is_kind g c = λ source.
    stopped c.from_residual-in_err-is_kind.result c.from_residual-in_err-is_kind.ensures.1
    (then_found begun c.in_ok-today.ensures.finds) c.in_err-is_kind.ensures (λ k e. cc)

pub returns-then-not-branch : goal.returns-then-not-branch
unfolding outcome_on
returns-then-not-branch g c = λ source.
    refuses refusal.NoKind refl (then_found (then_found begun c.in_ok-today.ensures.finds) c.in_ok-is_kind.ensures)
    (λ k. rw (k.0.1, only k.1, c.if-not-branch.true) refl)

pub returns-then-lt : goal.returns-then-lt
unfolding outcome_on
returns-then-lt g c = λ source.
    let past : nat_lt c.args.arrive c.in_ok-today.today ≡ true = grind (arith, nat_tests) in
    refuses refusal.PastArrival refl (then_found (then_found begun c.in_ok-today.ensures.finds) c.in_ok-is_kind.ensures)
    (λ k. rw (k.0.1, only k.1, c.if-not-branch.false, past) refl)

pub returns-in_default : goal.returns-in_default
unfolding outcome_on
returns-in_default g c = λ source.
    let past : nat_lt c.args.arrive c.in_ok-today.today ≡ false = grind (arith, nat_tests) in
    let beyond = no_day (c.args.arrive + c.from.result) c.in_default.ensures in
    let late : nat_lt 36524 (c.args.arrive + c.args.nights) ≡ true = grind (arith, nat_tests, beyond) in
    refuses refusal.PastEnd refl (then_found (then_found begun c.in_ok-today.ensures.finds) c.in_ok-is_kind.ensures)
    (λ k. rw (k.0.1, only k.1, c.if-not-branch.false, past, late) refl)

pub returns-in_err-night : goal.returns-in_err-night
unfolding outcome_on
returns-in_err-night g c = λ source.
    stopped c.from_residual-in_err-night.result c.from_residual-in_err-night.ensures.1
    (then_found (then_found begun c.in_ok-today.ensures.finds) c.in_ok-is_kind.ensures)
    c.in_err-night.ensures (λ k e. cc)

pub returns-in-Some-2 : goal.returns-in-Some-2
unfolding outcome_on
returns-in-Some-2 g c = λ source.
    let past : nat_lt c.args.arrive c.in_ok-today.today ≡ false = grind (arith, nat_tests) in
    let leaving = is_day (c.args.arrive + c.from.result) c.in-Some.depart c.in-Some.ensures in
    let late : nat_lt 36524 (c.args.arrive + c.args.nights) ≡ false = grind (arith, nat_tests, leaving.1) in
    let span : c.in-Some.depart - c.args.arrive ≡ c.args.nights = omega (arith, leaving.0) in
    refuses (refusal.KindFull c.in-Some-2.night) refl
    (then_found (then_found (then_found begun c.in_ok-today.ensures.finds) c.in_ok-is_kind.ensures)
    c.in_ok-night.ensures) (λ k. let full = rw span at (only k.1) in
    rw (k.0.0.1, only k.0.1, c.if-not-branch.false, past, late, full, c.in-Some-2.is) refl)

pub returns-in_err-party : goal.returns-in_err-party
unfolding outcome_on
returns-in_err-party g c = λ source.
    let past : nat_lt c.args.arrive c.in_ok-today.today ≡ false = grind (arith, nat_tests) in
    let leaving = is_day (c.args.arrive + c.from.result) c.in-Some.depart c.in-Some.ensures in
    let late : nat_lt 36524 (c.args.arrive + c.args.nights) ≡ false = grind (arith, nat_tests, leaving.1) in
    let span : c.in-Some.depart - c.args.arrive ≡ c.args.nights = omega (arith, leaving.0) in
    let free : c.in_ok-night.field-0 ≡ None = cc in
    stopped c.from_residual-in_err-party.result c.from_residual-in_err-party.ensures.1
    (then_found (then_found (then_found begun c.in_ok-today.ensures.finds) c.in_ok-is_kind.ensures)
    c.in_ok-night.ensures) c.in_err-party.ensures (λ k e. let full = rw span at (only k.1) in
    rw (k.0.0.1, only k.0.1, c.if-not-branch.false, past, late, full, free, e) refl)

pub returns-in_err-guest : goal.returns-in_err-guest
unfolding outcome_on
returns-in_err-guest g c = λ source.
    stopped c.from_residual-in_err-guest.result c.from_residual-in_err-guest.ensures.1
    (then_found (then_found (then_found (then_found begun c.in_ok-today.ensures.finds) c.in_ok-is_kind.ensures)
    c.in_ok-night.ensures) c.in_ok-party.ensures) c.in_err-guest.ensures (λ k e. cc)

pub make-requires-clause-answered : goal.make-requires-clause-answered
unfolding outcome_on
make-requires-clause-answered g c =
    let past : nat_lt c.args.arrive c.in_ok-today.today ≡ false = grind (arith, nat_tests) in
    let leaving = is_day (c.args.arrive + c.from.result) c.in-Some.depart c.in-Some.ensures in
    let late : nat_lt 36524 (c.args.arrive + c.args.nights) ≡ false = grind (arith, nat_tests, leaving.1) in
    let span : c.in-Some.depart - c.args.arrive ≡ c.args.nights = omega (arith, leaving.0) in
    let free : c.in_ok-night.field-0 ≡ None = cc in
    let last : c.in-Some.depart ≡ c.args.arrive + c.args.nights = omega (arith, leaving.0) in
    answers (then_found (then_found (then_found (then_found (then_found begun c.in_ok-today.ensures.finds)
    c.in_ok-is_kind.ensures) c.in_ok-night.ensures) c.in_ok-party.ensures) c.in_ok-guest.ensures)
    (λ clean k. let full = rw span at (only k.0.0.1) in (
      [],
      command.Reserve c.args.guest.now c.args.kind.now c.args.arrive c.args.nights,
      c.requires,
      rw (k.0.0.0.0.1, only k.0.0.0.1, c.if-not-branch.false, past, late, full, free, k.0.1, number_is _ _ k.0.1)
          (ap (λ (d : ℕ). booked_as c.in_ok-party.party c.args.guest.now c.args.kind.now c.args.arrive d) (sym last)
          ∙ ap (λ (g : List ℕ). booked_as c.in_ok-party.party g c.args.kind.now c.args.arrive c.in-Some.depart)
          (only k.1)),
    ))

pub returns : goal.returns
unfolding outcome_on
returns g c = λ source.
    let past : nat_lt c.args.arrive c.in_ok-today.today ≡ false = grind (arith, nat_tests) in
    let leaving = is_day (c.args.arrive + c.from.result) c.in-Some.depart c.in-Some.ensures in
    let late : nat_lt 36524 (c.args.arrive + c.args.nights) ≡ false = grind (arith, nat_tests, leaving.1) in
    let span : c.in-Some.depart - c.args.arrive ≡ c.args.nights = omega (arith, leaving.0) in
    let free : c.in_ok-night.field-0 ≡ None = cc in
    let last : c.in-Some.depart ≡ c.args.arrive + c.args.nights = omega (arith, leaving.0) in
    ends g.met.B.Books.change_after
    (then_found (then_found (then_found (then_found (then_found begun c.in_ok-today.ensures.finds)
    c.in_ok-is_kind.ensures) c.in_ok-night.ensures) c.in_ok-party.ensures) c.in_ok-guest.ensures)
    (c.make.ensures.steps source) (λ k. let full = rw span at (only k.0.0.1) in
    rw (k.0.0.0.0.1, only k.0.0.0.1, c.if-not-branch.false, past, late, full, free, k.0.1, number_is _ _ k.0.1)
    (ap (λ (d : ℕ). booked_as c.in_ok-party.party c.args.guest.now c.args.kind.now c.args.arrive d) (sym last)
    ∙ ap (λ (g : List ℕ). booked_as c.in_ok-party.party g c.args.kind.now c.args.arrive c.in-Some.depart) (only k.1)))
