use Rattle.std.proofs.Common.{rules, ◌≡◌, ◌+◌, ◌-◌, ◌^◌, ◌<◌, true, false, is_some, ap, sym, ◌∙◌, subst, arith}
use Rattle.std.specs.Prelude.{bytes_eq}
use Rattle.hotel_books.proofs.Names.{false≢true, is_there, one_if, rooms_in}
use Rattle.std.specs.Option.{unwrap_or}
use Rattle.hotel_books.proofs.OfNights.KindKeys.{SetsKind, one_more_room, known_kind}
use Rattle.hotel_books.proofs.kind_rooms.KindRooms.add_room.Goals as goal

pub returns-clause-absent : goal.returns-clause-absent
returns-clause-absent c = λ gone.
    let there : is_there c.self.inside.counts.entries c.args.kind.now ≡ true =
    sym (known_kind c.self.inside.counts.entries c.args.kind.now) ∙ ap is_some (sym c.in-Some.ensures.value) in
    absurd (false≢true (sym gone ∙ sym (ap (λ es. is_there es c.args.kind.now) c.self.view_is) ∙ there))

pub returns-clause-rooms : goal.returns-clause-rooms
returns-clause-rooms c = λ there few.
    let before = c.self.inside.counts.entries in
    let kind = c.args.kind.now in
    let n = c.saturating_add.result in
    let after = (c.get_mut.follows.lender n).entries in
    let was : c.in-Some.rooms.now ≡ rooms_in before kind = ap (λ o. unwrap_or o 0) c.in-Some.ensures.value in
    let low : rooms_in before kind < 2 ^ 32 - 1 =
    subst (λ es. rooms_in es kind < 2 ^ 32 - 1) (sym c.self.view_is) few in
    let one : n ≡ rooms_in before kind + 1 = omega (arith, was, low, c.saturating_add.ensures) in
    let set = subst (λ m. SetsKind before after kind m) one ((c.get_mut.follows.holds n).3 (search rules)).0 in
    λ k. one_more_room before after kind set k ∙ ap (λ es. rooms_in es k + one_if (bytes_eq kind k)) c.self.view_is

pub returns-in_default-clause-rooms : goal.returns-in_default-clause-rooms
returns-in_default-clause-rooms c = λ is few.
    let gone : is_there c.self.inside.counts.entries c.args.kind.now ≡ false =
    sym (known_kind c.self.inside.counts.entries c.args.kind.now) ∙ ap is_some (sym c.in_default.ensures.value) in
    let there : is_there c.self.inside.counts.entries c.args.kind.now ≡ true =
    ap (λ es. is_there es c.args.kind.now) c.self.view_is ∙ is in
    absurd (false≢true (sym gone ∙ there))
