use Rattle.std.proofs.Common.{rules, ◌≡◌, ◌+◌, ◌-◌, ◌/◌, ◌^◌, ◌<◌, ◌&&◌, Some, [], nat_le, nat_lt, ap, ◌∙◌, sym, subst}
use Rattle.std.proofs.Common.{arith}
use Rattle.std.specs.Prelude.{slice_index}
use Rattle.std.specs.Option.{unwrap_or}
use Rattle.hotel_nights.specs.Block.{one_if}
use Rattle.hotel_books.specs.NightIndex.{HasNoEmptyBlock, block_at, counted, spans}
use Rattle.hotel_books.proofs.OfNights.NightCounts.{Sets, part_changed, zeros}
use Rattle.hotel_books.proofs.OfNights.BlocksKept.{kept_set, kept_added}
use Rattle.hotel_books.proofs.night_index.NightIndex.count_part.Goals as goal

pub returns-in-Some-clause-ok : goal.returns-in-Some-clause-ok
returns-in-Some-clause-ok c =
    let kind = c.args.kind.now in
    let before = c.self.inside.blocks.entries in
    let new = c.more.new.counts in
    let after = (c.get_mut.follows.lender new).entries in
    let set : Sets before after kind (c.args.from / 32) (Some new) =
    ((c.get_mut.follows.holds new).3 (search rules)).0 in
    let was : c.in-Some.counts.now ≡ block_at before kind (c.args.from / 32) =
    ap (λ o. unwrap_or o []) c.in-Some.ensures.value in
    λ k d few. part_changed (λ x n y. x < 2 ^ 64 - 1 → y ≡ x + n)
    (λ x _. omega arith) before after kind c.args.from c.args.to (Some new) c.requires.order c.requires.one_block set
    (λ j low. c.more.ensures.counts j (subst (λ xs. slice_index xs j < 2 ^ 64 - 1) (sym was) low)
    ∙ (λ i. slice_index (was i) j
    + one_if (nat_le (c.from-first.ensures i) j && nat_lt j (c.from-first.ensures i + c.from.ensures i)))) k d
    (subst (λ es. counted es k d < 2 ^ 64 - 1) (sym c.self.view_is) few)
    ∙ ap (λ es. counted es k d + one_if (spans kind c.args.from c.args.to k d)) c.self.view_is

pub returns-clause-ok : goal.returns-clause-ok
returns-clause-ok c =
    let kind = c.args.kind.now in
    let before = c.get_mut.follows.lender-at-none.entries in
    let new = c.more-2.new.counts in
    let after = c.insert.new.self.entries in
    let set : Sets before after kind (c.args.from / 32) (Some new) = c.in-Ok.ensures.updates.0 in
    let was : [] ≡ block_at before kind (c.args.from / 32) = ap (λ o. unwrap_or o []) c.in_default.ensures.value
    ∙ sym (ap (λ m. block_at m.entries kind (c.args.from / 32)) c.get_mut.follows.holds-at-none) in
    λ k d few. part_changed (λ x n y. x < 2 ^ 64 - 1 → y ≡ x + n)
    (λ x _. omega arith) before after kind c.args.from c.args.to (Some new) c.requires.order c.requires.one_block set
    (λ j low. c.more-2.ensures.counts j (omega (arith, zeros j))
    ∙ ap (λ n. n + one_if (nat_le c.from-first.result j && nat_lt j (c.from-first.result + c.from.result))) (zeros j)
    ∙ (λ i. slice_index (was i) j
    + one_if (nat_le (c.from-first.ensures i) j && nat_lt j (c.from-first.ensures i + c.from.ensures i)))) k d
    (subst (λ m. counted m.entries k d < 2 ^ 64 - 1) (sym c.get_mut.follows.holds-at-none)
    (subst (λ es. counted es k d < 2 ^ 64 - 1) (sym c.self.view_is) few))
    ∙ ap (λ m. counted m.entries k d + one_if (spans kind c.args.from c.args.to k d)) c.get_mut.follows.holds-at-none
    ∙ ap (λ es. counted es k d + one_if (spans kind c.args.from c.args.to k d)) c.self.view_is

pub invariant_of-self : goal.invariant_of-self
invariant_of-self c =
    let new = c.more.new.counts in
    let taken = c.more.ensures.taken (omega (arith, c.from.ensures, c.requires.order)) in
    subst (λ es. HasNoEmptyBlock es) (sym (c.get_mut.follows.holds new).0)
    (kept_set _ c.self.inside.blocks.entries new taken c.self.invariant)

pub invariant_of-self-2 : goal.invariant_of-self-2
invariant_of-self-2 c =
    let before = c.get_mut.follows.lender-at-none.entries in
    let taken = c.more-2.ensures.taken (omega (arith, c.from.ensures, c.requires.order)) in
    let kept = subst (λ m. HasNoEmptyBlock m.entries) (sym c.get_mut.follows.holds-at-none) c.self.invariant in
    subst (λ es. HasNoEmptyBlock es) (sym c.in-Ok.ensures.entries)
    (kept_added _ before _ c.more-2.new.counts taken kept)
