use Rattle.std.proofs.Common.{rules, ◌≡◌, ℕ, ◌+◌, ◌-◌, ◌/◌, ◌&&◌, Some, None, [], nat_le, nat_lt, ap, ◌∙◌, sym, arith}
use Rattle.std.proofs.Common.{slice_index, subst}
use Rattle.hotel_books.proofs.Names.{HasNoEmptyBlock, block_at, block_cmp, counted, is_at, one_if, remove_entry, spans}
use Rattle.hotel_books.proofs.OfNights.BlocksKept.{kept_set, kept_removed}
use Rattle.std.specs.Option.{unwrap_or}
use Rattle.hotel_books.proofs.OfNights.NightCounts.{Sets, sets_twice, part_changed, part_absent}
use Rattle.hotel_books.proofs.night_index.NightIndex.uncount_part.Goals as goal

pub returns-in_default : goal.returns-in_default
returns-in_default c =
    let kind = c.args.kind.now in
    let none : block_at c.args.self.now kind (c.args.from / 32) ≡ [] =
    ap (λ es. block_at es kind (c.args.from / 32)) (sym c.self.view_is)
    ∙ sym (ap (λ o. unwrap_or o []) c.in_default.ensures.value) in
    λ k d. ap (λ m. counted m.entries k d) c.get_mut.follows.holds-at-none ∙ ap (λ es. counted es k d) c.self.view_is
    ∙ part_absent c.args.self.now kind c.args.from c.args.to c.requires.order c.requires.one_block none k d

pub returns-then-not-is_taken : goal.returns-then-not-is_taken
returns-then-not-is_taken c =
    let kind = c.args.kind.now in
    let before = c.self.inside.blocks.entries in
    let new = c.less-is_taken.new.counts in
    let mid = (c.get_mut.follows.lender new).entries in
    let after = c.remove.new.self.entries in
    let set : Sets before mid kind (c.args.from / 32) (Some new) = ((c.get_mut.follows.holds new).3 (search rules)).0 in
    let gone : Sets mid after kind (c.args.from / 32) None = c.remove.ensures.updates.0 in
    let was : c.in-Some.counts.now ≡ block_at before kind (c.args.from / 32) =
    ap (λ o. unwrap_or o []) c.in-Some.ensures.value in
    let zero : (j : ℕ) → slice_index new j ≡ 0 = c.less-is_taken.ensures.none c.if-not-is_taken.true in
    λ k d. part_changed (λ x n y. y ≡ x - n) (λ x. omega arith) before after kind c.args.from c.args.to None
    c.requires.order c.requires.one_block (sets_twice before mid after kind (c.args.from / 32) (Some new) None set gone)
    (λ j. sym (zero j) ∙ c.less-is_taken.ensures.counts j ∙ (λ i. slice_index (was i) j
    - one_if (nat_le (c.from-first.ensures i) j && nat_lt j (c.from-first.ensures i + c.from.ensures i)))) k d
    ∙ ap (λ es. counted es k d - one_if (spans kind c.args.from c.args.to k d)) c.self.view_is

pub returns-else-not-is_taken : goal.returns-else-not-is_taken
returns-else-not-is_taken c =
    let kind = c.args.kind.now in
    let before = c.self.inside.blocks.entries in
    let new = c.less-is_taken.new.counts in
    let after = (c.get_mut.follows.lender new).entries in
    let set : Sets before after kind (c.args.from / 32) (Some new) =
    ((c.get_mut.follows.holds new).3 (search rules)).0 in
    let was : c.in-Some.counts.now ≡ block_at before kind (c.args.from / 32) =
    ap (λ o. unwrap_or o []) c.in-Some.ensures.value in
    λ k d. part_changed (λ x n y. y ≡ x - n) (λ x. omega arith) before after kind c.args.from c.args.to
    (Some new) c.requires.order c.requires.one_block set
    (λ j. c.less-is_taken.ensures.counts j ∙ (λ i. slice_index (was i) j
    - one_if (nat_le (c.from-first.ensures i) j && nat_lt j (c.from-first.ensures i + c.from.ensures i)))) k d
    ∙ ap (λ es. counted es k d - one_if (spans kind c.args.from c.args.to k d)) c.self.view_is

pub invariant_of-self-then-not-is_taken : goal.invariant_of-self-then-not-is_taken
invariant_of-self-then-not-is_taken c =
    let new = c.less-is_taken.new.counts in
    let gone = c.remove.ensures.entries ∙ ap (λ es. remove_entry
    (is_at (block_cmp (c.args.kind.now, c.args.from / 32))) es) (c.get_mut.follows.holds new).0 in
    subst (λ es. HasNoEmptyBlock es) (sym gone) (kept_removed _ c.self.inside.blocks.entries new c.self.invariant)

pub invariant_of-self-else-not-is_taken : goal.invariant_of-self-else-not-is_taken
invariant_of-self-else-not-is_taken c =
    let new = c.less-is_taken.new.counts in
    let taken = c.less-is_taken.ensures.some c.if-not-is_taken.false in
    subst (λ es. HasNoEmptyBlock es) (sym (c.get_mut.follows.holds new).0)
    (kept_set _ c.self.inside.blocks.entries new taken c.self.invariant)
