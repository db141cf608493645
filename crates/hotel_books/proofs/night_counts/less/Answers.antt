use Rattle.std.proofs.Common.{◌≡◌, ℕ, Bool, true, false, replicate, refl, sym, ap, ◌∙◌, not, slice_index, bytes_eq}
use Rattle.hotel_books.proofs.{Names.bytes_eq-Decides, OfNights.NightCounts.zeros}
use Rattle.hotel_books.proofs.OfNights.BlocksKept.{taken_unless_zeros}
use Rattle.hotel_books.proofs.night_counts.less.Goals as goal

not_false : (b : Bool) → not b ≡ false → b ≡ true
not_false true h = refl
not_false false h = sym h

not_true : (b : Bool) → not b ≡ true → b ≡ false
not_true false h = refl
not_true true h = sym h

pub returns-clause-some : goal.returns-clause-some
returns-clause-some c = λ some.
    taken_unless_zeros 32 c.loop-place.counts c.loop-place.invariant.length_same
    (not_true (bytes_eq c.loop-place.counts (replicate {A = ℕ} 32 0)) (sym c.ne.ensures ∙ some))

pub returns-clause-none : goal.returns-clause-none
returns-clause-none c = λ none j.
    let zeros_left = (bytes_eq-Decides c.loop-place.counts (replicate {A = ℕ} 32 0)).0
    (not_false (bytes_eq c.loop-place.counts (replicate {A = ℕ} 32 0)) (sym c.ne.ensures ∙ none)) in
    ap (λ xs. slice_index xs j) zeros_left ∙ zeros j
