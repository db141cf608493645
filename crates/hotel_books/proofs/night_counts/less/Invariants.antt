use Rattle.std.proofs.Common.{◌≡◌, ℕ, ◌-◌, ◌≤◌, ◌&&◌, nat_le, nat_lt, get_or, length}
use Rattle.hotel_nights.specs.Block.{one_if}
use Rattle.hotel_books.proofs.night_counts.less.Given as goal

abbrev pub invariant-loop-place : goal.invariant-loop-place
invariant-loop-place l = record {
  order : l.from ≤ l.place;
  length_same : length l.counts ≡ 32;
  short : l.place - l.from ≤ l.to - l.from;
  counts : (j : ℕ) → get_or l.counts j 0 ≡ get_or l.initial.counts j 0 - one_if (nat_le l.from j && nat_lt j l.place);
}
