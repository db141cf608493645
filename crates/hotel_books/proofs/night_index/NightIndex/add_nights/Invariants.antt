use Rattle.std.proofs.Common.{◌≡◌, ℕ, ◌-◌, ◌+◌, ◌≤◌, ◌<◌, ◌^◌, List}
use Rattle.hotel_nights.specs.Block.{one_if}
use Rattle.hotel_books.specs.NightIndex.{counted, spans}
use Rattle.hotel_books.proofs.night_index.NightIndex.add_nights.Given as goal

abbrev pub invariant-loop-night : goal.invariant-loop-night
invariant-loop-night l = record {
  order : l.from ≤ l.night;
  short : l.night - l.from ≤ l.to - l.from;
  counts : (k : List ℕ) (d : ℕ) → counted l.initial.self k d < 2 ^ 63
      → counted l.self k d ≡ counted l.initial.self k d + one_if (spans l.kind l.from l.night k d);
}

abbrev pub decreases-loop-night : goal.decreases-loop-night
decreases-loop-night l = l.to - l.night
