use Rattle.std.proofs.Common.{◌≡◌, ℕ, ◌+◌, get_or, take, count_by}
use Rattle.hotel_nights.specs.Block.{begins, ends}
use Rattle.hotel_nights.proofs.block.count_stays.Given as goal

abbrev pub invariant-loop-stay : goal.invariant-loop-stay
invariant-loop-stay l = record {
  begins : (j : ℕ)
      → get_or l.tally.begins j 0 ≡ count_by (begins l.kind l.first l.after (l.first + j)) (take l.stay-index l.stays);
  ends : (j : ℕ)
      → get_or l.tally.ends j 0 ≡ count_by (ends l.kind l.first l.after (l.first + j)) (take l.stay-index l.stays);
}
