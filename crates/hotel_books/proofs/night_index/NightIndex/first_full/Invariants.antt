use Rattle.std.proofs.Common.{◌≡◌, ◌≤◌, ◌-◌, nat_le}
use Rattle.hotel_books.proofs.Names.{first_day, counted}
use Rattle.hotel_books.proofs.night_index.NightIndex.first_full.Given as goal

abbrev pub invariant-loop-first : goal.invariant-loop-first
invariant-loop-first l = record {
  small : l.first ≤ 36524;
  rest : first_day (λ d. nat_le l.rooms (counted l.self l.kind d)) l.fn.arrive (l.fn.depart - l.fn.arrive)
      ≡ first_day (λ d. nat_le l.rooms (counted l.self l.kind d)) l.first (l.last - l.first);
}

abbrev pub decreases-loop-first : goal.decreases-loop-first
decreases-loop-first l = l.last - l.first
