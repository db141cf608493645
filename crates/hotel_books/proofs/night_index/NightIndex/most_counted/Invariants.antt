use Rattle.std.proofs.Common.{◌≡◌, ◌≤◌, ◌-◌, max}
use Rattle.hotel_model.specs.Words.{greatest}
use Rattle.hotel_books.proofs.Names.{counted}
use Rattle.hotel_books.proofs.night_index.NightIndex.most_counted.Given as goal

abbrev pub invariant-loop-first : goal.invariant-loop-first
invariant-loop-first l = record {
  small : l.first ≤ 36524;
  rest : greatest (counted l.self l.kind) l.fn.arrive (l.fn.depart - l.fn.arrive)
      ≡ max l.most (greatest (counted l.self l.kind) l.first (l.last - l.first));
}

abbrev pub decreases-loop-first : goal.decreases-loop-first
decreases-loop-first l = l.last - l.first
