use Rattle.std.proofs.Common.{◌≡◌, ◌-◌, nat_le}
use Rattle.hotel_books.proofs.Names.{first_day, counted}
use Rattle.hotel_books.proofs.night_index.NightIndex.first_in_part.Given as goal

abbrev pub invariant-loop-night : goal.invariant-loop-night
invariant-loop-night l = first_day (λ d. nat_le l.rooms (counted l.self l.kind d)) l.from (l.to - l.from)
    ≡ first_day (λ d. nat_le l.rooms (counted l.self l.kind d)) l.night (l.to - l.night)
