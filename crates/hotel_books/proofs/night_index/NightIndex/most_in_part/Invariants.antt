use Rattle.std.proofs.Common.{◌≡◌, ◌-◌, max}
use Rattle.hotel_model.specs.Words.{greatest}
use Rattle.hotel_books.proofs.Names.{counted}
use Rattle.hotel_books.proofs.night_index.NightIndex.most_in_part.Given as goal

abbrev pub invariant-loop-night : goal.invariant-loop-night
invariant-loop-night l = greatest (counted l.self l.kind) l.from (l.to - l.from)
    ≡ max l.most (greatest (counted l.self l.kind) l.night (l.to - l.night))
