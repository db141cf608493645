use Rattle.std.proofs.Common.{ℕ, ◌≡◌, ◌++◌, map}
use Rattle.hotel_model.specs.Guests.{those_in}
use Rattle.hotel_memory.proofs.inside_table.InsideTable.at.Given as goal

abbrev pub invariant-loop-pair : goal.invariant-loop-pair
invariant-loop-pair l = l.found.items ++ map (λ (p : ℕ × ℕ). p.1) l.pair-iterator ≡ those_in l.self l.fn.room
