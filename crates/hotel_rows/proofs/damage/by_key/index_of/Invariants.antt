use Rattle.std.proofs.Common.{take}
use Rattle.hotel_rows.specs.Keys.{IndexesFirst}
use Rattle.hotel_rows.proofs.damage.by_key.index_of.Given as goal

abbrev pub invariant-loop-i : goal.invariant-loop-i
invariant-loop-i l = IndexesFirst l.places.entries (take l.i l.keys)
