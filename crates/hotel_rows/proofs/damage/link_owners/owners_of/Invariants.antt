use Rattle.std.proofs.Common.{◌-◌, length, drop}
use Rattle.hotel_rows.specs.LinkOwners.{OwnersOf}
use Rattle.hotel_rows.proofs.damage.link_owners.owners_of.Given as goal

abbrev pub invariant-loop-k : goal.invariant-loop-k
invariant-loop-k l = OwnersOf l.owners.entries (drop (length l.cards - l.k) l.cards)
