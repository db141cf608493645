use Rattle.std.proofs.Common.{◌≡◌, map, take}
use Rattle.hotel_statements.proofs.look.read_all.Given as goal

abbrev pub invariant-rows : goal.invariant-rows
invariant-rows g l = l.all.items ≡ map g.R.FromRow.of (take l.i l.rows)
