use Rattle.std.proofs.Common.{◌≡◌, drop}
use Rattle.std.specs.List.{list_all}
use Rattle.hotel_statements.proofs.whole_tables.all_natural.Given as goal

abbrev pub invariant-loop-i : goal.invariant-loop-i
invariant-loop-i g l = list_all g.L.Plain.natural l.plain_rows ≡ list_all g.L.Plain.natural (drop l.i l.plain_rows)
