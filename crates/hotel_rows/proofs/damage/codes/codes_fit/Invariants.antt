use Rattle.std.proofs.Common.{◌≡◌, drop}
use Rattle.std.specs.List.{list_all}
use Rattle.hotel_rows.specs.Stored.{rows_of}
use Rattle.hotel_rows.specs.RowTests.{code_fits}
use Rattle.hotel_rows.proofs.damage.codes.codes_fit.Given as goal

abbrev pub invariant-loop-i : goal.invariant-loop-i
invariant-loop-i l = list_all (code_fits (rows_of l.stored)) l.stored.code.items
    ≡ list_all (code_fits (rows_of l.stored)) (drop l.i l.stored.code.items)
