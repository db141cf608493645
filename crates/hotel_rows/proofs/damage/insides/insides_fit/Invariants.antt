use Rattle.std.proofs.Common.{◌≡◌, drop}
use Rattle.std.specs.List.{list_all}
use Rattle.hotel_rows.specs.Stored.{rows_of, inside_pair}
use Rattle.hotel_rows.specs.RowTests.{inside_fits}
use Rattle.hotel_rows.proofs.damage.insides.insides_fit.Given as goal

abbrev pub invariant-loop-i : goal.invariant-loop-i
invariant-loop-i l =
    list_all (λ e. inside_fits (rows_of l.stored) (inside_pair e)) l.stored.inside.items
    ≡ list_all (λ e. inside_fits (rows_of l.stored) (inside_pair e)) (drop l.i l.stored.inside.items)
