use Rattle.std.proofs.Common.{◌-◌, length, drop}
use Rattle.hotel_rows.specs.FitRuns.{BeginsOf}
use Rattle.hotel_rows.proofs.damage.fit_runs.begins_of.Given as goal

abbrev pub invariant-loop-k : goal.invariant-loop-k
invariant-loop-k l = BeginsOf l.begins.entries (drop (length l.fits - l.k) l.fits)
