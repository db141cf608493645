use Rattle.std.proofs.Common.{◌-◌, length, drop}
use Rattle.hotel_rows.specs.FitRuns.{FitRunsOf}
use Rattle.hotel_rows.proofs.damage.fit_runs.runs_of.Given as goal

abbrev pub invariant-loop-k : goal.invariant-loop-k
invariant-loop-k l = FitRunsOf l.runs.entries (drop (length l.fits - l.k) l.fits)
