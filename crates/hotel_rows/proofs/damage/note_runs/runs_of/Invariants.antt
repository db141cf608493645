use Rattle.std.proofs.Common.{◌-◌, length, drop}
use Rattle.hotel_rows.specs.NoteRuns.{NoteRunsOf}
use Rattle.hotel_rows.proofs.damage.note_runs.runs_of.Given as goal

abbrev pub invariant-loop-k : goal.invariant-loop-k
invariant-loop-k l = NoteRunsOf l.runs.entries (drop (length l.notes - l.k) l.notes)
