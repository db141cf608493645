use Rattle.std.proofs.Common.{◌≡◌, drop}
use Rattle.std.specs.List.{list_all}
use Rattle.hotel_rows.specs.NoteRuns.{counted_as_due}
use Rattle.hotel_rows.proofs.damage.note_runs.rooms_have_counts.Given as goal

abbrev pub invariant-loop-i : goal.invariant-loop-i
invariant-loop-i l = list_all (counted_as_due l.runs.entries) l.stored.room.items
    ≡ list_all (counted_as_due l.runs.entries) (drop l.i l.stored.room.items)
