use Rattle.std.proofs.Common.{◌≡◌, drop}
use Rattle.std.specs.List.{list_all}
use Rattle.hotel_rows.specs.Stored.{rows_of}
use Rattle.hotel_rows.specs.RowTests.{plain_note_fits}
use Rattle.hotel_rows.proofs.damage.notes.notes_fit.Given as goal

abbrev pub invariant-loop-i : goal.invariant-loop-i
invariant-loop-i l = list_all (plain_note_fits (rows_of l.stored)) l.stored.note.items
    ≡ list_all (plain_note_fits (rows_of l.stored)) (drop l.i l.stored.note.items)
