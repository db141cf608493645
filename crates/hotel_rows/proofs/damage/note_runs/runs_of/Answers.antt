use Rattle.std.proofs.Common.{◌-◌, length, drop, get_or, subst}
use Rattle.hotel_rows.specs.NoteRuns.{NoteRunsOf}
use Rattle.hotel_rows.proofs.OfDamage.Placing.{at_back}
use Rattle.hotel_rows.proofs.OfDamage.NoteCounts.{no_note, runs_more}
use Rattle.hotel_rows.proofs.damage.note_runs.runs_of.Goals as goal

pub loop-k-preserved : goal.loop-k-preserved
loop-k-preserved c =
    let xs = c.args.notes.now in
    let k = c.loop-k.k in
    let plain = get_or xs (length xs - 1 - k) no_note in
    subst (NoteRunsOf c.add_note.new.runs.entries) (at_back xs k no_note c.loop-k-test.true)
    (runs_more c.loop-k.runs.entries c.add_note.new.runs.entries plain
    (drop (length xs - k) xs) c.loop-k.invariant c.in_ok-add_note.ensures)
