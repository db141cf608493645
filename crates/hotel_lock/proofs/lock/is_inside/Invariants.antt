-- the notes that are left decide
use Rattle.std.proofs.Common.{◌≡◌, drop, false}
use Rattle.hotel_lock.specs.Log.{inside_after}
use Rattle.hotel_lock.proofs.lock.is_inside.Given as goal

abbrev pub invariant-loop-note : goal.invariant-loop-note
invariant-loop-note l =
    inside_after l.number l.link l.inside (drop l.note-index l.notes) ≡ inside_after l.number l.link false l.notes
