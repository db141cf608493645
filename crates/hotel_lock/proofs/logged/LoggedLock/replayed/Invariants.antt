use Rattle.std.proofs.Common.{◌≡◌, take, drop}
use Rattle.hotel_lock.specs.Door.{Lock}
use Rattle.hotel_lock.specs.Logged.{IsLogOf, MakesAll}
use Rattle.hotel_lock.proofs.logged.LoggedLock.replayed.Given as goal

abbrev pub invariant-loop-note : goal.invariant-loop-note
invariant-loop-note l = record {
  first : l.logged.first ≡ l.fn.code;
  so_far : l.logged.notes ≡ take l.note-index l.notes;
  log : IsLogOf l.fn.room l.fn.fit l.fn.code l.logged.notes l.logged.lock;
  left : (end : Lock) → IsLogOf l.fn.room l.fn.fit l.fn.code l.notes end
      → MakesAll l.logged.lock l.logged.notes (drop l.note-index l.notes) end;
}
