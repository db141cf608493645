use Rattle.std.proofs.Common.{sym, subst}
use Rattle.hotel_model.specs.Sound.{IsSound}
use Rattle.hotel_model.proofs.SoundRows.NoRows.{none_sound}
use Rattle.hotel_memory.proofs.list_books.ListBooks.empty.Goals as goal

pub invariant_of-result : goal.invariant_of-result
invariant_of-result c = subst IsSound (sym c.empty.ensures) none_sound
