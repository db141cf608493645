-- What is assured of each history that books stand for.
use Rattle.hotel_model.proofs.Names.{History, Reached}
use Rattle.hotel_model.proofs.Names.{Assured}
use Rattle.hotel_model.proofs.{SoundRows.AllSound.headline, Invariants.NotesMoved.notes_move}
use Rattle.hotel_model.proofs.{Invariants.RoomsLeft.none_oversold}

pub assured : (h : History) → Reached h → Assured h
assured h ok = record { headline = headline h ok; notes_move = notes_move h ok; none_oversold = none_oversold h ok }
