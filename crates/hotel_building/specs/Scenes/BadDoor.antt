-- One door fails: its lock holds a code that was never issued, and the desk takes a note of it that no lock made. The
-- desk is wrong of this room alone; next door all goes on. A new lock, with nobody inside, ends it.
use Rattle.std.specs.Prelude.{List, [], ◌∷◌, ◌++◌, true, false}
use Rattle.keycard_rules.specs.declared.note.Act.TheVariants.{Entered}
use Rattle.hotel_model.specs.Scenes.Words.{may, M, a0, a1, a2, a3, b0, b1, d0, DBL, bo, guest, add_room, reserve}
use Rattle.hotel_model.specs.Scenes.Words.{check_in, check_out, refit, room_code, party, card, card_of, checked_out}
use Rattle.hotel_model.specs.Scenes.Words.{link, lock, note, taken}
use Rattle.hotel_building.specs.Building.{Door}
use Rattle.hotel_building.specs.Scenes.Lines.{Line, ◌⇒◌, Shows, Tells, Says, IsSo, Breaks, Forges, IsBad, HoldsBut}
use Rattle.hotel_building.specs.Scenes.LateLog.{opening}

-- a door whose lock holds a code of no room, and made notes that nobody knows
abbrev pub failed : Door
failed = record { lock = record { room = 101; fit = 1; held = d0; made = 7 }; unread = []; inside = []; slipped = [] }

abbrev pub lines : List Line
lines =
    opening
    ++ (add_room 102 DBL ⇒ room_code a2
    ∷ reserve DBL (may 1) 2 bo ⇒ party 2
    ∷ check_in 2 102 ⇒ card 2 2 a2 a3
    ∷ Breaks 101 failed
    ∷ Shows 101 (card_of 1 1 a0 a1) false
    ∷ Forges (note 101 1 1 (Entered 1 (link a0 a1)) M)
    ∷ Says 101 a1 [] (1 ∷ []) true
    ∷ IsSo 101 d0 0 []
    ∷ IsBad 101 true
    ∷ IsBad 102 false
    ∷ Shows 102 (card_of 2 2 a2 a3) true
    ∷ Tells 102 taken
    ∷ Says 102 a3 [] (2 ∷ []) true
    ∷ IsSo 102 a3 0 (2 ∷ [])
    ∷ check_out 1 ⇒ checked_out
    ∷ refit 101 ⇒ lock 2 b0
    ∷ IsBad 101 false
    ∷ reserve DBL (may 1) 2 guest ⇒ party 3
    ∷ check_in 3 101 ⇒ card 3 3 b0 b1
    ∷ Shows 101 (card_of 3 3 b0 b1) true
    ∷ Tells 101 taken
    ∷ Says 101 b1 [] (3 ∷ []) true
    ∷ IsSo 101 b1 0 (3 ∷ [])
    ∷ [])

abbrev pub TheScene : Type 0
TheScene = HoldsBut (a0 ∷ a1 ∷ a2 ∷ a3 ∷ b0 ∷ []) b1 lines
