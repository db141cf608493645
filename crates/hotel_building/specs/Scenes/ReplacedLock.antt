-- A guest slips out: the desk goes on to count the card as inside. Then the lock is replaced, the earlier card is shut
-- out, and the next guest's entry secures the room.
use Rattle.std.specs.Prelude.{List, [], ◌∷◌, ◌++◌, true, false}
use Rattle.hotel_model.specs.Scenes.Words.{may, a0, a1, a2, a3, DBL, bo, reserve, check_in, check_out, refit, party}
use Rattle.hotel_model.specs.Scenes.Words.{card}
use Rattle.hotel_model.specs.Scenes.Words.{card_of, checked_out, lock, taken}
use Rattle.hotel_building.specs.Scenes.Lines.{Line, ◌⇒◌, Shows, Slips, Tells, Says, IsSo, Holds}
use Rattle.hotel_building.specs.Scenes.LateLog.{opening}

abbrev pub lines : List Line
lines =
    opening
    ++ (Shows 101 (card_of 1 1 a0 a1) true
    ∷ Tells 101 taken
    ∷ Says 101 a1 [] (1 ∷ []) true
    ∷ Slips 101 1
    ∷ Says 101 a1 [] (1 ∷ []) true
    ∷ IsSo 101 a1 0 []
    ∷ check_out 1 ⇒ checked_out
    ∷ refit 101 ⇒ lock 2 a2
    ∷ Shows 101 (card_of 1 1 a0 a1) false
    ∷ Says 101 a2 [] [] false
    ∷ reserve DBL (may 1) 2 bo ⇒ party 2
    ∷ check_in 2 101 ⇒ card 2 2 a2 a3
    ∷ Shows 101 (card_of 2 2 a2 a3) true
    ∷ Says 101 a2 (a3 ∷ []) [] false
    ∷ IsSo 101 a3 1 (2 ∷ [])
    ∷ Tells 101 taken
    ∷ Says 101 a3 [] (2 ∷ []) true
    ∷ [])

abbrev pub TheScene : Type 0
TheScene = Holds (a0 ∷ a1 ∷ a2 ∷ []) a3 lines
