-- Two cards are issued, and neither has entered: the lock awaits two codes, and the newest card doesn't open it. Staff
-- set the lock to the first of the two; doing so once more changes nothing. Then the card opens, and the desk takes
-- both notes, in order.
use Rattle.std.specs.Prelude.{List, [], ◌∷◌, ◌++◌, true, false}
use Rattle.hotel_model.specs.Scenes.Words.{a0, a1, a2, reissue, card, card_of, taken}
use Rattle.hotel_building.specs.Scenes.Lines.{Line, ◌⇒◌, Shows, Sets, Tells, Says, IsSo, Holds}
use Rattle.hotel_building.specs.Scenes.LateLog.{opening}

abbrev pub lines : List Line
lines =
    opening
    ++ (reissue 1 ⇒ card 2 1 a1 a2
    ∷ Shows 101 (card_of 2 1 a1 a2) false
    ∷ Says 101 a0 (a1 ∷ a2 ∷ []) [] false
    ∷ Sets 101 a1
    ∷ IsSo 101 a1 1 []
    ∷ Sets 101 a1
    ∷ IsSo 101 a1 1 []
    ∷ Shows 101 (card_of 2 1 a1 a2) true
    ∷ IsSo 101 a2 2 (2 ∷ [])
    ∷ Tells 101 taken
    ∷ Says 101 a1 (a2 ∷ []) [] false
    ∷ Tells 101 taken
    ∷ Says 101 a2 [] (2 ∷ []) true
    ∷ [])

abbrev pub TheScene : Type 0
TheScene = Holds (a0 ∷ a1 ∷ []) a2 lines
