-- Two guests, one after the other, and a log that the desk hears late: meanwhile the desk issues what it should, the
-- earlier card is shut out, and nothing is called secured that isn't.
use Rattle.std.specs.Prelude.{List, [], ◌∷◌, ◌++◌, true, false}
use Rattle.hotel_model.specs.Scenes.Words.{may, a0, a1, a2, DBL, ann_lee, bo, begin, add_kind, add_room, reserve}
use Rattle.hotel_model.specs.Scenes.Words.{check_in, check_out, begun, kind_added, room_code, party, card, card_of}
use Rattle.hotel_model.specs.Scenes.Words.{checked_out, taken}
use Rattle.hotel_building.specs.Scenes.Lines.{Line, ◌⇒◌, Shows, Goes, Tells, Says, IsSo, Holds}

-- a room, and Ann's booking
abbrev pub opening : List Line
opening =
    begin (may 1) ⇒ begun
    ∷ add_kind DBL ⇒ kind_added
    ∷ add_room 101 DBL ⇒ room_code a0
    ∷ reserve DBL (may 1) 2 ann_lee ⇒ party 1
    ∷ check_in 1 101 ⇒ card 1 1 a0 a1
    ∷ []

abbrev pub lines : List Line
lines =
    opening
    ++ (Shows 101 (card_of 1 1 a0 a1) true
    ∷ Goes 101 (card_of 1 1 a0 a1)
    ∷ Says 101 a0 (a1 ∷ []) [] false
    ∷ IsSo 101 a1 2 []
    ∷ check_out 1 ⇒ checked_out
    ∷ reserve DBL (may 1) 2 bo ⇒ party 2
    ∷ check_in 2 101 ⇒ card 2 2 a1 a2
    ∷ Shows 101 (card_of 2 2 a1 a2) true
    ∷ Shows 101 (card_of 1 1 a0 a1) false
    ∷ Says 101 a0 (a1 ∷ a2 ∷ []) [] false
    ∷ IsSo 101 a2 3 (2 ∷ [])
    ∷ Tells 101 taken
    ∷ Says 101 a1 (a2 ∷ []) (1 ∷ []) false
    ∷ Tells 101 taken
    ∷ Tells 101 taken
    ∷ Says 101 a2 [] (2 ∷ []) true
    ∷ IsSo 101 a2 0 (2 ∷ [])
    ∷ [])

abbrev pub TheScene : Type 0
TheScene = Holds (a0 ∷ a1 ∷ []) a2 lines
