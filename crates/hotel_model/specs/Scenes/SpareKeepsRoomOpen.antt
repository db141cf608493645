-- The scenario "spare-keeps-room-open": one card's leaving doesn't empty a room where another stays.
use Rattle.std.specs.Prelude.{List, [], ◌∷◌, ◌++◌, true, false}
use Rattle.hotel_model.specs.Scenes.Words.{may, M, a0, a1, a2, DBL, bo, reserve, check_in, spare, check_out, entered}
use Rattle.hotel_model.specs.Scenes.Words.{left, party, card, checked_out, taken, house}
use Rattle.hotel_model.specs.Scenes.Lines.{Line, ◌⇒◌, InHouse, Holds}
use Rattle.hotel_model.specs.Scenes.Openings.{opened, checked_in}

abbrev pub lines : List Line
lines =
    opened
    ++ checked_in
    ++ (spare 1 ⇒ card 2 1 a0 a1
    ∷ entered 101 1 1 a0 a1 M ⇒ taken
    ∷ entered 101 2 2 a0 a1 M ⇒ taken
    ∷ left 101 3 1 a0 a1 M ⇒ taken
    ∷ check_out 1 ⇒ checked_out
    ∷ reserve DBL (may 1) 2 bo ⇒ party 2
    ∷ check_in 2 101 ⇒ card 3 2 a1 a2
    ∷ entered 101 4 3 a1 a2 M ⇒ taken
    ∷ InHouse (house 101 2 bo (may 3) false ∷ [])
    ∷ left 101 5 2 a0 a1 M ⇒ taken
    ∷ left 101 6 3 a1 a2 M ⇒ taken
    ∷ entered 101 7 3 a1 a2 M ⇒ taken
    ∷ InHouse (house 101 2 bo (may 3) true ∷ []) ∷ [])

abbrev pub TheScene : Type 0
TheScene = Holds (a0 ∷ a1 ∷ []) a2 lines
