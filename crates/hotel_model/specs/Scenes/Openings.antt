-- What several scenes begin with.
use Rattle.std.specs.Prelude.{List, [], ◌∷◌}
use Rattle.hotel_nights.specs.Moments.{Moment}
use Rattle.hotel_model.specs.Scenes.Words.{may, M, a0, a1, a2, DBL, ann_lee, bo, begin, add_kind, add_room, reserve}
use Rattle.hotel_model.specs.Scenes.Words.{check_in, check_out, entered, left, begun, kind_added, room_code, party}
use Rattle.hotel_model.specs.Scenes.Words.{card, checked_out, taken}
use Rattle.hotel_model.specs.Scenes.Lines.{Line, ◌⇒◌}

-- One room of the kind DBL, and a booking of Ann Lee.
abbrev pub opened : List Line
opened =
    begin (may 1) ⇒ begun
    ∷ add_kind DBL ⇒ kind_added
    ∷ add_room 101 DBL ⇒ room_code a0
    ∷ reserve DBL (may 1) 2 ann_lee ⇒ party 1
    ∷ []

-- Her party is checked in.
abbrev pub checked_in : List Line
checked_in = check_in 1 101 ⇒ card 1 1 a0 a1 ∷ []

-- It is checked out, and Bo's party is checked in.
abbrev pub next_checked_in : List Line
next_checked_in =
    check_out 1 ⇒ checked_out
    ∷ reserve DBL (may 1) 2 bo ⇒ party 2
    ∷ check_in 2 101 ⇒ card 2 2 a1 a2
    ∷ []

-- the moment 2031-05-01T16:00:00
abbrev pub four_pm : Moment
four_pm = (may 1, 57600)

-- The notes of an entry and of an exit.
abbrev pub taken_twice : List Line
taken_twice =
    entered 101 1 1 a0 a1 M ⇒ taken
    ∷ left 101 2 1 a0 a1 four_pm ⇒ taken
    ∷ []
