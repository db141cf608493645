-- The scenario "code-drawn-twice": a word that gives another room's code is passed over.
use Rattle.std.specs.Prelude.{List, [], ◌∷◌}
use Rattle.hotel_model.specs.Scenes.Words.{may, a0, b0, DBL, begin, add_kind, add_room, begun, kind_added, room_code}
use Rattle.hotel_model.specs.Scenes.Lines.{Line, ◌⇒◌, Holds}

abbrev pub lines : List Line
lines =
    begin (may 1) ⇒ begun
    ∷ add_kind DBL ⇒ kind_added
    ∷ add_room 101 DBL ⇒ room_code a0
    ∷ add_room 102 DBL ⇒ room_code b0
    ∷ []

abbrev pub TheScene : Type 0
TheScene = Holds (a0 ∷ a0 ∷ []) b0 lines
