-- The scenario "first-run": the stored run, from a seed of 32 zero bytes.
use Rattle.std.specs.Prelude.{List, [], ◌∷◌}
use Rattle.hotel_model.specs.Scenes.Words.{may, M, DBL, ann_lee, begin, add_kind, add_room, reserve, check_in, entered}
use Rattle.hotel_model.specs.Scenes.Words.{begun, kind_added, room_code, party, card, taken}
use Rattle.hotel_model.specs.Scenes.Lines.{Line, ◌⇒◌, Holds}

abbrev pub lines : List Line
lines =
    begin (may 1) ⇒ begun
    ∷ add_kind DBL ⇒ kind_added
    ∷ add_room 101 DBL ⇒ room_code 0x903df1a0ade0
    ∷ reserve DBL (may 1) 2 ann_lee ⇒ party 1
    ∷ check_in 1 101 ⇒ card 1 1 0x903df1a0ade0 0x28bd8653e56a
    ∷ entered 101 1 1 0x903df1a0ade0 0x28bd8653e56a M ⇒ taken
    ∷ []

abbrev pub TheScene : Type 0
TheScene = Holds (0x903df1a0ade0 ∷ 0x28bd8653e56a ∷ []) 0x28bd8653e56a lines
