-- The scenario "no-fresh-code" twice: each refusal moves the source by 64 words, and the word after them is the next
-- one.
use Rattle.std.specs.Prelude.{List, [], ◌∷◌}
use Rattle.hotel_model.specs.declared.reply.Refusal.TheVariants.{NoFreshCode}
use Rattle.std.specs.Prelude.{replicate}
use Rattle.hotel_model.specs.Scenes.Words.{may, a0, b0, DBL, begin, add_kind, add_room, begun, kind_added, room_code}
use Rattle.hotel_model.specs.Scenes.Words.{refused}
use Rattle.hotel_model.specs.Scenes.Lines.{Line, ◌⇒◌, Holds}

abbrev pub lines : List Line
lines =
    begin (may 1) ⇒ begun
    ∷ add_kind DBL ⇒ kind_added
    ∷ add_room 101 DBL ⇒ room_code a0
    ∷ add_room 102 DBL ⇒ refused NoFreshCode
    ∷ add_room 102 DBL ⇒ refused NoFreshCode
    ∷ add_room 102 DBL ⇒ room_code b0
    ∷ []

abbrev pub TheScene : Type 0
TheScene = Holds (replicate 129 a0) b0 lines
