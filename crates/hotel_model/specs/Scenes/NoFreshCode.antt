-- The scenario "no-fresh-code": 64 words give issued codes.
use Rattle.std.specs.Prelude.{List, [], ◌∷◌}
use Rattle.hotel_model.specs.declared.reply.Refusal.TheVariants.{NoFreshCode}
use Rattle.hotel_model.specs.Scenes.Words.{may, a0, DBL, begin, add_kind, add_room, begun, kind_added, room_code}
use Rattle.hotel_model.specs.Scenes.Words.{refused}
use Rattle.hotel_model.specs.Scenes.Lines.{Line, ◌⇒◌, NoChain, Holds}

abbrev pub lines : List Line
lines =
    begin (may 1) ⇒ begun
    ∷ add_kind DBL ⇒ kind_added
    ∷ add_room 101 DBL ⇒ room_code a0
    ∷ add_room 102 DBL ⇒ refused NoFreshCode
    ∷ NoChain 102
    ∷ []

abbrev pub TheScene : Type 0
TheScene = Holds ([]) a0 lines
