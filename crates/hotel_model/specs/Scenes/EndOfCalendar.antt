-- The scenario "end-of-calendar": stays up to the last day, 2099-12-31, which is day 36,524. Day 36,434 is 2099-10-02.
use Rattle.std.specs.Prelude.{List, [], ◌∷◌, codes}
use Rattle.hotel_model.specs.declared.reply.Refusal.TheVariants.{PastEnd}
use Rattle.hotel_model.specs.Scenes.Words.{a0, b0, DBL, begin, add_kind, add_room, reserve, begun, kind_added}
use Rattle.hotel_model.specs.Scenes.Words.{room_code, party, refused}
use Rattle.hotel_model.specs.Scenes.Lines.{Line, ◌⇒◌, Holds}

abbrev pub lines : List Line
lines =
    begin 36434 ⇒ begun
    ∷ add_kind DBL ⇒ kind_added
    ∷ add_room 101 DBL ⇒ room_code a0
    ∷ add_room 102 DBL ⇒ room_code b0
    ∷ reserve DBL 36434 90 (codes "A") ⇒ party 1
    ∷ reserve DBL 36435 90 (codes "B") ⇒ refused PastEnd
    ∷ []

abbrev pub TheScene : Type 0
TheScene = Holds (a0 ∷ []) b0 lines
