-- The scenario "kind-full": a stay that ends on a night doesn't take it; the first full night is named.
use Rattle.std.specs.Prelude.{List, [], ◌∷◌, codes}
use Rattle.hotel_model.specs.declared.reply.Refusal.TheVariants.{PastArrival, KindFull}
use Rattle.hotel_model.specs.Scenes.Words.{may, a0, DBL, begin, add_kind, add_room, reserve, begun, kind_added}
use Rattle.hotel_model.specs.Scenes.Words.{room_code, party, refused}
use Rattle.hotel_model.specs.Scenes.Lines.{Line, ◌⇒◌, Holds}

abbrev pub lines : List Line
lines =
    begin (may 1) ⇒ begun
    ∷ add_kind DBL ⇒ kind_added
    ∷ add_room 101 DBL ⇒ room_code a0
    ∷ reserve DBL (may 1) 2 (codes "A") ⇒ party 1
    ∷ reserve DBL (may 3) 2 (codes "B") ⇒ party 2
    ∷ reserve DBL (may 4) 2 (codes "C") ⇒ refused (KindFull (may 4))
    ∷ reserve DBL (may 0) 2 (codes "D") ⇒ refused PastArrival
    ∷ []

abbrev pub TheScene : Type 0
TheScene = Holds ([]) a0 lines
