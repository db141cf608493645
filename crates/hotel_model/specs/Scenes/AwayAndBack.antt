-- The scenario "away-and-back": a party moves away and back; its first card doesn't secure the room.
use Rattle.std.specs.Prelude.{List, [], ◌∷◌, true, false}
use Rattle.hotel_model.specs.declared.reply.Refusal.TheVariants.{LockShut}
use Rattle.hotel_model.specs.Scenes.Words.{may, M, a0, a1, a2, a3, b0, b1, DBL, ann_lee, bo, begin, add_kind, add_room}
use Rattle.hotel_model.specs.Scenes.Words.{reserve, check_in, transfer, check_out, entered, left, begun, kind_added}
use Rattle.hotel_model.specs.Scenes.Words.{room_code, party, card, checked_out, taken, refused, house}
use Rattle.hotel_model.specs.Scenes.Lines.{Line, ◌⇒◌, InHouse, Holds}

abbrev pub lines : List Line
lines =
    begin (may 1) ⇒ begun
    ∷ add_kind DBL ⇒ kind_added
    ∷ add_room 101 DBL ⇒ room_code a0
    ∷ add_room 102 DBL ⇒ room_code b0
    ∷ reserve DBL (may 1) 2 ann_lee ⇒ party 1
    ∷ reserve DBL (may 1) 2 bo ⇒ party 2
    ∷ check_in 1 101 ⇒ card 1 1 a0 a1
    ∷ entered 101 1 1 a0 a1 M ⇒ taken
    ∷ left 101 2 1 a0 a1 M ⇒ taken
    ∷ transfer 1 102 ⇒ card 2 1 b0 b1
    ∷ check_in 2 101 ⇒ card 3 2 a1 a2
    ∷ check_out 2 ⇒ checked_out
    ∷ transfer 1 101 ⇒ card 4 1 a2 a3
    ∷ entered 101 3 4 a2 a3 M ⇒ refused LockShut
    ∷ entered 101 3 1 a0 a1 M ⇒ taken
    ∷ InHouse (house 101 1 ann_lee (may 3) false ∷ [])
    ∷ left 101 4 1 a0 a1 M ⇒ taken
    ∷ entered 101 5 3 a1 a2 M ⇒ taken
    ∷ left 101 6 3 a1 a2 M ⇒ taken
    ∷ entered 101 7 4 a2 a3 M ⇒ taken
    ∷ InHouse (house 101 1 ann_lee (may 3) true ∷ [])
    ∷ []

abbrev pub TheScene : Type 0
TheScene = Holds (a0 ∷ b0 ∷ a1 ∷ b1 ∷ a2 ∷ []) a3 lines
