-- The scenario "desk-day": days, kinds, states: each refusal of check-in and its neighbours.
use Rattle.std.specs.Prelude.{List, [], ◌∷◌, codes}
use Rattle.hotel_model.specs.declared.reply.Refusal.TheVariants.{NoParty, NotBooked, NotInHouse, TooEarly, StayOver}
use Rattle.hotel_model.specs.declared.reply.Refusal.TheVariants.{WrongKind, SameRoom, RoomTaken}
use Rattle.hotel_nights.specs.declared.stay.StayState.TheVariants.{Booked}
use Rattle.hotel_model.specs.Scenes.Words.{may, a0, a1, b0, c0, DBL, SGL, bo, begin, add_kind, add_room, reserve}
use Rattle.hotel_model.specs.Scenes.Words.{cancel, check_in, spare, transfer, check_out, next_day, begun, kind_added}
use Rattle.hotel_model.specs.Scenes.Words.{room_code, party, cancelled, card, day, refused}
use Rattle.hotel_model.specs.Scenes.Lines.{Line, ◌⇒◌, Arrivals, Holds}

abbrev pub lines : List Line
lines =
    begin (may 1) ⇒ begun
    ∷ add_kind DBL ⇒ kind_added
    ∷ add_kind SGL ⇒ kind_added
    ∷ add_room 101 DBL ⇒ room_code a0
    ∷ add_room 102 DBL ⇒ room_code b0
    ∷ add_room 201 SGL ⇒ room_code c0
    ∷ reserve DBL (may 1) 2 (codes "Ann") ⇒ party 1
    ∷ reserve DBL (may 2) 1 bo ⇒ party 2
    ∷ check_in 2 101 ⇒ refused TooEarly
    ∷ check_in 1 201 ⇒ refused WrongKind
    ∷ check_in 1 101 ⇒ card 1 1 a0 a1
    ∷ check_in 1 102 ⇒ refused NotBooked
    ∷ transfer 1 101 ⇒ refused SameRoom
    ∷ spare 2 ⇒ refused NotInHouse
    ∷ next_day ⇒ day (may 2)
    ∷ check_in 2 101 ⇒ refused RoomTaken
    ∷ Arrivals (may 2) (record { party = 2; guest = bo; kind = DBL; arrive = may 2; depart = may 3; state = Booked }
    ∷ [])
    ∷ next_day ⇒ day (may 3)
    ∷ check_in 2 102 ⇒ refused StayOver
    ∷ cancel 2 ⇒ cancelled
    ∷ cancel 2 ⇒ refused NotBooked
    ∷ check_out 9 ⇒ refused NoParty
    ∷ []

abbrev pub TheScene : Type 0
TheScene = Holds (a0 ∷ b0 ∷ c0 ∷ []) a1 lines
