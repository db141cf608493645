-- The change that an event makes of the books.
use Rattle.std.specs.Prelude.{ℕ, Bool, true, false, ◌+◌, length}
use Rattle.keycard_rules.specs.Note.{Note}
use Rattle.keycard_rules.specs.declared.note.Act.TheVariants as act
use Rattle.hotel_nights.specs.declared.stay.StayState.TheVariants as state
use Rattle.hotel_nights.specs.Moments.{note_from}
use Rattle.hotel_model.specs.{declared.change.InsideMove.InsideMove, declared.change.Change.Change}
use Rattle.hotel_model.specs.{Words.other_than, Words.is_one_of}
use Rattle.hotel_model.specs.declared.change.InsideMove.TheVariants.{Same, Goes, Comes}
use Rattle.hotel_model.specs.declared.change.Change.TheVariants as change
use Rattle.hotel_model.specs.Event.{Event, Begun, Kind, Install, Reserved, Cancelled, Issue, Spare, CheckOut, Refitted}
use Rattle.hotel_model.specs.Event.{NextDay, Entered, Left, Recoded}
use Rattle.hotel_model.specs.{History.History, History.◌▷◌, Cards.card_of, Cards.link_to, Ledger.passed, Guests.inside}
use Rattle.hotel_model.specs.{Guests.secured}
use Rattle.hotel_model.specs.Cases.{today, room_of, own_room, last_card_of}

-- what a note leaves of its room's row, and who moves
abbrev pub noted : History → Event → Note → InsideMove → Change
noted h event note insides =
    change.Noted note (length (passed (h ▷ event) note.room)) (secured (h ▷ event) note.room) insides

-- a card comes in, unless it is inside
abbrev pub comes : Bool → ℕ → InsideMove
comes true number = Same
comes false number = Comes number

-- The change of the books that stands for an event after a history.
abbrev pub change_of : History → Event → Change
change_of h (Begun day) = change.Begin day
change_of h (Kind kind) = change.Kind kind
change_of h (Install room kind code) = change.Room room kind code
change_of h (Reserved party guest kind arrive depart) =
    change.Reserved
    (record { party = party; guest = guest; kind = kind; arrive = arrive; depart = depart; state = state.Booked })
change_of h (Cancelled party) = change.Cancelled party
change_of h (Issue party room number code) =
    change.Issue (card_of number party (link_to h room code)) room (other_than room (room_of h party))
change_of h (Spare party number) = change.Spare (card_of number party (last_card_of h party))
change_of h (CheckOut party) = change.CheckedOut party (own_room h party)
change_of h (Refitted room fit code) = change.Refit room code fit
change_of h NextDay = change.DayTo (today h + 1)
change_of h (Entered room fit count number link at) =
    noted h (Entered room fit count number link at) (note_from room fit count (act.Entered number link) at)
    (comes (is_one_of number (inside h room)) number)
change_of h (Left room fit count number link at) =
    noted h (Left room fit count number link at) (note_from room fit count (act.Left number link) at) (Goes number)
change_of h (Recoded room fit count from to at) =
    noted h (Recoded room fit count from to at) (note_from room fit count (act.Recoded from to) at) Same
