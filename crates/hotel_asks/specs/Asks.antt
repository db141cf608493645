-- What a verb and the texts of its values ask for. The values are read from left to right.
use Rattle.std.specs.Prelude.{ℕ, Bool, true, false, if◌then◌else◌, List, [], ◌∷◌, Option, Result, Ok, Err}
use Rattle.std.specs.Result.{result_ok}
use Rattle.keycard_rules.specs.{declared.card.Link.Link, declared.note.Act.Act}
use Rattle.keycard_rules.specs.declared.note.Act.TheVariants as act
use Rattle.hotel_nights.specs.Moments.{Moment, note_from}
use Rattle.hotel_model.specs.declared.command.Command.{Command}
use Rattle.hotel_model.specs.declared.command.Command.TheVariants as command
use Rattle.hotel_asks.specs.{declared.asked.Ask.Ask, declared.asked.ListAsk.ListAsk}
use Rattle.hotel_asks.specs.declared.values.Lock.{Lock}
use Rattle.hotel_asks.specs.{declared.values.ValueFault.ValueFault, declared.values.ValueFault.TheVariants.Number}
use Rattle.hotel_asks.specs.declared.asked.Ask.TheVariants as ask
use Rattle.hotel_asks.specs.declared.asked.ListAsk.TheVariants as list
use Rattle.hotel_asks.specs.declared.values.ValueName.TheVariants.{Day, Arrive, Old, New, From, To}
use Rattle.hotel_asks.specs.declared.verbs.Verb.{Verb}
use Rattle.hotel_asks.specs.declared.verbs.Verb.TheVariants.{Begin, AddKind, AddRoom, Reserve, Cancel, CheckIn, Spare}
use Rattle.hotel_asks.specs.declared.verbs.Verb.TheVariants.{Reissue, Transfer, CheckOut, Refit, NextDay, Entered, Left}
use Rattle.hotel_asks.specs.declared.verbs.Verb.TheVariants.{Recoded, Arrivals, InHouse, ChainOf, LeftBehind, AuditOf}
use Rattle.hotel_asks.specs.declared.verbs.Verb.TheVariants.{BusinessDay, RoomStatus, Inside, Bookings, Availability}
use Rattle.hotel_asks.specs.declared.verbs.Verb.TheVariants.{CardsGiven, CardOf, Locks}
use Rattle.hotel_asks.specs.Values.{day_in, code_in, kind_in, nights_in, guest_in, room_in, lock_in, party_in, card_in}
use Rattle.hotel_asks.specs.Values.{count_in, moment_in}
use Rattle.hotel_asks.specs.Verbs.{is_list}

infixl 20 ◌<$>◌
infixl 20 ◌<*>◌
-- What is made of a value, or the value's fault.
abbrev pub ◌<$>◌ : {A B : Type 0} → (A → B) → Result A ValueFault → Result B ValueFault
make <$> (Ok value) = Ok (make value)
make <$> (Err fault) = Err fault

-- What is made of the values so far and of the next one, or the first fault.
abbrev pub ◌<*>◌ : {A B : Type 0} → Result (A → B) ValueFault → Result A ValueFault → Result B ValueFault
(Ok make) <*> value = make <$> value
(Err fault) <*> value = Err fault

-- A link of an old and a new code.
abbrev pub link_in : List ℕ → List ℕ → Result Link ValueFault
link_in old new = (λ o n. record { old_code = o; new_code = n }) <$> code_in Old old <*> code_in New new

-- The report of a lock's note: the note's count, what happened, and the day and second of it.
abbrev pub report_of : Lock → ℕ → Act → Moment → Command
report_of lock count what at = command.Reported (note_from lock.room lock.fit count what at)

-- What a lock notes of a card that leaves it; else of one that opens it.
abbrev pub card_act : Verb → ℕ → Link → Act
card_act Left card link = act.Left card link
card_act _ card link = act.Entered card link

-- The report of what a lock notes of a card.
abbrev pub card_report : Verb → List ℕ → List ℕ → List ℕ → List ℕ → List ℕ → List ℕ → Result Command ValueFault
card_report verb lock count card old new moment = (λ k c n l m. report_of k c (card_act verb n l) m)
    <$> lock_in lock <*> count_in count <*> card_in card <*> link_in old new <*> moment_in moment

-- The command that its verb and the texts of its values ask for.
abbrev pub command_of : Verb → List (List ℕ) → Result Command ValueFault
command_of Begin (day ∷ []) = command.Begin <$> day_in Day day
command_of AddKind (kind ∷ []) = command.AddKind <$> kind_in kind
command_of AddRoom (room ∷ kind ∷ []) = (λ r k. command.AddRoom r k) <$> room_in room <*> kind_in kind
command_of Reserve (kind ∷ arrive ∷ nights ∷ guest ∷ []) = (λ k a n g. command.Reserve g k a n)
    <$> kind_in kind <*> day_in Arrive arrive <*> nights_in nights <*> guest_in guest
command_of Cancel (party ∷ []) = command.Cancel <$> party_in party
command_of CheckIn (party ∷ room ∷ []) = (λ p r. command.CheckIn p r) <$> party_in party <*> room_in room
command_of Spare (party ∷ []) = command.Spare <$> party_in party
command_of Reissue (party ∷ []) = command.Reissue <$> party_in party
command_of Transfer (party ∷ room ∷ []) = (λ p r. command.Transfer p r) <$> party_in party <*> room_in room
command_of CheckOut (party ∷ []) = command.CheckOut <$> party_in party
command_of Refit (room ∷ []) = command.Refit <$> room_in room
command_of NextDay [] = Ok command.NextDay
command_of Entered (lock ∷ count ∷ card ∷ old ∷ new ∷ moment ∷ []) =
    card_report Entered lock count card old new moment
command_of Left (lock ∷ count ∷ card ∷ old ∷ new ∷ moment ∷ []) = card_report Left lock count card old new moment
command_of Recoded (lock ∷ count ∷ from ∷ to ∷ moment ∷ []) = (λ k c f t m. report_of k c (act.Recoded f t) m)
    <$> lock_in lock <*> count_in count <*> code_in From from <*> code_in To to <*> moment_in moment
command_of _ _ = Err Number

-- The list that its verb and the texts of its values ask for.
abbrev pub list_of : Verb → List (List ℕ) → Result ListAsk ValueFault
list_of Arrivals (day ∷ []) = list.Arrivals <$> day_in Day day
list_of InHouse [] = Ok list.InHouse
list_of ChainOf (room ∷ []) = list.ChainOf <$> room_in room
list_of LeftBehind [] = Ok list.LeftBehind
list_of AuditOf (room ∷ []) = list.AuditOf <$> room_in room
list_of BusinessDay [] = Ok list.BusinessDay
list_of RoomStatus [] = Ok list.RoomStatus
list_of Inside [] = Ok list.Inside
list_of Bookings [] = Ok list.Bookings
list_of Availability (day ∷ nights ∷ []) = (λ d n. list.Availability d n) <$> day_in Day day <*> nights_in nights
list_of CardsGiven (party ∷ []) = list.CardsGiven <$> party_in party
list_of CardOf (card ∷ []) = list.CardOf <$> card_in card
list_of Locks [] = Ok list.Locks
list_of _ _ = Err Number

-- What a verb and the texts of its values ask for.
abbrev pub ask_of : Verb → List (List ℕ) → Result Ask ValueFault
ask_of verb values =
    if is_list verb then ask.List <$> list_of verb values else ask.Command <$> command_of verb values

-- The same, or nothing where a value is refused or there are too few or too many.
abbrev pub accepted : Verb → List (List ℕ) → Option Ask
accepted verb values = result_ok (ask_of verb values)

-- the command copies its guest's name
abbrev pub copies : Command → Bool
copies (command.Reserve guest kind arrive nights) = true
copies _ = false

-- What is asked copies a text: a booking does, its guest.
abbrev pub ask_copies : Ask → Bool
ask_copies (ask.Command wanted) = copies wanted
ask_copies (ask.List wanted) = false
