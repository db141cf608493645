-- The answer to a command of the staff is the same after two histories with the same commands.
use Rattle.std.proofs.Common.{ℕ, ◌≡◌, ◌+◌, Bool, false, List, [], ◌∷◌, None, length, ap, ◌∙◌, nat_lt}
use Rattle.std.proofs.Common.{nat_le, option_map, is_some}
use Rattle.std.specs.Prelude.{bytes_eq, count_by}
use Rattle.hotel_model.proofs.Names.{keys_of, values_of, list_any, is_one_of, is_that, last_of, said_of, at_number}
use Rattle.hotel_model.proofs.Names.{Stay, Event, History, card_of, no_link, room_of_state, is_full}
use Rattle.hotel_model.proofs.Names.{is_booked_state, accepted, bars, by_draw, needs, unless, is_begun, is_kind}
use Rattle.hotel_model.proofs.Names.{is_party, is_room, is_booked, is_in_house, is_of_kind, is_home, is_taken, today}
use Rattle.hotel_model.proofs.Names.{room_of, own_room, stay_is, first_full}
use Rattle.hotel_model.proofs.Names.{cards_used_up, parties_used_up}
unfoldable use Rattle.hotel_model.specs.Answer.{answer_to}
use Rattle.hotel_model.specs.Answer.{issues}
use Rattle.hotel_model.specs.Cases.{is_early, is_over}
use Rattle.hotel_model.specs.Outcome.{with_fresh}
use Rattle.hotel_model.specs.Event as event
use Rattle.hotel_model.specs.declared.command.Command.{Command}
use Rattle.hotel_model.specs.declared.command.Command.TheVariants as command
use Rattle.hotel_model.specs.declared.reply.Reply.{Reply}
use Rattle.hotel_model.specs.declared.reply.Reply.TheVariants as reply
use Rattle.hotel_model.specs.declared.reply.Refusal.TheVariants.{NotBegun, AlreadyBegun, KindExists, NoKind, RoomExists}
use Rattle.hotel_model.specs.declared.reply.Refusal.TheVariants.{NoRoom, NoParty, NotBooked, NotInHouse, TooEarly}
use Rattle.hotel_model.specs.declared.reply.Refusal.TheVariants.{StayOver, WrongKind, SameRoom, RoomTaken, PastArrival}
use Rattle.hotel_model.specs.declared.reply.Refusal.TheVariants.{PastEnd, KindFull, NumbersUsedUp, LastDay, FitsUsedUp}
use Rattle.keycard_rules.specs.declared.note.TheConstants.{LAST_DAY}
use Rattle.keycard_rules.specs.declared.numbers.TheConstants.{LAST_FIT, LAST_NUMBER}
use Rattle.hotel_nights.specs.FullNight.{first_day}
use Rattle.keycard_rules.specs.Draw.{draw_from}
use Rattle.hotel_model.specs.Lists.{arrives_on, is_booking, are_ahead, card_row}
use Rattle.hotel_model.specs.Words.{greatest}
use Rattle.hotel_model.specs.declared.list_rows.FreeRow.{FreeRow}
use Rattle.hotel_nights.specs.FullNight.{nights_taken}
use Rattle.keycard_rules.specs.declared.card.Card.{Card}
use Rattle.std.specs.Prelude.{if◌then◌else◌}
use Rattle.std.proofs.Common.{filter, map, ◌-◌, ◌==◌}
use Rattle.hotel_building.specs.Promises.{IsOfStaff, SameLists}
use Rattle.hotel_building.proofs.Quiet.{SameBooks}

begun : {h h' : History} → SameBooks h h' → is_begun h ≡ is_begun h'
begun s = ap is_some s.same_day

kind_there : {h h' : History} → SameBooks h h' → (kind : List ℕ) → is_kind h kind ≡ is_kind h' kind
kind_there s kind = ap (λ ks. list_any (λ k. bytes_eq k kind) ks) s.same_kinds

room_there : {h h' : History} → SameBooks h h' → (room : ℕ) → is_room h room ≡ is_room h' room
room_there s room = ap (λ rs. is_one_of room (keys_of rs)) s.same_rooms

party_there : {h h' : History} → SameBooks h h' → (party : ℕ) → is_party h party ≡ is_party h' party
party_there s party = ap (λ es. is_one_of party (keys_of es)) s.same_stays

stay_so : {h h' : History} → SameBooks h h' → (party : ℕ) (test : Stay → Bool)
    → stay_is h party test ≡ stay_is h' party test
stay_so s party test = ap (λ es. said_of (at_number es party) false test) s.same_stays

booked : {h h' : History} → SameBooks h h' → (party : ℕ) → is_booked h party ≡ is_booked h' party
booked s party = stay_so s party (λ stay. is_booked_state stay.state)

day_now : {h h' : History} → SameBooks h h' → today h ≡ today h'
day_now s = ap (λ o. said_of o 0 (λ d. d)) s.same_day

early : {h h' : History} → SameBooks h h' → (party : ℕ) → is_early h party ≡ is_early h' party
early s party = λ i. said_of (at_number (s.same_stays i) party) false (λ stay. nat_lt (day_now s i) stay.arrive)

over : {h h' : History} → SameBooks h h' → (party : ℕ) → is_over h party ≡ is_over h' party
over s party = λ i. said_of (at_number (s.same_stays i) party) false (λ stay. nat_le stay.depart (day_now s i))

of_kind : {h h' : History} → SameBooks h h' → (room party : ℕ) → is_of_kind h room party ≡ is_of_kind h' room party
of_kind s room party = λ i. said_of (at_number (s.same_stays i) party) false (λ stay.
    said_of (at_number (s.same_rooms i) room) false (λ kind. bytes_eq kind stay.kind))

home : {h h' : History} → SameBooks h h' → (room party : ℕ) → is_home h room party ≡ is_home h' room party
home s room party = ap (λ o. is_that o party) (s.same_registered room)

taken : {h h' : History} → SameBooks h h' → (room : ℕ) → is_taken h room ≡ is_taken h' room
taken s room = ap is_some (s.same_registered room)

its_room : {h h' : History} → SameBooks h h' → (party : ℕ) → room_of h party ≡ room_of h' party
its_room s party = ap (λ es. said_of (at_number es party) None (λ (x : Stay). room_of_state x.state)) s.same_stays

in_house : {h h' : History} → SameBooks h h' → (party : ℕ) → is_in_house h party ≡ is_in_house h' party
in_house s party = ap is_some (its_room s party)

full : {h h' : History} → SameBooks h h' → (kind : List ℕ) (arrive nights : ℕ)
    → first_full h kind arrive nights ≡ first_full h' kind arrive nights
full s kind arrive nights = λ i. first_day (is_full (values_of (s.same_stays i)) kind
    (count_by (λ k. bytes_eq k kind) (values_of (s.same_rooms i)))) arrive nights

parties_full : {h h' : History} → SameBooks h h' → parties_used_up h ≡ parties_used_up h'
parties_full s = ap (λ es. nat_le LAST_NUMBER (length es)) s.same_stays

cards_full : {h h' : History} → SameBooks h h' → cards_used_up h ≡ cards_used_up h'
cards_full s = ap (λ es. nat_le LAST_NUMBER (length es)) s.same_cards

-- a draw, and what comes of it
drawn : {h h' : History} → SameBooks h h' → (ahead : List ℕ) (r : ℕ → Reply) (e : ℕ → Event)
    → with_fresh h ahead r e ≡ with_fresh h' ahead r e
drawn s ahead r e = ap (λ cs. by_draw (draw_from (keys_of cs) ahead) r e) s.same_codes

gives : {h h' : History} → SameBooks h h' → (ahead : List ℕ) (party room : ℕ)
    → issues h ahead party room ≡ issues h' ahead party room
gives s ahead party room = λ i. by_draw (draw_from (keys_of (s.same_codes i)) ahead)
    (λ code. reply.Issued (card_of (length (s.same_cards i) + 1) party
    (record { old_code = last_of (s.same_issued room i); new_code = code })))
    (λ code. event.Issue party room (length (s.same_cards i) + 1) code)

-- the answer is the same
pub same_answer : (h h' : History) → SameBooks h h' → (ahead : List ℕ) (c : Command) → IsOfStaff c
    → answer_to h ahead c ≡ answer_to h' ahead c
unfolding answer_to
same_answer h h' s ahead (command.Begin day) staff =
    ap (λ b. unless (bars b AlreadyBegun ∷ []) (accepted reply.Begun (event.Begun day))) (begun s)
same_answer h h' s ahead (command.AddKind kind) staff = λ i. unless
    (needs (begun s i) NotBegun ∷ bars (kind_there s kind i) KindExists ∷ [])
    (accepted reply.KindAdded (event.Kind kind))
same_answer h h' s ahead (command.AddRoom room kind) staff = λ i. unless
    (needs (begun s i) NotBegun ∷ needs (kind_there s kind i) NoKind ∷ bars (room_there s room i) RoomExists ∷ [])
    (drawn s ahead (λ code. reply.RoomAdded code) (λ code. event.Install room kind code) i)
same_answer h h' s ahead (command.Reserve guest kind arrive nights) staff = λ i. unless
    (needs (begun s i) NotBegun ∷ needs (kind_there s kind i) NoKind ∷ bars (nat_lt arrive (day_now s i)) PastArrival
    ∷ bars (nat_lt LAST_DAY (arrive + nights)) PastEnd ∷ option_map KindFull (full s kind arrive nights i)
    ∷ bars (parties_full s i) NumbersUsedUp ∷ [])
    (accepted (reply.Reserved (length (s.same_stays i) + 1))
    (event.Reserved (length (s.same_stays i) + 1) guest kind arrive (arrive + nights)))
same_answer h h' s ahead (command.Cancel party) staff = λ i. unless
    (needs (begun s i) NotBegun ∷ needs (party_there s party i) NoParty ∷ needs (booked s party i) NotBooked ∷ [])
    (accepted reply.Cancelled (event.Cancelled party))
same_answer h h' s ahead (command.CheckIn party room) staff = λ i. unless
    (needs (begun s i) NotBegun ∷ needs (room_there s room i) NoRoom ∷ needs (party_there s party i) NoParty
    ∷ needs (booked s party i) NotBooked
    ∷ bars (early s party i) TooEarly ∷ bars (over s party i) StayOver ∷ needs (of_kind s room party i) WrongKind
    ∷ bars (taken s room i) RoomTaken ∷ bars (cards_full s i) NumbersUsedUp ∷ [])
    (gives s ahead party room i)
same_answer h h' s ahead (command.Spare party) staff = λ i. unless
    (needs (begun s i) NotBegun ∷ needs (party_there s party i) NoParty ∷ needs (in_house s party i) NotInHouse
    ∷ bars (cards_full s i) NumbersUsedUp ∷ [])
    (accepted (reply.Issued (card_of (length (s.same_cards i) + 1) party
    (said_of (s.same_link party i) no_link (λ link. link)))) (event.Spare party (length (s.same_cards i) + 1)))
same_answer h h' s ahead (command.Reissue party) staff = λ i. unless
    (needs (begun s i) NotBegun ∷ needs (party_there s party i) NoParty ∷ needs (in_house s party i) NotInHouse
    ∷ bars (cards_full s i) NumbersUsedUp ∷ [])
    ((gives s ahead party (own_room h party)
    ∙ ap (λ o. issues h' ahead party (said_of o 0 (λ r. r))) (its_room s party)) i)
same_answer h h' s ahead (command.Transfer party room) staff = λ i. unless
    (needs (begun s i) NotBegun ∷ needs (room_there s room i) NoRoom ∷ needs (party_there s party i) NoParty
    ∷ needs (in_house s party i) NotInHouse
    ∷ needs (of_kind s room party i) WrongKind ∷ bars (home s room party i) SameRoom
    ∷ bars (taken s room i) RoomTaken ∷ bars (cards_full s i) NumbersUsedUp ∷ [])
    (gives s ahead party room i)
same_answer h h' s ahead (command.CheckOut party) staff = λ i. unless
    (needs (begun s i) NotBegun ∷ needs (party_there s party i) NoParty ∷ needs (in_house s party i) NotInHouse ∷ [])
    (accepted reply.CheckedOut (event.CheckOut party))
same_answer h h' s ahead (command.Refit room) staff = λ i. unless
    (needs (begun s i) NotBegun ∷ needs (room_there s room i) NoRoom ∷ bars (taken s room i) RoomTaken
    ∷ bars (nat_le LAST_FIT (s.same_fit room i)) FitsUsedUp ∷ [])
    (by_draw (draw_from (keys_of (s.same_codes i)) ahead)
    (λ code. reply.Refitted code (s.same_fit room i + 1)) (λ code. event.Refitted room (s.same_fit room i + 1) code))
same_answer h h' s ahead command.NextDay staff = λ i. unless
    (needs (begun s i) NotBegun ∷ needs (nat_lt (day_now s i) LAST_DAY) LastDay ∷ [])
    (accepted (reply.DayIs (day_now s i + 1)) event.NextDay)
same_answer h h' s ahead (command.Reported note) staff = elim staff [ ]

-- the lists that read no note
pub same_lists : (h h' : History) → SameBooks h h' → SameLists h h'
same_lists h h' s = record {
  same_day = ap (λ o. said_of o [] (λ d. d ∷ [])) s.same_day;
  same_arrivals = λ d. ap (λ es. filter (arrives_on d) (values_of es)) s.same_stays;
  same_bookings = ap (λ es. filter is_booking (values_of es)) s.same_stays;
  same_free = λ d n i. map (λ kind.
      let rooms = count_by (λ k. bytes_eq k kind) (values_of (s.same_rooms i)) in
      let row : FreeRow = record {
        kind = kind;
        rooms = rooms;
        free = if are_ahead (s.same_day i) d n
            then rooms - greatest (λ e. nights_taken (values_of (s.same_stays i)) kind e) d n else 0;
      } in row) (s.same_kinds i);
  same_given = λ party. ap (λ es. filter (λ (card : Card). card.party == party) (values_of es)) s.same_cards;
  same_card = λ number i. said_of (at_number (s.same_cards i) number) []
      (λ card. said_of (at_number (s.same_stays i) card.party) [] (λ stay. card_row card stay ∷ []));
}
