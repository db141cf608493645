-- A history without its notes. What the answers to commands of the staff read is the same of both.
use Rattle.std.proofs.Common.{ℕ, ◌≡◌, ◌+◌, length, refl, ap, sym, ◌∙◌, option_map, ◌==◌, nat_cmp, Some, None}
use Rattle.hotel_model.proofs.Names.{insert_entry, insert_key, slice_cmp, when, and_last, last_of, other_than}
use Rattle.hotel_model.proofs.Names.{in_state, card_of, with_spare, Begun, Cancelled, Issue, CheckOut, Entered, Left}
use Rattle.hotel_model.proofs.Names.{Install, Kind, NextDay, Recoded, Refitted, Reserved, Spare, History, start, ◌▷◌}
use Rattle.hotel_model.proofs.Names.{day, kinds, rooms, stays, cards, issued, all_issued, newest_link, link_of_party}
use Rattle.hotel_model.proofs.Names.{registered, present_fit, Note, Act}
use Rattle.hotel_nights.specs.declared.stay.StayState.TheVariants as state
use Rattle.keycard_rules.specs.declared.note.Act.TheVariants as act
use Rattle.hotel_building.specs.Building.{event_of, event_by}

-- the history of the commands alone
abbrev pub quiet : History → History
quiet (start t) = start t
quiet (h ▷ Entered room fit count number link at) = quiet h
quiet (h ▷ Left room fit count number link at) = quiet h
quiet (h ▷ Recoded room fit count from to at) = quiet h
quiet (h ▷ event) = quiet h ▷ event

day_quiet : (h : History) → day (quiet h) ≡ day h
day_quiet (start t) = refl
day_quiet (h ▷ Begun first) = refl
day_quiet (h ▷ NextDay) = ap (option_map (λ d. d + 1)) (day_quiet h)
day_quiet (h ▷ _) = day_quiet h

kinds_quiet : (h : History) → kinds (quiet h) ≡ kinds h
kinds_quiet (start t) = refl
kinds_quiet (h ▷ Kind kind) = λ i. insert_key (slice_cmp nat_cmp) (kinds_quiet h i) kind
kinds_quiet (h ▷ _) = kinds_quiet h

rooms_quiet : (h : History) → rooms (quiet h) ≡ rooms h
rooms_quiet (start t) = refl
rooms_quiet (h ▷ Install room kind code) = λ i. insert_entry nat_cmp (rooms_quiet h i) room kind
rooms_quiet (h ▷ _) = rooms_quiet h

stays_quiet : (h : History) → stays (quiet h) ≡ stays h
stays_quiet (start t) = refl
stays_quiet (h ▷ Reserved party guest kind arrive depart) =
    λ i. insert_entry nat_cmp (stays_quiet h i) party
    (record { party = party; guest = guest; kind = kind; arrive = arrive; depart = depart; state = state.Booked })
stays_quiet (h ▷ Cancelled party) = ap (in_state party state.Cancelled) (stays_quiet h)
stays_quiet (h ▷ Issue party room number code) = ap (in_state party (state.InHouse room)) (stays_quiet h)
stays_quiet (h ▷ CheckOut party) = ap (in_state party state.Done) (stays_quiet h)
stays_quiet (h ▷ _) = stays_quiet h

issued_quiet : (h : History) (r : ℕ) → issued (quiet h) r ≡ issued h r
issued_quiet (start t) r = refl
issued_quiet (h ▷ Install room kind code) r = ap (when (room == r) (and_last code)) (issued_quiet h r)
issued_quiet (h ▷ Issue party room number code) r = ap (when (room == r) (and_last code)) (issued_quiet h r)
issued_quiet (h ▷ Refitted room fit code) r = ap (when (room == r) (and_last code)) (issued_quiet h r)
issued_quiet (h ▷ _) r = issued_quiet h r

all_issued_quiet : (h : History) → all_issued (quiet h) ≡ all_issued h
all_issued_quiet (start t) = refl
all_issued_quiet (h ▷ Install room kind code) =
    λ i. insert_entry nat_cmp (all_issued_quiet h i) code
    (record { room = room; place = length (issued_quiet h room i) })
all_issued_quiet (h ▷ Issue party room number code) =
    λ i. insert_entry nat_cmp (all_issued_quiet h i) code
    (record { room = room; place = length (issued_quiet h room i) })
all_issued_quiet (h ▷ Refitted room fit code) =
    λ i. insert_entry nat_cmp (all_issued_quiet h i) code
    (record { room = room; place = length (issued_quiet h room i) })
all_issued_quiet (h ▷ _) = all_issued_quiet h

newest_quiet : (h : History) (r : ℕ) → newest_link (quiet h) r ≡ newest_link h r
newest_quiet (start t) r = refl
newest_quiet (h ▷ Issue party room number code) r =
    λ i. when (room == r) (λ _. Some (record { old_code = last_of (issued_quiet h room i); new_code = code }))
    (newest_quiet h r i)
newest_quiet (h ▷ Refitted room fit code) r = ap (when (room == r) (λ _. None)) (newest_quiet h r)
newest_quiet (h ▷ _) r = newest_quiet h r

link_quiet : (h : History) (p : ℕ) → link_of_party (quiet h) p ≡ link_of_party h p
link_quiet (start t) p = refl
link_quiet (h ▷ Issue party room number code) p =
    λ i. when (party == p) (λ _. Some (record { old_code = last_of (issued_quiet h room i); new_code = code }))
    (link_quiet h p i)
link_quiet (h ▷ _) p = link_quiet h p

cards_quiet : (h : History) → cards (quiet h) ≡ cards h
cards_quiet (start t) = refl
cards_quiet (h ▷ Issue party room number code) =
    λ i. insert_entry nat_cmp (cards_quiet h i) number
    (card_of number party (record { old_code = last_of (issued_quiet h room i); new_code = code }))
cards_quiet (h ▷ Spare party number) = λ i. with_spare number party (link_quiet h party i) (cards_quiet h i)
cards_quiet (h ▷ _) = cards_quiet h

registered_quiet : (h : History) (r : ℕ) → registered (quiet h) r ≡ registered h r
registered_quiet (start t) r = refl
registered_quiet (h ▷ Issue party room number code) r =
    ap (λ o. when (room == r) (λ _. Some party) (other_than party o)) (registered_quiet h r)
registered_quiet (h ▷ CheckOut party) r = ap (other_than party) (registered_quiet h r)
registered_quiet (h ▷ _) r = registered_quiet h r

fit_quiet : (h : History) (r : ℕ) → present_fit (quiet h) r ≡ present_fit h r
fit_quiet (start t) r = refl
fit_quiet (h ▷ Install room kind code) r = ap (when (room == r) (λ _. 1)) (fit_quiet h r)
fit_quiet (h ▷ Refitted room fit code) r = ap (when (room == r) (λ _. fit)) (fit_quiet h r)
fit_quiet (h ▷ _) r = fit_quiet h r

-- Two histories have the same commands.
abbrev pub SameCommands : History → History → Type 0
SameCommands h h' = quiet h ≡ quiet h'

-- what is the same of two histories with the same commands
pub record SameBooks (h h' : History) : Type 0 where
  pub same_day : day h ≡ day h'
  pub same_kinds : kinds h ≡ kinds h'
  pub same_rooms : rooms h ≡ rooms h'
  pub same_stays : stays h ≡ stays h'
  pub same_cards : cards h ≡ cards h'
  pub same_codes : all_issued h ≡ all_issued h'
  pub same_issued : (r : ℕ) → issued h r ≡ issued h' r
  pub same_newest : (r : ℕ) → newest_link h r ≡ newest_link h' r
  pub same_link : (p : ℕ) → link_of_party h p ≡ link_of_party h' p
  pub same_registered : (r : ℕ) → registered h r ≡ registered h' r
  pub same_fit : (r : ℕ) → present_fit h r ≡ present_fit h' r

pub same_books : (h h' : History) → SameCommands h h' → SameBooks h h'
same_books h h' q = record {
  same_day = sym (day_quiet h) ∙ ap day q ∙ day_quiet h';
  same_kinds = sym (kinds_quiet h) ∙ ap kinds q ∙ kinds_quiet h';
  same_rooms = sym (rooms_quiet h) ∙ ap rooms q ∙ rooms_quiet h';
  same_stays = sym (stays_quiet h) ∙ ap stays q ∙ stays_quiet h';
  same_cards = sym (cards_quiet h) ∙ ap cards q ∙ cards_quiet h';
  same_codes = sym (all_issued_quiet h) ∙ ap all_issued q ∙ all_issued_quiet h';
  same_issued = λ r. sym (issued_quiet h r) ∙ ap (λ g. issued g r) q ∙ issued_quiet h' r;
  same_newest = λ r. sym (newest_quiet h r) ∙ ap (λ g. newest_link g r) q ∙ newest_quiet h' r;
  same_link = λ p. sym (link_quiet h p) ∙ ap (λ g. link_of_party g p) q ∙ link_quiet h' p;
  same_registered = λ r. sym (registered_quiet h r) ∙ ap (λ g. registered g r) q ∙ registered_quiet h' r;
  same_fit = λ r. sym (fit_quiet h r) ∙ ap (λ g. present_fit g r) q ∙ fit_quiet h' r;
}

-- a note is no command
pub noted_quiet : (h : History) (note : Note) → SameCommands (h ▷ event_of note) h
noted_quiet h note = by note.act
  where
    by : (a : Act) → SameCommands (h ▷ event_by note a) h
    by (act.Entered number link) = refl
    by (act.Left number link) = refl
    by (act.Recoded from to) = refl
