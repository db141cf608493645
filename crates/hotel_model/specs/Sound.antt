-- Sound rows: the rules, each with a name.
use Rattle.std.specs.Prelude.{ℕ, ◌≡◌, ◌≤◌, ◌↔◌, Bool, true, List, ◌&&◌}
use Rattle.std.specs.Ordering.{nat_cmp}
use Rattle.std.specs.Cmp.Lexicographic.{slice_cmp}
use Rattle.std.specs.Map.{keys_of, values_of}
use Rattle.hotel_model.specs.Words.{pair_cmp}
use Rattle.hotel_nights.specs.FullNight.{nights_taken}
use Rattle.hotel_model.specs.Rows.{Rows, rooms_of_kind}
use Rattle.hotel_model.specs.SoundRooms.{are_in_order, day_in_range, day_before_kinds, kinds_read, room_numbers}
use Rattle.hotel_model.specs.SoundRooms.{lock_places, room_kinds_there, codes_few, note_counts, parties_in_house}
use Rattle.hotel_model.specs.SoundRooms.{secured_hold_last}
use Rattle.hotel_model.specs.SoundStays.{stay_numbers, guests_read, stay_kinds_there, stay_days, stay_rooms, nights_fit}
use Rattle.hotel_model.specs.SoundCards.{codes_in_range, code_rooms_there, places_once, card_numbers}
use Rattle.hotel_model.specs.SoundCards.{card_parties_there, links_are_neighbours, links_of_one_party}
use Rattle.hotel_model.specs.SoundCards.{neighbours_are_links, fits_without_links, newest_of_party, last_cards_newest}
use Rattle.hotel_model.specs.SoundNotes.{insides_fit, notes_fit, notes_counted, notes_of_fits}
use Rattle.hotel_model.specs.SoundFits.{fit_rooms_there, fit_numbers, first_fits, fit_places_rise, fit_notes_rise}
use Rattle.hotel_model.specs.SoundFits.{last_fits_held, last_fits_noted, fit_notes_few, rows_of_last_fits}

-- Each table is in the order of its keys, and no key stands twice.
abbrev pub keys_in_order : Rows → Bool
keys_in_order rows = are_in_order (slice_cmp nat_cmp) rows.kinds && are_in_order nat_cmp (keys_of rows.rooms)
    && are_in_order nat_cmp (keys_of rows.codes)
    && are_in_order nat_cmp (keys_of rows.stays) && are_in_order nat_cmp (keys_of rows.cards)
    && are_in_order pair_cmp rows.inside && are_in_order pair_cmp (keys_of rows.notes)
    && are_in_order pair_cmp (keys_of rows.fits)

-- Rows are sound where each rule holds.
pub record IsSound (rows : Rows) : Type 0 where
  -- each table in the order of its keys, no key twice
  pub keys : keys_in_order rows ≡ true
  -- meta: the day is null or in range; it is null only where there is no kind
  pub meta_day : day_in_range rows ≡ true
  pub meta_kinds : day_before_kinds rows ≡ true
  -- kind: each reads as a kind code
  pub kind_reads : kinds_read rows ≡ true
  -- room
  pub room_number : room_numbers rows ≡ true
  pub room_lock_place : lock_places rows ≡ true
  pub room_kind : room_kinds_there rows ≡ true
  pub room_codes : codes_few rows ≡ true
  pub room_notes : note_counts rows ≡ true
  pub room_party : parties_in_house rows ≡ true
  pub room_secured : secured_hold_last rows ≡ true
  -- stay
  pub stay_number : stay_numbers rows ≡ true
  pub stay_guest : guests_read rows ≡ true
  pub stay_kind : stay_kinds_there rows ≡ true
  pub stay_day : stay_days rows ≡ true
  pub stay_room : stay_rooms rows ≡ true
  -- on no night are more booked and in-house stays of a kind than its rooms
  pub stay_nights : (kind : List ℕ) (d : ℕ) → nights_taken (values_of rows.stays) kind d ≤ rooms_of_kind rows.rooms kind
  -- code
  pub code_range : codes_in_range rows ≡ true
  pub code_room : code_rooms_there rows ≡ true
  pub code_places : places_once rows ≡ true
  -- card
  pub card_number : card_numbers rows ≡ true
  pub card_party : card_parties_there rows ≡ true
  pub card_link : links_are_neighbours rows ≡ true
  pub card_one_party : links_of_one_party rows ≡ true
  pub card_neighbours : neighbours_are_links rows ≡ true
  pub card_fits : fits_without_links rows ≡ true
  pub card_newest : newest_of_party rows ≡ true
  pub card_last : last_cards_newest rows ≡ true
  -- inside
  pub inside_fits : insides_fit rows ≡ true
  -- note
  pub note_counted : notes_counted rows ≡ true
  pub note_fits : notes_fit rows ≡ true
  pub note_of_fit : notes_of_fits rows ≡ true
  -- fit
  pub fit_room : fit_rooms_there rows ≡ true
  pub fit_number : fit_numbers rows ≡ true
  pub fit_first : first_fits rows ≡ true
  pub fit_places : fit_places_rise rows ≡ true
  pub fit_notes : fit_notes_rise rows ≡ true
  pub fit_held : last_fits_held rows ≡ true
  pub fit_noted : last_fits_noted rows ≡ true
  pub fit_few : fit_notes_few rows ≡ true
  pub fit_of_room : rows_of_last_fits rows ≡ true

-- The rules as one test; the nights are looked at where a stay begins, for a fullest night is one of these.
abbrev pub passes_rules : Rows → Bool
passes_rules rows =
    keys_in_order rows && day_in_range rows && day_before_kinds rows && kinds_read rows && room_numbers rows
    && lock_places rows && room_kinds_there rows
    && codes_few rows && note_counts rows && parties_in_house rows && secured_hold_last rows && stay_numbers rows
    && guests_read rows && stay_kinds_there rows
    && stay_days rows && stay_rooms rows && nights_fit rows && codes_in_range rows && code_rooms_there rows
    && places_once rows && card_numbers rows
    && card_parties_there rows && links_are_neighbours rows && links_of_one_party rows && neighbours_are_links rows
    && fits_without_links rows && newest_of_party rows
    && last_cards_newest rows && insides_fit rows && notes_counted rows && notes_fit rows && notes_of_fits rows
    && fit_rooms_there rows && fit_numbers rows
    && first_fits rows && fit_places_rise rows && fit_notes_rise rows && last_fits_held rows && last_fits_noted rows
    && fit_notes_few rows && rows_of_last_fits rows

-- Rows are sound exactly where they pass the test.
abbrev pub RulesAreTested : Type 0
RulesAreTested = (rows : Rows) → (passes_rules rows ≡ true) ↔ IsSound rows
