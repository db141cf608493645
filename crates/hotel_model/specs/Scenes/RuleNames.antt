-- The rules of sound rows by their names in `IsSound`, and those that fail of rows.
use Rattle.std.specs.Prelude.{ℕ, ◌≡◌, Bool, true, not, List, [], ◌∷◌, codes, map, filter}
use Rattle.std.specs.List.{list_all}
use Rattle.hotel_model.specs.Rows.{Rows}
use Rattle.hotel_model.specs.Sound.{keys_in_order, passes_rules}
use Rattle.hotel_model.specs.SoundRooms.{day_in_range, day_before_kinds, kinds_read, room_numbers, lock_places}
use Rattle.hotel_model.specs.SoundRooms.{room_kinds_there, codes_few, note_counts, parties_in_house}
use Rattle.hotel_model.specs.SoundRooms.{secured_hold_last}
use Rattle.hotel_model.specs.SoundStays.{stay_numbers, guests_read, stay_kinds_there, stay_days, stay_rooms}
use Rattle.hotel_model.specs.SoundStays.{nights_fit}
use Rattle.hotel_model.specs.SoundCards.{codes_in_range, code_rooms_there, places_once, card_numbers}
use Rattle.hotel_model.specs.SoundCards.{card_parties_there, links_are_neighbours, links_of_one_party}
use Rattle.hotel_model.specs.SoundCards.{neighbours_are_links, fits_without_links, newest_of_party}
use Rattle.hotel_model.specs.SoundCards.{last_cards_newest}
use Rattle.hotel_model.specs.SoundNotes.{insides_fit, notes_fit, notes_counted, notes_of_fits}
use Rattle.hotel_model.specs.SoundFits.{fit_rooms_there, fit_numbers, first_fits, fit_places_rise, fit_notes_rise}
use Rattle.hotel_model.specs.SoundFits.{last_fits_held, last_fits_noted, fit_notes_few, rows_of_last_fits}
use Rattle.hotel_model.specs.Scenes.BrokenRows.{rows}

-- A rule, after its name.
abbrev pub Rule : Type 0
Rule = List ℕ × (Rows → Bool)

abbrev pub rules : List Rule
rules =
    (codes "keys", keys_in_order)
    ∷ (codes "meta_day", day_in_range)
    ∷ (codes "meta_kinds", day_before_kinds)
    ∷ (codes "kind_reads", kinds_read)
    ∷ (codes "room_number", room_numbers)
    ∷ (codes "room_lock_place", lock_places)
    ∷ (codes "room_kind", room_kinds_there)
    ∷ (codes "room_codes", codes_few)
    ∷ (codes "room_notes", note_counts)
    ∷ (codes "room_party", parties_in_house)
    ∷ (codes "room_secured", secured_hold_last)
    ∷ (codes "stay_number", stay_numbers)
    ∷ (codes "stay_guest", guests_read)
    ∷ (codes "stay_kind", stay_kinds_there)
    ∷ (codes "stay_day", stay_days)
    ∷ (codes "stay_room", stay_rooms)
    ∷ (codes "stay_nights", nights_fit)
    ∷ (codes "code_range", codes_in_range)
    ∷ (codes "code_room", code_rooms_there)
    ∷ (codes "code_places", places_once)
    ∷ (codes "card_number", card_numbers)
    ∷ (codes "card_party", card_parties_there)
    ∷ (codes "card_link", links_are_neighbours)
    ∷ (codes "card_one_party", links_of_one_party)
    ∷ (codes "card_neighbours", neighbours_are_links)
    ∷ (codes "card_fits", fits_without_links)
    ∷ (codes "card_newest", newest_of_party)
    ∷ (codes "card_last", last_cards_newest)
    ∷ (codes "inside_fits", insides_fit)
    ∷ (codes "note_counted", notes_counted)
    ∷ (codes "note_fits", notes_fit)
    ∷ (codes "note_of_fit", notes_of_fits)
    ∷ (codes "fit_room", fit_rooms_there)
    ∷ (codes "fit_number", fit_numbers)
    ∷ (codes "fit_first", first_fits)
    ∷ (codes "fit_places", fit_places_rise)
    ∷ (codes "fit_notes", fit_notes_rise)
    ∷ (codes "fit_held", last_fits_held)
    ∷ (codes "fit_noted", last_fits_noted)
    ∷ (codes "fit_few", fit_notes_few)
    ∷ (codes "fit_of_room", rows_of_last_fits)
    ∷ []

-- the names of the rules that fail
abbrev pub broken : Rows → List (List ℕ)
broken these = map (λ (rule : Rule). rule.0) (filter (λ (rule : Rule). not (rule.1 these)) rules)

-- Rows, after the names of the rules that fail of them.
abbrev pub Broken : Type 0
Broken = List (List ℕ) × Rows

-- Just these rules fail of the rows, and so does the test of all rules.
abbrev pub AreBroken : List Broken → Type 0
AreBroken these =
    (map (λ (b : Broken). broken b.1) these ≡ map (λ (b : Broken). b.0) these)
    × (list_all (λ (b : Broken). not (passes_rules b.1)) these ≡ true)

-- No rule fails of the rows.
abbrev pub IsWhole : Rows → Type 0
IsWhole these = (broken these ≡ []) × (passes_rules these ≡ true)

-- The rows before a change are sound.
abbrev pub AreSound : Type 0
AreSound = IsWhole rows
