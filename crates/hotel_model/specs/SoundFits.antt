-- The rules of sound rows, fifth part: the fits. Each rule is a test of all rows.
use Rattle.std.specs.Prelude.{ℕ, Bool, true, List, [], ◌∷◌, ◌++◌, ◌-◌, ◌==◌, ◌&&◌, nat_le, length, is_some, map}
use Rattle.std.specs.Ordering.{nat_cmp}
use Rattle.std.specs.List.{list_all}
use Rattle.keycard_rules.specs.declared.numbers.TheConstants.{LAST_FIT, LAST_NUMBER}
use Rattle.hotel_model.specs.declared.rows.RoomRow.{RoomRow}
use Rattle.hotel_model.specs.declared.rows.FitRow.{FitRow}
use Rattle.hotel_model.specs.Words.{said_of}
use Rattle.hotel_model.specs.Rows.{Rows, FitKey, at_number, fits_at, last_fit}
use Rattle.hotel_model.specs.SoundRooms.{are_in_order, count_up, each_room}

-- each fit's room is there
abbrev pub fit_rooms_there : Rows → Bool
fit_rooms_there rows = list_all (λ (e : FitKey × FitRow). is_some (at_number rows.rooms e.1.room)) rows.fits

-- the rule holds of the fits of each room, and its row
abbrev pub each_fitted : Rows → (List FitRow → RoomRow → Bool) → Bool
each_fitted rows rule = each_room rows (λ row. rule (fits_at rows.fits row.room) row)

-- each row is of its key; the numbers of each room's fits are 1 to n, n from 1 to the last fit
abbrev pub fit_numbers : Rows → Bool
fit_numbers rows = list_all (λ (e : FitKey × FitRow). (e.1.room == e.0.0) && (e.1.fit == e.0.1)) rows.fits
    && each_fitted rows (λ fits row. count_up 1 (map (λ (f : FitRow). f.fit) fits) && nat_le 1 (length fits)
    && nat_le (length fits) LAST_FIT)

-- the first of some fits is at place 0, with no note before it
abbrev pub first_is_first : List FitRow → Bool
first_is_first [] = true
first_is_first (f ∷ fs) = (f.place == 0) && (f.before == 0)

-- each room's first fit is at place 0, with no note before it
abbrev pub first_fits : Rows → Bool
first_fits rows = each_fitted rows (λ fits row. first_is_first fits)

-- the places of each room's fits rise
abbrev pub fit_places_rise : Rows → Bool
fit_places_rise rows = each_fitted rows (λ fits row. are_in_order nat_cmp (map (λ (f : FitRow). f.place) fits))

-- no number is less than the one before it
abbrev pub none_fall : List ℕ → Bool
none_fall [] = true
none_fall (n ∷ []) = true
none_fall (n ∷ m ∷ ns) = nat_le n m && none_fall (m ∷ ns)

-- how many notes were taken before each of some fits
abbrev pub notes_before_each : List FitRow → List ℕ
notes_before_each fits = map (λ (f : FitRow). f.before) fits

-- of each room's fits none has fewer notes before it than an earlier one
abbrev pub fit_notes_rise : Rows → Bool
fit_notes_rise rows = each_fitted rows (λ fits row. none_fall (notes_before_each fits))

-- the last fit of each room begins at a place not after the lock's
abbrev pub last_fits_held : Rows → Bool
last_fits_held rows = each_fitted rows (λ fits row. said_of (last_fit fits) true (λ f. nat_le f.place row.lock_place))

-- the last fit of each room has at most as many notes before it as the room has
abbrev pub last_fits_noted : Rows → Bool
last_fits_noted rows = each_fitted rows (λ fits row. said_of (last_fit fits) true (λ f. nat_le f.before row.notes))

-- each number is above the one before it by no more than a lock can count
abbrev pub rise_by_few : List ℕ → Bool
rise_by_few [] = true
rise_by_few (n ∷ []) = true
rise_by_few (n ∷ m ∷ ns) = nat_le (m - n) LAST_NUMBER && rise_by_few (m ∷ ns)

-- no fit has more notes than a lock can count
abbrev pub fit_notes_few : Rows → Bool
fit_notes_few rows = each_fitted rows (λ fits row. rise_by_few (notes_before_each fits ++ row.notes ∷ []))

-- each room's row says of its last fit which it is, and how many notes were taken before it
abbrev pub rows_of_last_fits : Rows → Bool
rows_of_last_fits rows =
    each_fitted rows (λ fits row. said_of (last_fit fits) true (λ f. (row.fit == f.fit) && (row.before == f.before)))
