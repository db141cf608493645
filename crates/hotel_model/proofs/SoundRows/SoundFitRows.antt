-- Fits: each is of its key and its room is there; those of a room are numbered from 1 on, and each comes after the
-- others.
use Rattle.std.proofs.Common.{ℕ, ◌≡◌, Bool, true, Option, Some, ap, sym, ◌∙◌, ◌==◌, ◌&&◌, nat_le, is_some}
use Rattle.hotel_model.proofs.Names.{FitRow, said_of, at_number, History, fits, present_fit, is_room, rows_of, Reached}
use Rattle.hotel_model.proofs.Names.{fit_rooms_there, fit_numbers, first_fits, fit_places_rise, fit_notes_rise}
use Rattle.hotel_model.proofs.Names.{last_fits_held, last_fits_noted, fit_notes_few, rows_of_last_fits}
use Rattle.hotel_model.proofs.{OfTables.Tests.eq_from, OfTables.Tests.and_true, OfTables.Tests.le_tested}
use Rattle.hotel_model.proofs.{OfTables.RowTests.both, OfTables.RowTests.all_weaker}
use Rattle.hotel_model.proofs.{Invariants.FitsKept.is_kept_fit, Invariants.FitsKept.fits_kept}
use Rattle.hotel_model.proofs.{Invariants.FitsOf.fits_of, RowsAfter.HasRows.room_has_row}
use Rattle.hotel_model.proofs.SoundRows.SoundRoomRows.{each_room_is, listed_there, eq_tested}

parts : (h : History) (e : (ℕ × ℕ) × FitRow)
    → is_kept_fit h e ≡ true → (((e.1.room == e.0.0) && (e.1.fit == e.0.1)) ≡ true) × (is_room h e.1.room ≡ true)
parts h e t =
    let p =
    and_true ((e.1.room == e.0.0) && (e.1.fit == e.0.1) && is_room h e.0.0) (nat_le e.0.1 (present_fit h e.0.0)) t in
    let q = and_true ((e.1.room == e.0.0) && (e.1.fit == e.0.1)) (is_room h e.0.0) p.0 in
    (q.0, ap (is_room h) (eq_from e.1.room e.0.0 (and_true (e.1.room == e.0.0) (e.1.fit == e.0.1) q.0).0) ∙ q.1)

-- The room of each fit is there.
pub fit_rooms : (h : History) → Reached h → fit_rooms_there (rows_of h) ≡ true
fit_rooms h ok = all_weaker (is_kept_fit h) (λ e. is_some (at_number (rows_of h).rooms e.1.room))
    (λ e t. room_has_row h e.1.room (parts h e t).1) (fits h) (fits_kept h ok)

-- Fits are numbered from 1 on, up to 99.
pub fits_numbered : (h : History) → Reached h → fit_numbers (rows_of h) ≡ true
fits_numbered h ok =
    both _ _ (all_weaker (is_kept_fit h) (λ e. (e.1.room == e.0.0) && (e.1.fit == e.0.1))
    (λ e t. (parts h e t).0) (fits h) (fits_kept h ok))
    (each_room_is h ok _ (λ r kind e. let f = fits_of h ok r (listed_there h r kind e) in
    both _ _ (both _ _ f.numbers (le_tested 1 _ f.least)) (le_tested _ 99 f.most)))

-- The first one is at place 0, with no note before it.
pub firsts_first : (h : History) → Reached h → first_fits (rows_of h) ≡ true
firsts_first h ok = each_room_is h ok _ (λ r kind e. (fits_of h ok r (listed_there h r kind e)).first)

-- Their places rise.
pub places_rise : (h : History) → Reached h → fit_places_rise (rows_of h) ≡ true
places_rise h ok = each_room_is h ok _ (λ r kind e. (fits_of h ok r (listed_there h r kind e)).places)

-- The notes before them don't fall.
pub notes_rise : (h : History) → Reached h → fit_notes_rise (rows_of h) ≡ true
notes_rise h ok = each_room_is h ok _ (λ r kind e. (fits_of h ok r (listed_there h r kind e)).rise)

said_last : (o : Option FitRow) (f : FitRow) (t : FitRow → Bool) → o ≡ Some f → t f ≡ true → said_of o true t ≡ true
said_last o f t e u = ap (λ z. said_of z true t) e ∙ u

-- The last one isn't after the lock's place.
pub lasts_held : (h : History) → Reached h → last_fits_held (rows_of h) ≡ true
lasts_held h ok = each_room_is h ok _
    (λ r kind e. let l = (fits_of h ok r (listed_there h r kind e)).last in said_last _ l.0 _ l.1 (le_tested _ _ l.4))

-- It has at most as many notes before it as the room has.
pub lasts_noted : (h : History) → Reached h → last_fits_noted (rows_of h) ≡ true
lasts_noted h ok = each_room_is h ok _
    (λ r kind e. let l = (fits_of h ok r (listed_there h r kind e)).last in said_last _ l.0 _ l.1 (le_tested _ _ l.5))

-- No fit has more than 9,999,999 notes.
pub fits_few : (h : History) → Reached h → fit_notes_few (rows_of h) ≡ true
fits_few h ok = each_room_is h ok _ (λ r kind e. (fits_of h ok r (listed_there h r kind e)).few)

-- A room's row says of its last fit which it is, and how many notes were taken before it.
pub rows_of_lasts : (h : History) → Reached h → rows_of_last_fits (rows_of h) ≡ true
rows_of_lasts h ok = each_room_is h ok _ (λ r kind e. let l = (fits_of h ok r (listed_there h r kind e)).last in
    said_last _ l.0 _ l.1 (both _ _ (eq_tested _ _ (sym l.2)) (eq_tested _ _ (sym l.3))))
