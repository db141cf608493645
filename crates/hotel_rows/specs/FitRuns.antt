-- What is known of the fits of each room.
use Rattle.std.specs.Prelude.{ℕ, ◌≡◌, ◌+◌, ◌-◌, ◌==◌, ◌&&◌, Bool, true, false, nat_le, nat_lt}
use Rattle.std.specs.Prelude.{List, [], ◌∷◌, map, length, Option, Some, None, is_some}
use Rattle.std.specs.List.{list_any}
use Rattle.std.specs.Map.{lookup}
use Rattle.std.specs.BTreeMap.{is_at}
use Rattle.keycard_rules.specs.declared.numbers.TheConstants.{LAST_FIT, LAST_NUMBER}
use Rattle.hotel_model.specs.declared.rows.FitRow.{FitRow}
use Rattle.hotel_model.specs.Words.{said_of, pair_cmp}
use Rattle.hotel_model.specs.Rows.{PlaceKey, at_number, fits_at}
use Rattle.hotel_rows.specs.declared.damage.fit_runs.FitRun.{FitRun}
use Rattle.hotel_rows.specs.declared.damage.fit_runs.RoomFits.{RoomFits}
use Rattle.hotel_rows.specs.declared.stored.PlainFit.{PlainFit}
use Rattle.hotel_rows.specs.declared.stored.PlainRoom.{PlainRoom}
use Rattle.hotel_rows.specs.Stored.{number_of, fit_entry}

-- a fit comes next after another one: its number does, its place is later, and the notes before it aren't fewer, and
-- no more than a lock can count
abbrev pub comes_next : FitRow → FitRow → Bool
comes_next f g =
    (g.fit == f.fit + 1) && nat_lt f.place g.place && nat_le f.before g.before
    && nat_le (g.before - f.before) LAST_NUMBER

-- each fit after this one comes next after the one before it
abbrev pub all_follow : FitRow → List FitRow → Bool
all_follow f [] = true
all_follow f (g ∷ gs) = comes_next f g && all_follow g gs

-- the last of some fits after this one, or this one
abbrev pub last_after : FitRow → List FitRow → FitRow
last_after f [] = f
last_after f (g ∷ gs) = last_after g gs

-- how many fits there are, the first and the last, and whether each comes next after the one before it
abbrev pub fit_run_of : List FitRow → Option FitRun
fit_run_of [] = None
fit_run_of (f ∷ fs) = Some (record {
  fits = length (f ∷ fs);
  fit = f.fit;
  place = f.place;
  before = f.before;
  last_place = (last_after f fs).place;
  last_before = (last_after f fs).before;
  in_order = all_follow f fs;
})

-- the first fit, of which the room isn't known
abbrev pub first_in : FitRun → FitRow
first_in run = record { room = 0; fit = run.fit; place = run.place; before = run.before }

-- how many fits a room has
abbrev pub fit_count : List (ℕ × FitRun) → ℕ → ℕ
fit_count runs room = said_of (at_number runs room) 0 (λ run. run.fits)

-- the place of the code that the room's last fit begins with, 0 where it has none
abbrev pub last_place_in : List (ℕ × FitRun) → ℕ → ℕ
last_place_in runs room = said_of (at_number runs room) 0 (λ run. run.last_place)

-- the map has what the fits of each room are
abbrev pub FitRunsOf : List (ℕ × FitRun) → List PlainFit → Type 0
FitRunsOf runs plain_rows = (room : ℕ) → at_number runs room ≡ fit_run_of (fits_at (map fit_entry plain_rows) room)

-- the room of a fit, and the place of the code that it begins with
abbrev pub begin_key : PlainFit → PlaceKey
begin_key plain = (number_of plain.room, number_of plain.place)

-- a fit of the room begins with the code at this place
abbrev pub begins_in : List (PlaceKey × ℕ) → ℕ → ℕ → Bool
begins_in begins room place = is_some (lookup (is_at (pair_cmp (room, place))) begins)

-- the map has the rooms and places of the codes that fits begin with
abbrev pub BeginsOf : List (PlaceKey × ℕ) → List PlainFit → Type 0
BeginsOf begins plain_rows =
    (room place : ℕ) → begins_in begins room place
    ≡ list_any (λ (f : FitRow). f.place == place) (fits_at (map fit_entry plain_rows) room)

-- What is known is of these fits.
pub record FitsOf (fits : RoomFits) (plain_rows : List PlainFit) : Type 0 where
  pub runs : FitRunsOf fits.runs.entries plain_rows
  pub begins : BeginsOf fits.begins.entries plain_rows

-- the fits of a room are 1 to n, n from 1 on, the first at place 0 with no note before it
abbrev pub starts_at_one : FitRun → Bool
starts_at_one run = run.in_order && (run.fit == 1) && (run.place == 0) && (run.before == 0) && nat_le run.fits LAST_FIT

-- the last of them isn't after the lock's place, nor after the notes, of which it has no more than it can count
abbrev pub is_ended : PlainRoom → FitRun → Bool
is_ended plain run =
    nat_le run.last_place (number_of plain.lock_place) && nat_le run.last_before (number_of plain.notes)
    && nat_le (number_of plain.notes - run.last_before) LAST_NUMBER

-- the room's fits are as they must be
abbrev pub fitted_as_due : List (ℕ × FitRun) → PlainRoom → Bool
fitted_as_due runs plain =
    said_of (at_number runs (number_of plain.room)) false (λ run. starts_at_one run && is_ended plain run)
