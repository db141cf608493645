-- The fits of each room, from the last one on, and what is looked up of them.
use Rattle.std.proofs.Common.{◌≡◌, ◌≤◌, ◌<◌, ℕ, pos, ◌-◌, Bool, true, false, cond, ◌==◌, ◌&&◌, List, [], ◌∷◌, map}
use Rattle.std.proofs.Common.{length, Some, None, refl, sym, ap, ap₂, ◌∙◌, arith}
use Rattle.std.specs.Prelude.{is_some, ◌||◌}
use Rattle.std.specs.List.{list_any}
use Rattle.std.specs.BTreeMap.{is_at}
use Rattle.std.specs.Map.{lookup, values_of}
use Rattle.hotel_model.specs.declared.rows.FitRow.{FitRow}
use Rattle.hotel_model.specs.Words.{when, said_of, pair_cmp}
use Rattle.hotel_model.specs.Rows.{at_number, fits_at, last_fit, begins_fit, newest_link_at, last_link_of}
use Rattle.hotel_books.proofs.OfTables.MapEntries.{eq_from, eq_turned, pair_is, known_by}
use Rattle.hotel_rows.specs.declared.damage.fit_runs.FitRun.{FitRun}
use Rattle.hotel_rows.specs.declared.stored.PlainFit.{PlainFit}
use Rattle.hotel_rows.specs.declared.damage.code_places.Placed.{Placed}
use Rattle.hotel_rows.specs.declared.stored.Stored.{Stored}
use Rattle.hotel_rows.specs.Stored.{number_of, fit_row, fit_entry, plain_fits, rows_of}
use Rattle.hotel_rows.specs.CodePlaces.{places_in, listed_in, PlacesOf, are_due_at}
use Rattle.hotel_rows.specs.FitRuns.{fit_run_of, fit_count, last_place_in, last_after, begin_key, begins_in, FitRunsOf}
use Rattle.hotel_rows.specs.FitRuns.{BeginsOf}
use Rattle.hotel_rows.proofs.OfDamage.Newest.{length_values, due_parts}

-- what stands past the end of a list of fits
abbrev pub no_fit : PlainFit
no_fit = record { room = pos 0; fit = pos 0; place = pos 0; before = pos 0 }

-- ---- runs

more_by : (b : Bool) (plain : PlainFit) (plain_rows : List PlainFit) (before : List (ℕ × FitRun)) (r : ℕ)
    → (number_of plain.room == r) ≡ b → FitRunsOf before plain_rows
    → cond b (fit_run_of (fit_row plain ∷ fits_at (map fit_entry plain_rows) (number_of plain.room)))
    (at_number before r)
    ≡ fit_run_of (when b (λ fits. fit_row plain ∷ fits) (fits_at (map fit_entry plain_rows) r))
more_by true plain plain_rows before r e is =
    ap (λ q. fit_run_of (fit_row plain ∷ fits_at (map fit_entry plain_rows) q))
    (eq_from (number_of plain.room) r e)
more_by false plain plain_rows before r e is = is r

-- a fit more, before the others
pub runs_more : (before after : List (ℕ × FitRun)) (plain : PlainFit) (plain_rows : List PlainFit)
    → FitRunsOf before plain_rows
    → ((r : ℕ) (fs : List FitRow) → at_number before (number_of plain.room) ≡ fit_run_of fs
    → at_number after r ≡ cond (r == number_of plain.room) (fit_run_of (fit_row plain ∷ fs)) (at_number before r))
    → FitRunsOf after (plain ∷ plain_rows)
runs_more before after plain plain_rows is put r =
    let fs = fits_at (map fit_entry plain_rows) (number_of plain.room) in
    put r fs (is (number_of plain.room))
    ∙ ap (λ b. cond b (fit_run_of (fit_row plain ∷ fs)) (at_number before r)) (eq_turned r (number_of plain.room))
    ∙ more_by (number_of plain.room == r) plain plain_rows before r refl is

run_length : (fs : List FitRow) → said_of (fit_run_of fs) 0 (λ run. run.fits) ≡ length fs
run_length [] = refl
run_length (f ∷ fs) = refl

-- how many fits a room has
pub fits_counted : (runs : List (ℕ × FitRun)) (plain_rows : List PlainFit) (room : ℕ) → FitRunsOf runs plain_rows
    → fit_count runs room ≡ length (fits_at (map fit_entry plain_rows) room)
fits_counted runs plain_rows room is = ap (λ o. said_of o 0 (λ run. run.fits)) (is room)
    ∙ run_length (fits_at (map fit_entry plain_rows) room)

few_at : (plain_rows : List PlainFit) (room : ℕ) → length (fits_at (map fit_entry plain_rows) room) ≤ length plain_rows
few_at [] room = omega arith
few_at (l ∷ ls) room = by (number_of l.room == room) (few_at ls room)
  where
    by : (b : Bool) → length (fits_at (map fit_entry ls) room) ≤ length ls
        → length (when b (λ fits. fit_row l ∷ fits) (fits_at (map fit_entry ls) room)) ≤ length (l ∷ ls)
    by true ih = omega arith
    by false ih = omega arith

-- a room has at most as many fits as there are
pub few_fits : (runs : List (ℕ × FitRun)) (plain_rows : List PlainFit) (room n : ℕ) → FitRunsOf runs plain_rows
    → length plain_rows < n → fit_count runs room < n
few_fits runs plain_rows room n is few =
    let same = fits_counted runs plain_rows room is in
    let some = few_at plain_rows room in
    omega arith

-- the last of fits
pub last_is_after : (f : FitRow) (fs : List FitRow) → last_fit (f ∷ fs) ≡ Some (last_after f fs)
last_is_after f [] = refl
last_is_after f (g ∷ gs) = last_is_after g gs

-- the place of a room's last fit
pub last_placed : (runs : List (ℕ × FitRun)) (plain_rows : List PlainFit) (room : ℕ) → FitRunsOf runs plain_rows
    → last_place_in runs room ≡ said_of (last_fit (fits_at (map fit_entry plain_rows) room)) 0 (λ f. f.place)
last_placed runs plain_rows room is = ap (λ o. said_of o 0 (λ run. run.last_place)) (is room)
    ∙ by (fits_at (map fit_entry plain_rows) room)
  where
    by : (fs : List FitRow) → said_of (fit_run_of fs) 0 (λ run. run.last_place) ≡ said_of (last_fit fs) 0 (λ f. f.place)
    by [] = refl
    by (f ∷ fs) = sym (ap (λ o. said_of o 0 (λ f. f.place)) (last_is_after f fs))

-- ---- places that fits begin at

any_by : (b : Bool) (f : FitRow) (fits : List FitRow) (place : ℕ)
    → ((b && (f.place == place)) || list_any (λ (f : FitRow). f.place == place) fits)
    ≡ list_any (λ (f : FitRow). f.place == place) (when b (λ fs. f ∷ fs) fits)
any_by true f fits place = refl
any_by false f fits place = refl

-- a fit more, before the others
pub begins_more : (before after : List ((ℕ × ℕ) × ℕ)) (plain : PlainFit) (plain_rows : List PlainFit)
    → BeginsOf before plain_rows
    → ((q : ℕ × ℕ) → lookup (is_at (pair_cmp q)) after
    ≡ cond (is_at (pair_cmp (begin_key plain)) q) (Some (number_of plain.fit)) (lookup (is_at (pair_cmp q)) before))
    → BeginsOf after (plain ∷ plain_rows)
begins_more before after plain plain_rows is put room place =
    let fits = fits_at (map fit_entry plain_rows) room in
    ap is_some (put (room, place))
    ∙ known_by (is_at (pair_cmp (begin_key plain)) (room, place)) (number_of plain.fit)
    (lookup (is_at (pair_cmp (room, place))) before) (list_any (λ (f : FitRow). f.place == place) fits) (is room place)
    ∙ ap (λ b. b || list_any (λ (f : FitRow). f.place == place) fits)
    (pair_is (number_of plain.room) (number_of plain.place) (room, place)
    ∙ ap₂ (λ a b. a && b) (eq_turned room (number_of plain.room)) (eq_turned place (number_of plain.place)))
    ∙ any_by (number_of plain.room == room) (fit_row plain) fits place

-- the newest link of a room, whose codes are at the places that its row says
pub newest_known : (s : Stored) (placed : List (ℕ × Placed)) (begins : List ((ℕ × ℕ) × ℕ)) (room codes : ℕ)
    → PlacesOf placed s.code.items → BeginsOf begins (plain_fits s) → are_due_at placed room codes ≡ true
    → newest_link_at (rows_of s) room ≡ cond (begins_in begins room (codes - 1)) None
    (last_link_of (values_of (places_in placed room)))
newest_known s placed begins room codes is known due =
    let es = places_in placed room in
    let many = length_values es ∙ (due_parts es codes (listed_in placed room) due).1 in
    ap (λ cs. cond (begins_fit (rows_of s) room (length cs - 1)) None (last_link_of cs))
    (ap values_of (sym (is room).0))
    ∙ ap (λ n. cond (begins_fit (rows_of s) room (n - 1)) None (last_link_of (values_of es))) many
    ∙ ap (λ b. cond b None (last_link_of (values_of es))) (sym (known room (codes - 1)))
