-- What becomes of rows that are joined with the fits (`hotel_rows` has how) where a table is written or read.
use Rattle.std.proofs.Common.{◌≡◌, ◌<◌, ◌≤◌, ◌+◌, ◌==◌, ◌||◌, not, refl, sym, ap, ap₂, ◌∙◌, inl, inr, ℕ, true}
use Rattle.std.proofs.Common.{cond, Option, Some, List, [], ◌∷◌, ◌++◌, map, length, take, get_or, arith, eqb, nat_lt}
use Rattle.std.proofs.Common.{nat_le, nat_cmp, Less}
use Rattle.std.specs.Prelude.{option_map, filter_map}
use Rattle.std.specs.List.{list_all, cons_option}
use Rattle.std.specs.Map.{keys_of, values_of}
use Rattle.std.specs.BTreeMap.{insert_entry}
use Rattle.std.proofs.lemmas.Bool.{cases_Bool}
use Rattle.std.proofs.lemmas.Bool.Decides.{nat_tests}
use Rattle.std.proofs.lemmas.List.{take_more}
use Rattle.sqlite.specs.Tree.{IsAscending}
use Rattle.keycard_rules.specs.Note.{Note}
use Rattle.hotel_model.specs.declared.rows.RoomRow.{RoomRow}
use Rattle.hotel_model.specs.declared.rows.FitRow.{FitRow}
use Rattle.hotel_model.specs.Words.{pair_cmp}
use Rattle.hotel_model.specs.Rows.{at_number, fits_at, last_fit}
use Rattle.hotel_model.specs.Refinement.Change.{room_changed}
use Rattle.hotel_model.proofs.OfTables.Tests.{and_true}
use Rattle.hotel_model.proofs.OfTables.KeysInOrder.{InOrder}
use Rattle.hotel_model.proofs.OfTables.FitLists.{last_more}
use Rattle.hotel_rows.specs.Joined.{with_last, with_fit, fit_of_number, under_fit, FitEntries}
use Rattle.hotel_rows.proofs.OfJoined.{HasOneMore, fit_put, is_earlier, notes_stay, once_in_order, refit_joined}
use Rattle.hotel_rows.proofs.OfJoined.{room_joined, room_change_joined, number_before, number_after}
use Rattle.hotel_statements.specs.Tables.{by_key}
use Rattle.hotel_statements.specs.Steps.{is_below, is_up_to}
use Rattle.hotel_statements.proofs.Risen.{keys_rise}

-- a room's row with the last of its fits
abbrev pub fitted : FitEntries → ℕ → RoomRow → RoomRow
fitted fits room row = with_last (last_fit (fits_at fits room)) row

-- ---- a table that is written

-- a change that moves neither the fit nor the notes before it
pub room_moved : (fits : FitEntries) (k : ℕ) (f : RoomRow → RoomRow)
    → ((last : Option FitRow) (row : RoomRow) → with_last last (f row) ≡ f (with_last last row))
    → (es : List (ℕ × RoomRow))
    → map (with_fit fits) (room_changed k f es) ≡ room_changed k f (map (with_fit fits) es)
room_moved fits k f same es = room_change_joined fits k f f es (λ row _. same (last_fit (fits_at fits k)) row)

unmoved : (k : ℕ) (es : List (ℕ × RoomRow)) → room_changed k (λ row. row) es ≡ es
unmoved k [] = refl
unmoved k (e ∷ es) = elim (cases_Bool (eqb e.0 k)) [
  | inl at ↦ rw at refl
  | inr other ↦ rw other (ap (λ rest. e ∷ rest) (unmoved k es))
]

-- one more fit, the last of its room
module _ (fits : FitEntries) (fit : FitRow) (up : InOrder pair_cmp (keys_of fits))
    (later : list_all (is_below fit.room fit.fit) fits ≡ true) where
  abbrev more : FitEntries
  more = insert_entry pair_cmp fits (fit.room, fit.fit) fit

  one_more : HasOneMore fits more fit.room fit
  one_more = fit_put fits fit.room fit.fit fit up later

  pub rooms_fitted : (es : List (ℕ × RoomRow)) → IsAscending (λ a b. by_key nat_cmp a b ≡ Less) es
      → map (with_fit more) es ≡ room_changed fit.room (λ row. record row { fit = fit.fit; before = fit.before })
      (map (with_fit fits) es)
  rooms_fitted es rise =
      ap (map (with_fit more)) (sym (unmoved fit.room es))
      ∙ refit_joined fits more fit.room fit one_more (λ row. row)
      (λ row. record row { fit = fit.fit; before = fit.before }) es (once_in_order es (keys_rise nat_cmp es rise))
      (λ row _. refl)

  all_earlier : (es : List ((ℕ × ℕ) × Note)) → list_all (is_up_to fit.room fit.before) es ≡ true
      → list_all (is_earlier fit.room fit) es ≡ true
  all_earlier [] noted = refl
  all_earlier (e ∷ es) noted =
      let both = and_true (is_up_to fit.room fit.before e) (list_all (is_up_to fit.room fit.before) es) noted in
      let turned : (fit.room == e.0.0) ≡ (e.0.0 == fit.room) = grind (arith, nat_tests) in
      let one : is_earlier fit.room fit e ≡ true = ap (λ b. not b || nat_le e.0.1 fit.before) turned ∙ both.0 in
      rw one (all_earlier es both.1)

  pub notes_kept : (es : List ((ℕ × ℕ) × Note)) → list_all (is_up_to fit.room fit.before) es ≡ true
      → map (under_fit more) es ≡ map (under_fit fits) es
  notes_kept es noted = notes_stay fits more fit.room fit one_more es (all_earlier es noted)

-- the numbers of notes aren't moved
pub noted_bare : (fits : FitEntries) (fit : FitRow) (es : List ((ℕ × ℕ) × Note))
    → list_all (is_up_to fit.room fit.before) (map (under_fit fits) es) ≡ true
    → list_all (is_up_to fit.room fit.before) es ≡ true
noted_bare fits fit [] noted = refl
noted_bare fits fit (e ∷ es) noted =
    let both = and_true (is_up_to fit.room fit.before e)
    (list_all (is_up_to fit.room fit.before) (map (under_fit fits) es)) noted in
    rw both.0 (noted_bare fits fit es both.1)

-- ---- the last fit, and that of a number, of the first so many fits and one more

pub last_taken : (fits : List FitRow) (i : ℕ) (fit : FitRow) → i < length fits → fit ≡ get_or fits i fit → Some fit
    ≡ last_fit (take (i + 1) fits)
last_taken fits i fit low is = ap Some is ∙ sym (ap last_fit (take_more fits i fit low)
    ∙ last_more (take i fits) (get_or fits i fit))

of_more : (fs : List FitRow) (fit : FitRow) (n : ℕ) → fit_of_number (fs ++ fit ∷ []) n
    ≡ cond (nat_lt fit.before n) (Some fit) (fit_of_number fs n)
of_more fs fit n = elim (cases_Bool (nat_lt fit.before n)) [
  | inl low ↦ let below : fit.before < n = grind (arith, nat_tests, low) in rw low (number_after fs fit n below)
  | inr other ↦ let up_to : n ≤ fit.before = grind (arith, nat_tests, other) in rw other (number_before fs fit n up_to)
]

pub of_taken : (fits : List FitRow) (i : ℕ) (fit : FitRow) (n : ℕ) → i < length fits → fit ≡ get_or fits i fit
    → fit_of_number (take (i + 1) fits) n ≡ cond (nat_lt fit.before n) (Some fit) (fit_of_number (take i fits) n)
of_taken fits i fit n low is =
    ap (λ fs. fit_of_number fs n) (take_more fits i fit low) ∙ of_more (take i fits) (get_or fits i fit) n
    ∙ ap (λ (f : FitRow). cond (nat_lt f.before n) (Some f) (fit_of_number (take i fits) n)) (sym is)

-- ---- what doesn't look at the fits

-- a room that its table has is among the rows, with its last fit
pub joined_there : (fits : FitEntries) (es : List (ℕ × RoomRow)) (e : ℕ × RoomRow) → at_number es e.0 ≡ Some e.1
    → at_number (map (with_fit fits) es) e.0 ≡ Some (fitted fits e.0 e.1)
joined_there fits es e found = room_joined fits es e.0 ∙ ap (option_map (fitted fits e.0)) found

pub values_kept : {R : Type 0} (fits : FitEntries) (f : RoomRow → Option R)
    → ((last : Option FitRow) (row : RoomRow) → f (with_last last row) ≡ f row) → (es : List (ℕ × RoomRow))
    → filter_map f (values_of (map (with_fit fits) es)) ≡ filter_map f (values_of es)
values_kept fits f same [] = refl
values_kept fits f same (e ∷ es) = ap₂ cons_option (same (last_fit (fits_at fits e.0)) e.1) (values_kept fits f same es)
