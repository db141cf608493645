-- Rows of the first version: the limit of a room's notes is that of its one fit.
use Rattle.std.proofs.Common.{◌≡◌, ℕ, ◌-◌, Bool, true, false, ◌==◌, ◌&&◌, List, [], ◌∷◌, ◌++◌, map, length}
use Rattle.std.proofs.Common.{Option, Some, None, refl, sym, ap, subst, ◌∙◌, arith, nat_le}
use Rattle.std.specs.Prelude.{Vec}
use Rattle.std.specs.declared.alloc.Global.{Global}
use Rattle.std.specs.List.{list_all}
use Rattle.std.proofs.lemmas.Bool.Decides.{nat_tests}
use Rattle.hotel_model.specs.declared.rows.RoomRow.{RoomRow}
use Rattle.hotel_model.specs.declared.rows.FitRow.{FitRow}
use Rattle.hotel_model.specs.Words.{when, said_of}
use Rattle.hotel_model.specs.Rows.{fits_at}
use Rattle.hotel_model.specs.Sound.{IsSound}
use Rattle.hotel_model.specs.SoundRooms.{count_up, note_counts}
use Rattle.hotel_model.specs.SoundFits.{notes_before_each, rise_by_few}
use Rattle.hotel_model.proofs.OfTables.Tests.{and_true, eq_from, le_tested}
use Rattle.hotel_model.proofs.OfTables.RowTests.{both, all_weaker}
use Rattle.hotel_rows.specs.declared.stored.PlainFit.{PlainFit}
use Rattle.hotel_rows.specs.declared.stored.PlainRoom.{PlainRoom}
use Rattle.hotel_rows.specs.declared.stored.Stored.{Stored}
use Rattle.hotel_rows.specs.Stored.{number_of, fit_row, fit_entry, first_fit, fits_of, rows_of}
use Rattle.hotel_rows.specs.Damage.{most_notes, notes_few}
use Rattle.hotel_rows.proofs.OfDamage.NotesOfFits.{all_from}

-- no version has more notes of a room than the second one
at_most : (o : Option (Vec PlainFit Global)) (n : ℕ) → nat_le n (said_of o 9999999 (λ fits. 989999901)) ≡ true
    → nat_le n 989999901 ≡ true
at_most None n h =
    let low : nat_le n 9999999 ≡ true = h in
    grind (arith, nat_tests, low)
at_most (Some fits) n h = h

-- Rooms of few notes have few in any version.
pub few_in_both : (s : Stored) → notes_few s ≡ true → note_counts (rows_of s) ≡ true
few_in_both s few = all_weaker (λ (e : ℕ × RoomRow). nat_le e.1.notes (most_notes s))
    (λ (e : ℕ × RoomRow). nat_le e.1.notes 989999901) (λ e h. at_most s.fit e.1.notes h) (rows_of s).rooms few

-- ---- the notes of a room whose fits have none before them

abbrev none_before : FitRow → Bool
none_before f = f.before == 0

one_more : (b : Bool) (f : FitRow) (fs : List FitRow) → none_before f ≡ true → list_all none_before fs ≡ true
    → list_all none_before (when b (λ fits. f ∷ fits) fs) ≡ true
one_more true f fs first others = both _ _ first others
one_more false f fs first others = others

-- none of the fits that rooms begin with has notes before it
none_before_first : (ls : List PlainRoom) (room : ℕ)
    → list_all none_before (fits_at (map fit_entry (map first_fit ls)) room) ≡ true
none_before_first [] room = refl
none_before_first (l ∷ ls) room =
    one_more (number_of l.room == room) (fit_row (first_fit l)) (fits_at (map fit_entry (map first_fit ls)) room) refl
    (none_before_first ls room)

-- where no fit has notes before it, all notes are those of the last one
few_of_last : (fs : List FitRow) (n : ℕ) → list_all none_before fs ≡ true → nat_le 1 (length fs) ≡ true
    → rise_by_few (notes_before_each fs ++ n ∷ []) ≡ true → nat_le n 9999999 ≡ true
few_of_last [] n none some few = absurd (let w : ◌≡◌ {A = Bool} false true = some in cc)
few_of_last (f ∷ []) n none some few =
    let first : f.before ≡ 0 = eq_from f.before 0 (and_true (none_before f) true none).0 in
    let last : nat_le (n - f.before) 9999999 ≡ true = (and_true (nat_le (n - f.before) 9999999) true few).0 in
    let same : n - f.before ≡ n = omega (arith, first) in
    ap (λ m. nat_le m 9999999) (sym same) ∙ last
few_of_last (f ∷ g ∷ fs) n none some few =
    few_of_last (g ∷ fs) n (and_true (none_before f) (list_all none_before (g ∷ fs)) none).1
    (le_tested 1 (length (g ∷ fs)) (omega arith))
    (and_true (nat_le (g.before - f.before) 9999999) (rise_by_few (notes_before_each (g ∷ fs) ++ n ∷ [])) few).1

-- the rules of fits that limit a room's notes
abbrev has_some : Stored → ℕ × RoomRow → Bool
has_some s e =
    count_up 1 (map (λ (f : FitRow). f.fit) (fits_at (fits_of s) e.1.room))
    && nat_le 1 (length (fits_at (fits_of s) e.1.room)) && nat_le (length (fits_at (fits_of s) e.1.room)) 99

abbrev has_few : Stored → ℕ × RoomRow → Bool
has_few s e = rise_by_few (notes_before_each (fits_at (fits_of s) e.1.room) ++ e.1.notes ∷ [])

few_of_room : (s : Stored) → s.fit ≡ None → (e : ℕ × RoomRow) → has_some s e ≡ true → has_few s e ≡ true
    → nat_le e.1.notes 9999999 ≡ true
few_of_room s first e some few =
    let fs = fits_at (fits_of s) e.1.room in
    let p = and_true _ (nat_le (length fs) 99) some in
    let one = and_true (count_up 1 (map (λ (f : FitRow). f.fit) fs)) (nat_le 1 (length fs)) p.0 in
    let none : list_all none_before fs ≡ true = subst (λ (o : Option (Vec PlainFit Global)). list_all none_before
    (fits_at (map fit_entry (said_of o (map first_fit s.room.items) (λ fits. fits.items))) e.1.room) ≡ true)
    (sym first) (none_before_first s.room.items e.1.room) in
    few_of_last fs e.1.notes none one.1 few

-- Sound rows have few notes of each room.
pub few_of_sound : (s : Stored) → IsSound (rows_of s) → notes_few s ≡ true
few_of_sound s sound = by s.fit refl
  where
    by : (o : Option (Vec PlainFit Global)) → s.fit ≡ o → notes_few s ≡ true
    by None is =
        let rooms = (rows_of s).rooms in
        let some : list_all (has_some s) rooms ≡ true = (and_true _ (list_all (has_some s) rooms) sound.fit_number).1 in
        let few : list_all (λ (e : ℕ × RoomRow). nat_le e.1.notes 9999999) rooms ≡ true =
        all_from (has_some s) (has_few s) (λ (e : ℕ × RoomRow). nat_le e.1.notes 9999999)
        (λ e a b. few_of_room s is e a b) rooms some sound.fit_few in
        subst (λ (o : Option (Vec PlainFit Global)).
        list_all (λ (e : ℕ × RoomRow). nat_le e.1.notes (said_of o 9999999 (λ fits. 989999901))) rooms ≡ true)
        (sym is) few
    by (Some fits) is =
        subst (λ (o : Option (Vec PlainFit Global)). list_all (λ (e : ℕ × RoomRow).
        nat_le e.1.notes (said_of o 9999999 (λ fits. 989999901))) (rows_of s).rooms ≡ true) (sym is) sound.room_notes
