-- Rules of all rows of a table as one test of each row.
use Rattle.std.proofs.Common.{◌≡◌, ℕ, suc, ◌+◌, ◌-◌, Bool, true, false, ◌&&◌, ◌==◌, List, [], ◌∷◌, map, length, refl}
use Rattle.std.proofs.Common.{ap, ◌∙◌, nat_cmp}
use Rattle.std.specs.Prelude.{nat_le, nat_lt, string_bytes, not, ◌||◌}
use Rattle.std.specs.List.{list_all}
use Rattle.std.specs.Map.{keys_of}
use Rattle.hotel_model.specs.declared.rows.RoomRow.{RoomRow}
use Rattle.hotel_model.specs.Rows.{has_kind, fits_at, begins_fit}
use Rattle.hotel_model.specs.SoundRooms.{are_in_order, room_numbers, lock_places, room_kinds_there}
use Rattle.hotel_model.specs.SoundRooms.{codes_few, parties_in_house, secured_hold_last}
use Rattle.hotel_model.proofs.OfTables.RowTests.{all_mapped}
use Rattle.hotel_books.proofs.OfTables.MapEntries.{eq_self}
use Rattle.hotel_rows.specs.declared.stored.PlainRoom.{PlainRoom}
use Rattle.hotel_rows.specs.declared.stored.Stored.{Stored}
use Rattle.hotel_rows.specs.Joined.{with_fit, FitEntries}
use Rattle.hotel_rows.specs.Stored.{number_of, fits_of, rows_of, room_entry, room_row, joined_row, card_entry}
use Rattle.hotel_rows.specs.Keys.{room_key}
use Rattle.hotel_rows.specs.Damage.{most_notes, notes_few, are_room_columns, room_holds}
use Rattle.hotel_rows.specs.RowTests.{room_fits, is_room_number, is_at_home, is_secured_as_due}

pub keys_mapped : {L X : Type 0} (key : L → ℕ) (row : L → X) (ls : List L)
    → keys_of (map (λ l. (key l, row l)) ls) ≡ map key ls
keys_mapped key row [] = refl
keys_mapped key row (l ∷ ls) = ap (λ ks. key l ∷ ks) (keys_mapped key row ls)

pub length_mapped : {L X : Type 0} (f : L → X) (ls : List L) → length (map f ls) ≡ length ls
length_mapped f [] = refl
length_mapped f (l ∷ ls) = ap suc (length_mapped f ls)

swap_and : (a b c d : Bool) → ((a && b) && (c && d)) ≡ ((a && c) && (b && d))
swap_and true true c d = refl
swap_and true false true d = refl
swap_and true false false d = refl
swap_and false b c d = refl

pub all_and : {L : Type 0} (t u : L → Bool) (ls : List L) (b : Bool)
    → b ≡ list_all u ls → (list_all t ls && b) ≡ list_all (λ l. t l && u l) ls
all_and t u ls b e = ap (λ z. list_all t ls && z) e ∙ joined ls
  where
    joined : (ls : List _) → (list_all t ls && list_all u ls) ≡ list_all (λ l. t l && u l) ls
    joined [] = refl
    joined (l ∷ ls) = swap_and (t l) (list_all t ls) (u l) (list_all u ls) ∙ ap (λ z. (t l && u l) && z) (joined ls)

pub all_alike : {L : Type 0} (t u : L → Bool) (ls : List L) → ((l : L) → t l ≡ u l) → list_all t ls ≡ list_all u ls
all_alike t u [] e = refl
all_alike t u (l ∷ ls) e = ap (λ b. b && list_all t ls) (e l) ∙ ap (λ b. u l && b) (all_alike t u ls e)

pub and_more : (o a b : Bool) → ((o && a) && b) ≡ (o && (a && b))
and_more true a b = refl
and_more false a b = refl

-- what was joined so far, and a rule more
pub left_and : {L X : Type 0} (o : Bool) (f : L → X) (t : X → Bool) (u : L → Bool) (ls : List L) (b : Bool)
    → b ≡ (o && list_all u ls)
    → (b && list_all t (map f ls)) ≡ (o && list_all (λ l. u l && t (f l)) ls)
left_and o f t u ls b e =
    ap (λ z. z && list_all t (map f ls)) e ∙ and_more o (list_all u ls) (list_all t (map f ls))
    ∙ ap (λ z. o && z) (all_and u (λ l. t (f l)) ls (list_all t (map f ls)) (all_mapped t f ls))

-- ---- room

-- the rooms, joined with their fits
pub rooms_are : (fits : FitEntries) (ls : List PlainRoom)
    → map (with_fit fits) (map room_entry ls) ≡ map (λ l. (room_key l, joined_row fits l)) ls
rooms_are fits [] = refl
rooms_are fits (l ∷ ls) = ap (λ es. (room_key l, joined_row fits l) ∷ es) (rooms_are fits ls)

-- a rule of all rooms, joined with their fits
pub all_rooms : (t : ℕ × RoomRow → Bool) (fits : FitEntries) (ls : List PlainRoom)
    → list_all t (map (with_fit fits) (map room_entry ls)) ≡ list_all (λ l. t (room_key l, joined_row fits l)) ls
all_rooms t fits ls = ap (list_all t) (rooms_are fits ls) ∙ all_mapped t (λ l. (room_key l, joined_row fits l)) ls

-- what was joined so far, and a rule of rooms more
left_rooms : (o : Bool) (fits : FitEntries) (t : ℕ × RoomRow → Bool) (u : PlainRoom → Bool) (ls : List PlainRoom)
    (b : Bool)
    → b ≡ (o && list_all u ls)
    → (b && list_all t (map (with_fit fits) (map room_entry ls)))
    ≡ (o && list_all (λ l. u l && t (room_key l, joined_row fits l)) ls)
left_rooms o fits t u ls b e = ap (λ es. b && list_all t es) (rooms_are fits ls)
    ∙ left_and o (λ l. (room_key l, joined_row fits l)) t u ls b e

-- the rules of rooms are a test of each row
pub rooms_together : (s : Stored)
    → room_holds s ≡ (are_in_order nat_cmp (map room_key s.room.items) && list_all (room_fits s) s.room.items)
rooms_together s =
    let plain_rows = s.room.items in
    let rows = rows_of s in
    let fits = fits_of s in
    let o = are_in_order nat_cmp (map room_key plain_rows) in
    ap (λ ks. are_in_order nat_cmp ks && list_all are_room_columns plain_rows && room_numbers rows && lock_places rows
    && room_kinds_there rows && codes_few rows && notes_few s && parties_in_house rows && secured_hold_last rows)
    (ap keys_of (rooms_are fits plain_rows) ∙ keys_mapped room_key (joined_row fits) plain_rows)
    ∙ left_rooms o fits (λ (e : ℕ × RoomRow). not e.1.secured
    || ((e.1.lock_place == e.1.codes - 1) && nat_le 2 e.1.codes && not (begins_fit rows e.1.room (e.1.codes - 1))))
    _ plain_rows _
    (left_rooms o fits (λ (e : ℕ × RoomRow). is_at_home rows e.1) _ plain_rows _
    (left_rooms o fits (λ (e : ℕ × RoomRow). nat_le e.1.notes (most_notes s)) _ plain_rows _
    (left_rooms o fits (λ (e : ℕ × RoomRow). nat_le e.1.codes (length rows.cards + length (fits_at rows.fits e.1.room)))
    _ plain_rows _
    (left_rooms o fits (λ (e : ℕ × RoomRow). has_kind rows e.1.kind) _ plain_rows _
    (left_rooms o fits (λ (e : ℕ × RoomRow). nat_lt e.1.lock_place e.1.codes) _ plain_rows _
    (left_rooms o fits (λ (e : ℕ × RoomRow). (e.1.room == e.0) && nat_le 1 e.0
    && nat_le e.0 9999) are_room_columns plain_rows _ refl))))))
    ∙ ap (λ b. o && b) (all_alike _ (room_fits s) plain_rows (λ plain.
    ap (λ b. are_room_columns plain && (b && nat_le 1 (number_of plain.room) && nat_le (number_of plain.room) 9999)
    && nat_lt (number_of plain.lock_place) (number_of plain.codes)
    && has_kind rows (string_bytes plain.kind) && nat_le (number_of plain.codes)
    (length rows.cards + length (fits_at fits (number_of plain.room))) && nat_le (number_of plain.notes) (most_notes s)
    && is_at_home rows (room_row plain) && is_secured_as_due s plain) (eq_self (number_of plain.room))
    ∙ ap (λ n. are_room_columns plain && is_room_number plain
    && nat_lt (number_of plain.lock_place) (number_of plain.codes)
    && has_kind rows (string_bytes plain.kind)
    && nat_le (number_of plain.codes) (n + length (fits_at fits (number_of plain.room)))
    && nat_le (number_of plain.notes) (most_notes s) && is_at_home rows (room_row plain) && is_secured_as_due s plain)
    (length_mapped card_entry s.card.items)))
