-- Codes put at their places, from the last one on.
use Rattle.std.proofs.Common.{◌≡◌, ℕ, pos, ◌+◌, ◌-◌, ◌<◌, ◌^◌, Bool, true, false, ◌==◌, ◌&&◌, List, ◌∷◌, map, length}
use Rattle.std.proofs.Common.{drop, get_or, refl, sym, ap, ◌∙◌, nat_cmp, arith}
use Rattle.std.specs.Prelude.{nat_lt, is_some}
use Rattle.std.specs.List.{list_all, count_by}
use Rattle.std.specs.Map.{keys_of, values_of}
use Rattle.std.specs.BTreeMap.{insert_entry}
use Rattle.std.proofs.lemmas.List.{drop_more}
use Rattle.hotel_nights.specs.Block.{one_if}
use Rattle.hotel_model.specs.declared.rows.CodeRow.{CodeRow}
use Rattle.hotel_model.specs.declared.rows.RoomRow.{RoomRow}
use Rattle.hotel_model.specs.Words.{when}
use Rattle.hotel_model.specs.Rows.{at_number, codes_by_place}
use Rattle.hotel_model.specs.SoundRooms.{are_in_order, count_up}
use Rattle.hotel_model.specs.SoundCards.{places_once, code_rooms_there}
use Rattle.hotel_model.proofs.OfTables.StayCounts.{count_first}
use Rattle.hotel_model.proofs.OfTables.RowTests.{all_mapped}
use Rattle.hotel_rows.specs.declared.damage.code_places.Placed.{Placed}
use Rattle.hotel_rows.specs.declared.stored.PlainCode.{PlainCode}
use Rattle.hotel_rows.specs.declared.stored.Stored.{Stored}
use Rattle.hotel_rows.specs.Stored.{number_of, code_row, code_entry, fits_of, rows_of}
use Rattle.hotel_rows.specs.Keys.{code_key}
use Rattle.hotel_rows.specs.CodePlaces.{places_in, listed_in, PlacesOf, placed_as_due}
use Rattle.hotel_rows.specs.Damage.{code_holds}
use Rattle.hotel_rows.specs.RowTests.{code_fits}
use Rattle.hotel_rows.proofs.OfDamage.RowsTogether.{keys_mapped, all_and, and_more, all_alike, all_rooms}

-- what stands past the end of a list of codes
abbrev pub no_code : PlainCode
no_code = record { code = pos 0; room = pos 0; place = pos 0 }

turned : (a b : ℕ) → a + b ≡ b + a
turned a b = omega arith

-- a code more, before the others
pub placed_first : (before after : List (ℕ × Placed)) (plain : PlainCode) (plain_rows : List PlainCode)
    → PlacesOf before plain_rows
    → ((r : ℕ) → places_in after r ≡ when (number_of plain.room == r) (λ es. insert_entry nat_cmp es
    (number_of plain.place) (number_of plain.code)) (places_in before r))
    → ((r : ℕ) → listed_in after r ≡ listed_in before r + one_if (number_of plain.room == r))
    → PlacesOf after (plain ∷ plain_rows)
placed_first before after plain plain_rows is places listed r = (
  places r ∙ ap (λ es. when (number_of plain.room == r)
      (λ es. insert_entry nat_cmp es (number_of plain.place) (number_of plain.code)) es) (is r).0,
  listed r ∙ ap (λ n. n + one_if (number_of plain.room == r)) (is r).1
      ∙ turned (count_by (λ (row : CodeRow). row.room == r) (values_of (map code_entry plain_rows)))
      (one_if (number_of plain.room == r))
      ∙ sym (count_first (λ (row : CodeRow). row.room == r) (code_row plain) (values_of (map code_entry plain_rows))),
)

-- one element more of a list's end
pub at_back : {X : Type 0} (xs : List X) (k : ℕ) (d : X)
    → k < length xs → get_or xs (length xs - 1 - k) d ∷ drop (length xs - k) xs ≡ drop (length xs - (k + 1)) xs
at_back xs k d low =
    let i = length xs - (k + 1) in
    let one : length xs - 1 - k ≡ i = omega (arith, low) in
    let two : length xs - k ≡ i + 1 = omega (arith, low) in
    ap (λ n. get_or xs n d ∷ drop (length xs - k) xs) one ∙ ap (λ n. get_or xs i d ∷ drop n xs) two
    ∙ sym (drop_more xs i d (omega (arith, low)))

-- the rule on the places of all rooms
pub places_as_due : (s : Stored) (placed : List (ℕ × Placed))
    → PlacesOf placed s.code.items → places_once (rows_of s) ≡ list_all (placed_as_due placed) s.room.items
places_as_due s placed is =
    all_rooms (λ (e : ℕ × RoomRow). count_up 0 (keys_of (codes_by_place (map code_entry s.code.items) e.1.room))
    && (length (values_of (codes_by_place (map code_entry s.code.items) e.1.room)) == e.1.codes)
    && (count_by (λ (row : CodeRow). row.room == e.1.room) (values_of (map code_entry s.code.items)) == e.1.codes))
    (fits_of s) s.room.items
    ∙ all_alike _ (placed_as_due placed) s.room.items (λ plain.
    let r = number_of plain.room in
    ap (λ es. count_up 0 (keys_of es) && (length (values_of es) == number_of plain.codes)
    && (count_by (λ (row : CodeRow). row.room == r) (values_of (map code_entry s.code.items))
    == number_of plain.codes)) (sym (is r).0)
    ∙ ap (λ n. count_up 0 (keys_of (places_in placed r)) && (length (values_of (places_in placed r))
    == number_of plain.codes) && (n == number_of plain.codes)) (sym (is r).1))

-- the rules of codes are a test of each code, and one of each room
pub codes_together : (s : Stored) → code_holds s ≡ (are_in_order nat_cmp (map code_key s.code.items)
    && list_all (code_fits (rows_of s)) s.code.items && places_once (rows_of s))
codes_together s =
    let plain_rows = s.code.items in
    let rows = rows_of s in
    let o = are_in_order nat_cmp (map code_key plain_rows) in
    ap (λ ks. are_in_order nat_cmp ks && list_all (λ code. nat_lt code (2 ^ 48)) ks && code_rooms_there rows
    && places_once rows) (keys_mapped code_key code_row plain_rows)
    ∙ ap (λ b. b && places_once rows)
    (and_more o (list_all (λ code. nat_lt code (2 ^ 48)) (map code_key plain_rows)) (code_rooms_there rows)
    ∙ ap (λ b. o && b) (
    ap (λ b. b && code_rooms_there rows) (all_mapped (λ code. nat_lt code (2 ^ 48)) code_key plain_rows)
    ∙ all_and (λ plain. nat_lt (number_of plain.code) (2 ^ 48)) _ plain_rows _
    (all_mapped (λ (e : ℕ × CodeRow). is_some (at_number rows.rooms e.1.room)) code_entry plain_rows)))

parts : (a b : Bool) → (a && b) ≡ true → (a ≡ true) × (b ≡ true)
parts true b h = (refl, h)
parts false b h = absurd (let w : ◌≡◌ {A = Bool} false true = h in cc)

-- where the rules of codes hold, the places of each room's codes are as due
pub due_of_codes : (s : Stored) (placed : List (ℕ × Placed))
    → PlacesOf placed s.code.items → code_holds s ≡ true → list_all (placed_as_due placed) s.room.items ≡ true
due_of_codes s placed is h = sym (places_as_due s placed is) ∙ (parts _ (places_once (rows_of s)) h).1
