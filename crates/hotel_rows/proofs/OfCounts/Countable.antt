-- Rows of which no table is damaged can be counted.
use Rattle.std.proofs.Common.{◌≡◌, ◌≤◌, ◌<◌, ◌+◌, ◌-◌, ◌^◌, ◌∙◌, refl, sym, subst, arith, ℕ, true, false, inl}
use Rattle.std.proofs.Common.{inr, cond, not, ◌==◌, ◌&&◌, List, [], ◌∷◌, map, take, get_or, length, Result, Ok, Err}
use Rattle.std.proofs.Common.{Option, Some, None, nat_cmp, nat_le, nat_lt}
use Rattle.std.specs.Prelude.{ℤ, is_some, option_map, string_bytes}
use Rattle.std.specs.List.{list_all, count_by}
use Rattle.std.specs.Result.{IfErr, IsErrAnd}
use Rattle.std.specs.Ordering.{is_lt}
use Rattle.std.proofs.lemmas.Bool.Decides.{nat_tests}
use Rattle.std.proofs.lemmas.Bool.{cases_Bool}
use Rattle.std.proofs.lemmas.List.{length-take}
use Rattle.std.proofs.lemmas.List.Sums.{count_by-le-length}
use Rattle.keycard_rules.specs.declared.issued.LookFault.{LookFault}
use Rattle.hotel_nights.specs.Guests.{is_guest}
use Rattle.hotel_nights.specs.Kinds.{is_kind}
use Rattle.hotel_model.specs.Words.{is_that, said_of}
use Rattle.hotel_model.specs.Rows.{Rows, at_number, has_kind}
use Rattle.hotel_model.specs.Stays.{room_of_state}
use Rattle.hotel_model.specs.SoundRooms.{are_in_order, count_up, is_day, kinds_read, room_numbers, lock_places}
use Rattle.hotel_model.specs.SoundRooms.{room_kinds_there, codes_few, parties_in_house, secured_hold_last}
use Rattle.hotel_model.specs.SoundStays.{has_party}
use Rattle.hotel_books.specs.KindRooms.{is_there, rooms_in}
use Rattle.hotel_model.specs.declared.rows.RoomRow.{RoomRow}
use Rattle.hotel_model.proofs.OfTables.Tests.{and_true, either_way, not_both, eq_from, le_tested}
use Rattle.hotel_model.proofs.OfTables.RowTests.{both, all_weaker, all_mapped, found_passes}
use Rattle.hotel_rows.specs.declared.stored.PlainKind.{PlainKind}
use Rattle.hotel_rows.specs.declared.stored.PlainRoom.{PlainRoom}
use Rattle.hotel_rows.specs.declared.stored.PlainStay.{PlainStay}
use Rattle.hotel_rows.specs.declared.stored.Stored.{Stored}
use Rattle.hotel_rows.specs.Stored.{number_of, kind_text, rows_of, state_of, room_row, stay_row}
use Rattle.hotel_rows.specs.Keys.{are_numbered, room_key, stay_key}
use Rattle.hotel_rows.specs.Damage.{first_damaged_of, most_notes, notes_few, are_room_columns, are_stay_columns}
use Rattle.hotel_rows.specs.Damage.{kind_holds, room_holds}
use Rattle.hotel_rows.specs.RowTests.{are_stay_days, has_home, is_at_home, is_number_up_to}
use Rattle.hotel_rows.specs.RowTests.{is_room_number, is_room_of_kind}
use Rattle.hotel_rows.specs.RowTests.{is_secured_as_due, has_few_codes, room_fits, stay_fits}
use Rattle.hotel_rows.specs.declared.counts.Counts.{Counts}
use Rattle.hotel_rows.specs.Counts.{IsCountedOf, KnowsKinds, are_rooms_of, names_kind}
use Rattle.hotel_rows.specs.Counts.{tells_night, tells_state, tells_stay}
use Rattle.hotel_rows.proofs.OfCounts.{named_kind}
use Rattle.hotel_rows.proofs.OfDamage.FoundKeys.{passes_at}
use Rattle.hotel_rows.proofs.OfDamage.KindTexts.{none_of_kinds}
use Rattle.hotel_rows.proofs.OfDamage.RowsTogether.{all_and, length_mapped, rooms_together}
use Rattle.hotel_rows.proofs.OfDamage.Undamaged.{all_passed}

-- ---- numbers

-- numbers that count up from n
counted_within : (l n most : ℕ) (ks : List ℕ)
    → l ≤ n → n + length ks ≤ most + 1 → count_up n ks ≡ true → list_all (λ k. nat_le l k && nat_le k most) ks ≡ true
counted_within l n most [] low few h = refl
counted_within l n most (k ∷ ks) low few h =
    let p = and_true (k == n) (count_up (n + 1) ks) h in
    let is : k ≡ n = eq_from k n p.0 in
    let in_range : (nat_le l k && nat_le k most) ≡ true =
    both _ _ (le_tested l k (omega (arith, low, is))) (le_tested k most (omega (arith, few, is))) in
    both _ _ in_range (counted_within l (n + 1) most ks (omega (arith, low)) (omega (arith, few)) p.1)

less_tested : (a b : ℕ) → is_lt (nat_cmp a b) ≡ true → a < b
less_tested a b h = grind (arith, nat_tests)

-- numbers in order, none above the greatest, are few
few_in_order : (l most k : ℕ) (ks : List ℕ) → l ≤ k → list_all (λ k. nat_le k most) (k ∷ ks) ≡ true
    → are_in_order nat_cmp (k ∷ ks) ≡ true → l + length (k ∷ ks) ≤ most + 1
few_in_order l most k [] low all h =
    let top : k ≤ most = grind (arith, nat_tests, (and_true (nat_le k most) true all).0) in
    omega (arith, low, top)
few_in_order l most k (y ∷ ys) low all h =
    let p = and_true (is_lt (nat_cmp k y)) (are_in_order nat_cmp (y ∷ ys)) h in
    let up : k < y = less_tested k y p.0 in
    let rest = few_in_order (l + 1) most y ys (omega (arith, low, up))
    (and_true (nat_le k most) (list_all (λ k. nat_le k most) (y ∷ ys)) all).1 p.1 in
    omega (arith, rest)

few_rooms : (ks : List ℕ) → list_all (λ k. nat_le 1 k && nat_le k 9999) ks ≡ true
    → are_in_order nat_cmp ks ≡ true → length ks ≤ 9999
few_rooms [] all h = omega arith
few_rooms (k ∷ ks) all h =
    let first : 1 ≤ k = grind (
      arith,
      nat_tests,
      (and_true (nat_le 1 k) (nat_le k 9999) (and_true _ (list_all (λ k. nat_le 1 k && nat_le k 9999) ks) all).0).0,
    ) in
    let some = few_in_order 1 9999 k ks first (all_weaker (λ k. nat_le 1 k && nat_le k 9999) (λ k. nat_le k 9999)
    (λ k h. (and_true (nat_le 1 k) (nat_le k 9999) h).1) (k ∷ ks) all) h in
    omega (arith, some)

-- ---- kinds

-- a kind that is there reads as one
kind_there : (rows : Rows) (kind : List ℕ) → kinds_read rows ≡ true → has_kind rows kind ≡ true → is_kind kind ≡ true
kind_there rows kind read there = elim (cases_Bool (is_kind kind)) [
  | inl reads ↦ reads
  | inr unread ↦ not_both (has_kind rows kind) there (none_of_kinds rows.kinds kind read unread)
]

-- a kind that the rows name reads as one
pub named_reads : (kind : List ℕ) (plain_kinds : List PlainKind)
    → list_all (λ plain. is_kind (kind_text plain)) plain_kinds ≡ true
    → names_kind kind plain_kinds ≡ true → is_kind kind ≡ true
named_reads kind plain_kinds read named = elim (cases_Bool (is_kind kind)) [
  | inl reads ↦ reads
  | inr unread ↦ not_both (names_kind kind plain_kinds) named (named_kind kind plain_kinds
      ∙ none_of_kinds (map kind_text plain_kinds) kind (all_mapped is_kind kind_text plain_kinds ∙ read) unread)
]

-- ---- stays

-- the room of a stay in house has a room's number
home_number : (rows : Rows) (party room : ℕ) → room_numbers rows ≡ true → has_party rows party room ≡ true
    → is_number_up_to 9999 room ≡ true
home_number rows party room numbers there = by (at_number rows.rooms room) refl there
  where
    by : (o : Option RoomRow) → at_number rows.rooms room ≡ o → said_of o false (λ row. is_that row.party party) ≡ true
        → is_number_up_to 9999 room ≡ true
    by (Some row) found h =
        let p = and_true _ (nat_le room 9999) (found_passes _ rows.rooms room row numbers found) in
        both _ _ (and_true (row.room == room) (nat_le 1 room) p.0).1 p.1
    by None found h = not_both false h refl

state_told : (rows : Rows) (party state : ℕ) (room : Option ℤ)
    → room_numbers rows ≡ true → (nat_le state 3 && cond (is_some room) (state == 1) (not (state == 1))) ≡ true
    → said_of (room_of_state (state_of state (option_map number_of room))) true (has_party rows party) ≡ true
    → tells_state state (option_map number_of room) ≡ true
state_told rows party state None numbers columns home = columns
state_told rows party state (Some room) numbers columns home =
    let in_house = (and_true (nat_le state 3) (state == 1) columns).1 in
    let at_home : has_party rows party (number_of room) ≡ true =
    subst (λ n. said_of (room_of_state (state_of n (Some (number_of room)))) true (has_party rows party) ≡ true)
    (eq_from state 1 in_house) home in
    both _ _ in_house (home_number rows party (number_of room) numbers at_home)

day_before : (arrive depart : ℕ) → is_day depart ≡ true → nat_lt arrive depart ≡ true → is_day arrive ≡ true
day_before arrive depart h less = grind (arith, nat_tests)

-- a stay that fits is told by its columns
stay_told : (s : Stored) → kinds_read (rows_of s) ≡ true → room_numbers (rows_of s) ≡ true → (plain : PlainStay)
    → (is_number_up_to 9999999 (stay_key plain) && stay_fits s plain) ≡ true → tells_stay plain ≡ true
stay_told s read numbers plain h =
    let p = and_true (is_number_up_to 9999999 (stay_key plain)) (stay_fits s plain) h in
    let homes = and_true _ (has_home (rows_of s) (stay_row plain)) p.1 in
    let days = and_true _ (are_stay_days plain) homes.0 in
    let kinds = and_true _ (has_kind (rows_of s) (string_bytes plain.kind)) days.0 in
    let guests = and_true (are_stay_columns plain) (is_guest (string_bytes plain.guest)) kinds.0 in
    let until = and_true _ (nat_le (number_of plain.depart) (number_of plain.arrive + 90)) days.1 in
    let depart =
    and_true (is_day (number_of plain.depart)) (nat_lt (number_of plain.arrive) (number_of plain.depart)) until.0 in
    both _ _ (both _ _ (both _ _ (both _ _ (both _ _ p.0 guests.1)
    (kind_there (rows_of s) (string_bytes plain.kind) read kinds.1)) (day_before _ _ depart.0 depart.1)) depart.0)
    (state_told (rows_of s) (number_of plain.party) (number_of plain.state) plain.room numbers guests.0 homes.1)

-- ---- rows of which the rules of kinds and rooms hold

kinds_all_read : (s : Stored) → kind_holds s ≡ true → kinds_read (rows_of s) ≡ true
kinds_all_read s h = (and_true _ (kinds_read (rows_of s)) h).1

numbers_hold : (s : Stored) → room_holds s ≡ true → room_numbers (rows_of s) ≡ true
numbers_hold s h =
    let rows = rows_of s in
    let party = and_true _ (parties_in_house rows) (and_true _ (secured_hold_last rows) h).0 in
    let codes = and_true _ (codes_few rows) (and_true _ (notes_few s) party.0).0 in
    let lock = and_true _ (lock_places rows) (and_true _ (room_kinds_there rows) codes.0).0 in
    (and_true _ (room_numbers rows) lock.0).1

rooms_fit : (s : Stored) → room_holds s ≡ true
    → (are_in_order nat_cmp (map room_key s.room.items) ≡ true) × (list_all (room_fits s) s.room.items ≡ true)
rooms_fit s h = and_true (are_in_order nat_cmp (map room_key s.room.items)) (list_all (room_fits s) s.room.items)
    (sym (rooms_together s) ∙ h)

room_told : (s : Stored) (plain : PlainRoom) → room_fits s plain ≡ true
    → (is_room_number plain ≡ true) × (names_kind (string_bytes plain.kind) s.kind.items ≡ true)
room_told s plain h =
    let secured = and_true _ (is_secured_as_due s plain) h in
    let home = and_true _ (is_at_home (rows_of s) (room_row plain)) secured.0 in
    let notes = and_true _ (nat_le (number_of plain.notes) (most_notes s)) home.0 in
    let codes = and_true _ (has_few_codes s plain) notes.0 in
    let kind = and_true _ (has_kind (rows_of s) (string_bytes plain.kind)) codes.0 in
    let lock = and_true _ (nat_lt (number_of plain.lock_place) (number_of plain.codes)) kind.0 in
    let number = and_true (are_room_columns plain) (is_room_number plain) lock.0 in
    (number.1, named_kind (string_bytes plain.kind) s.kind.items ∙ kind.1)

-- rooms that fit have the numbers of rooms
numbered : (s : Stored) → room_holds s ≡ true → list_all is_room_number s.room.items ≡ true
numbered s h =
    all_weaker (room_fits s) is_room_number (λ room h. (room_told s room h).0) s.room.items (rooms_fit s h).1

pub rooms_numbered : (s : Stored) → first_damaged_of s ≡ None → list_all is_room_number s.room.items ≡ true
rooms_numbered s none = numbered s (all_passed s none).room

-- and so they are few
few_in : (s : Stored) → room_holds s ≡ true → length s.room.items ≤ 9999
few_in s h = subst (λ n. n ≤ 9999) (length_mapped room_key s.room.items)
    (few_rooms (map room_key s.room.items)
    (all_mapped (λ k. nat_le 1 k && nat_le k 9999) room_key s.room.items ∙ numbered s h) (rooms_fit s h).0)

pub rooms_told : (s : Stored) → kind_holds s ≡ true → room_holds s ≡ true
    → are_rooms_of s.kind.items s.room.items ≡ true
rooms_told s kind room =
    let kinds : list_all (λ kind. is_kind (kind_text kind)) s.kind.items ≡ true =
    sym (all_mapped is_kind kind_text s.kind.items) ∙ kinds_all_read s kind in
    let named = all_weaker (room_fits s) (λ room. names_kind (string_bytes room.kind) s.kind.items)
    (λ room h. (room_told s room h).1) s.room.items (rooms_fit s room).1 in
    both _ _ (both _ _ kinds named) (le_tested (length s.room.items) 9999 (few_in s room))

-- ---- stays that fit, among such rows

pub stays_told : (s : Stored) → kind_holds s ≡ true → room_holds s ≡ true
    → are_numbered (map stay_key s.stay.items) ≡ true
    → list_all (stay_fits s) s.stay.items ≡ true → list_all tells_stay s.stay.items ≡ true
stays_told s kind room order fits =
    let counted = and_true _ (nat_le (length (map stay_key s.stay.items)) 9999999) order in
    let few : length (map stay_key s.stay.items) ≤ 9999999 = grind (arith, nat_tests, counted.1) in
    let numbers = counted_within 1 1 9999999 (map stay_key s.stay.items) (omega arith) (omega (arith, few))
    (and_true _ (count_up 1 (map stay_key s.stay.items)) counted.0).1 in
    let keys : list_all (λ plain. is_number_up_to 9999999 (stay_key plain)) s.stay.items ≡ true =
    sym (all_mapped (is_number_up_to 9999999) stay_key s.stay.items) ∙ numbers in
    all_weaker (λ plain. is_number_up_to 9999999 (stay_key plain) && stay_fits s plain) tells_stay
    (stay_told s (kinds_all_read s kind) (numbers_hold s room)) s.stay.items
    (sym (all_and (λ plain. is_number_up_to 9999999 (stay_key plain)) (stay_fits s) s.stay.items _ refl)
    ∙ both _ _ keys fits)

day_after : (arrive depart : ℕ) → is_day depart ≡ true → nat_lt arrive depart ≡ true → is_day (arrive + 1) ≡ true
day_after arrive depart h less = grind (arith, nat_tests)

lt_tested : (a b : ℕ) → a < b → nat_lt a b ≡ true
lt_tested a b h = grind (arith, nat_tests)

-- their nights are told by the counts
pub nights_told : (s : Stored) (counts : Counts) → kind_holds s ≡ true → room_holds s ≡ true → IsCountedOf s counts
    → list_all (stay_fits s) s.stay.items ≡ true → list_all (tells_night counts) s.stay.items ≡ true
nights_told s counts kind room h = all_weaker (stay_fits s) (tells_night counts) told s.stay.items
  where
    told : (plain : PlainStay) → stay_fits s plain ≡ true → tells_night counts plain ≡ true
    told plain fits =
        let name = string_bytes plain.kind in
        let days = and_true _ (are_stay_days plain) (and_true _ (has_home (rows_of s) (stay_row plain)) fits).0 in
        let kinds = and_true _ (has_kind (rows_of s) name) days.0 in
        let until = and_true _ (nat_le (number_of plain.depart) (number_of plain.arrive + 90)) days.1 in
        let depart = and_true (is_day (number_of plain.depart))
        (nat_lt (number_of plain.arrive) (number_of plain.depart)) until.0 in
        let few : rooms_in counts.kinds name < 2 ^ 32 - 1 =
        omega (arith, h.0 name, count_by-le-length (is_room_of_kind name) s.room.items, few_in s room) in
        both _ _ (both _ _ (kind_there (rows_of s) name (kinds_all_read s kind) kinds.1)
        (day_after _ _ depart.0 depart.1)) (lt_tested _ _ few)

-- ---- where counting stops

-- a room that can't be counted
pub not_rooms_of : (plain_kinds : List PlainKind) (plain_rooms : List PlainRoom) (counts : List (List ℕ × ℕ)) (i : ℕ)
    (room : PlainRoom) → i < length plain_rooms → room ≡ get_or plain_rooms i room
    → ((kind : List ℕ) → rooms_in counts kind ≡ count_by (is_room_of_kind kind) (take i plain_rooms))
    → KnowsKinds counts plain_kinds
    → (is_kind (string_bytes room.kind) ≡ true → is_there counts (string_bytes room.kind) ≡ true
    → 2 ^ 32 - 1 ≤ rooms_in counts (string_bytes room.kind))
    → are_rooms_of plain_kinds plain_rooms ≡ false
not_rooms_of plain_kinds plain_rooms counts i room low is counted known refused =
    elim (either_way (are_rooms_of plain_kinds plain_rooms)) [
      | inl holds ↦
          let kind = string_bytes room.kind in
          let p = and_true _ (nat_le (length plain_rooms) 9999) holds in
          let q = and_true (list_all (λ kind. is_kind (kind_text kind)) plain_kinds)
          (list_all (λ room. names_kind (string_bytes room.kind) plain_kinds) plain_rooms) p.0 in
          let named : names_kind kind plain_kinds ≡ true =
          subst (λ (it : PlainRoom). names_kind (string_bytes it.kind) plain_kinds ≡ true) (sym is)
          (passes_at (λ room. names_kind (string_bytes room.kind) plain_kinds) plain_rooms i room low q.1) in
          let full = refused (named_reads kind plain_kinds q.0 named) (known kind named) in
          let few : length plain_rooms ≤ 9999 = grind (arith, nat_tests, p.1) in
          absurd (omega (
            arith,
            full,
            counted kind,
            count_by-le-length (is_room_of_kind kind) (take i plain_rooms),
            length-take i plain_rooms,
            few,
          ))
      | inr fails ↦ fails
    ]

-- what holds of an error that is passed on
pub passed_on : {A : Type 0} (r : Result A LookFault) {why : LookFault} (P : LookFault → Type 0)
    → IsErrAnd r (λ e. e ≡ why) → P why → IfErr r P
passed_on (Ok x) P is p = absurd is
passed_on (Err e) P is p = subst P (sym is) p
