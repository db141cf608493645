-- The rules of stays as tests of each stay.
use Rattle.std.proofs.Common.{◌≡◌, ℕ, ◌+◌, Bool, true, false, cond, ◌&&◌, ◌==◌, List, [], ◌∷◌, map, length, refl, sym}
use Rattle.std.proofs.Common.{ap, ◌∙◌, nat_cmp}
use Rattle.std.specs.Prelude.{nat_le, nat_lt, string_bytes, bytes_eq}
use Rattle.std.specs.List.{list_all, count_by}
use Rattle.std.specs.Map.{values_of}
use Rattle.hotel_nights.specs.declared.stay.Stay.{Stay}
use Rattle.hotel_nights.specs.FullNight.{takes, nights_taken}
use Rattle.hotel_nights.specs.Guests.{is_guest}
use Rattle.hotel_model.specs.declared.rows.RoomRow.{RoomRow}
use Rattle.hotel_model.specs.Rows.{has_kind, rooms_of_kind}
use Rattle.hotel_model.specs.SoundRooms.{are_in_order, count_up, is_day}
use Rattle.hotel_model.specs.SoundStays.{guests_read, stay_kinds_there, stay_days, stay_rooms, nights_fit}
use Rattle.hotel_model.proofs.OfTables.RowTests.{all_mapped}
use Rattle.hotel_books.proofs.OfTables.MapEntries.{eq_self}
use Rattle.hotel_model.proofs.OfTables.StayCounts.{count_first}
use Rattle.hotel_rows.specs.declared.stored.Stored.{Stored}
use Rattle.hotel_rows.specs.declared.stored.PlainStay.{PlainStay}
use Rattle.hotel_rows.specs.Stored.{number_of, fits_of, rows_of, stay_entry, stay_row, joined_row}
use Rattle.hotel_rows.specs.Keys.{are_numbered, room_key, stay_key}
use Rattle.hotel_rows.specs.Damage.{are_stay_columns, stay_holds}
use Rattle.hotel_rows.specs.RowTests.{stay_fits, has_home, has_night, stay_has_home}
use Rattle.hotel_rows.proofs.OfDamage.RowsTogether.{keys_mapped, length_mapped, all_alike, left_and, rooms_are}

all_yes : {L : Type 0} (ls : List L) → list_all (λ l. true) ls ≡ true
all_yes [] = refl
all_yes (l ∷ ls) = all_yes ls

-- each row has the number that is its key
pub own_keys : {L X : Type 0} (key : L → ℕ) (row : L → X) (of : X → ℕ) → ((l : L) → of (row l) ≡ key l) → (ls : List L)
    → list_all (λ (e : ℕ × X). of e.1 == e.0) (map (λ l. (key l, row l)) ls) ≡ true
own_keys key row of same ls =
    all_mapped (λ (e : ℕ × _). of e.1 == e.0) (λ l. (key l, row l)) ls
    ∙ all_alike _ (λ l. true) ls (λ l. ap (λ n. n == key l) (same l) ∙ eq_self (key l))
    ∙ all_yes ls

pub counted : {L X : Type 0} (p : X → Bool) (key : L → ℕ) (row : L → X) (ls : List L)
    → count_by p (values_of (map (λ l. (key l, row l)) ls)) ≡ count_by (λ l. p (row l)) ls
counted p key row [] = refl
counted p key row (l ∷ ls) =
    count_first p (row l) (values_of (map (λ l. (key l, row l)) ls))
    ∙ ap (λ n. cond (p (row l)) 1 0 + n) (counted p key row ls) ∙ sym (count_first (λ l. p (row l)) l ls)

numbers_first : (o c e u w : Bool) → e ≡ true → ((o && c) && ((e && u) && w)) ≡ (((o && u) && w) && c)
numbers_first true true e u w is = ap (λ z. (z && u) && w) is ∙ last_true (u && w)
  where
    last_true : (b : Bool) → b ≡ (b && true)
    last_true true = refl
    last_true false = refl
numbers_first true false e u w is = last_false (u && w)
  where
    last_false : (b : Bool) → false ≡ (b && false)
    last_false true = refl
    last_false false = refl
numbers_first false c e u w is = refl

nights_together : (s : Stored) → nights_fit (rows_of s) ≡ list_all (has_night s) s.stay.items
unfolding nights_taken
nights_together s =
    all_mapped (λ (e : ℕ × Stay). nat_le (nights_taken (values_of (rows_of s).stays) e.1.kind e.1.arrive)
    (rooms_of_kind (rows_of s).rooms e.1.kind)) stay_entry s.stay.items
    ∙ all_alike _ (has_night s) s.stay.items (λ plain.
    ap (λ n. nat_le n (rooms_of_kind (rows_of s).rooms (string_bytes plain.kind)))
    (counted (takes (string_bytes plain.kind) (number_of plain.arrive)) stay_key stay_row s.stay.items)
    ∙ ap (λ n. nat_le (count_by (λ (stay : PlainStay). takes (string_bytes plain.kind) (number_of plain.arrive)
    (stay_row stay)) s.stay.items) n)
    (ap (λ es. count_by (λ (row : RoomRow). bytes_eq row.kind (string_bytes plain.kind)) (values_of es))
    (rooms_are (fits_of s) s.room.items)
    ∙ counted (λ (row : RoomRow). bytes_eq row.kind (string_bytes plain.kind)) room_key
    (joined_row (fits_of s)) s.room.items))

-- the rules of stays are tests of the keys and of each stay
pub stays_together : (s : Stored) → stay_holds s ≡ (are_numbered (map stay_key s.stay.items)
    && list_all (stay_fits s) s.stay.items && list_all (has_night s) s.stay.items)
stays_together s =
    let plain_rows = s.stay.items in
    let rows = rows_of s in
    let ks = map stay_key plain_rows in
    let o = are_numbered ks in
    let own = list_all (λ (e : ℕ × Stay). e.1.party == e.0) rows.stays in
    ap (λ keys. are_in_order nat_cmp keys && list_all are_stay_columns plain_rows
    && (own && count_up 1 keys && nat_le (length rows.stays) 9999999) && guests_read rows && stay_kinds_there rows
    && stay_days rows && stay_rooms rows && nights_fit rows)
    (keys_mapped stay_key stay_row plain_rows)
    ∙ ap (λ n. are_in_order nat_cmp ks && list_all are_stay_columns plain_rows
    && (own && count_up 1 ks && nat_le n 9999999)
    && guests_read rows && stay_kinds_there rows && stay_days rows && stay_rooms rows && nights_fit rows)
    (length_mapped stay_entry plain_rows ∙ sym (length_mapped stay_key plain_rows))
    ∙ ap (λ b. b && guests_read rows && stay_kinds_there rows && stay_days rows && stay_rooms rows && nights_fit rows)
    (numbers_first (are_in_order nat_cmp ks) (list_all are_stay_columns plain_rows) own (count_up 1 ks)
    (nat_le (length ks) 9999999) (own_keys stay_key stay_row (λ (stay : Stay). stay.party) (λ plain. refl) plain_rows))
    ∙ ap (λ b. b && nights_fit rows)
    (left_and o stay_entry (λ (e : ℕ × Stay). has_home rows e.1) _ plain_rows _
    (left_and o stay_entry (λ (e : ℕ × Stay). is_day e.1.depart && nat_lt e.1.arrive e.1.depart
    && nat_le e.1.depart (e.1.arrive + 90)) _ plain_rows _
    (left_and o stay_entry (λ (e : ℕ × Stay). has_kind rows e.1.kind) _ plain_rows _
    (left_and o stay_entry (λ (e : ℕ × Stay). is_guest e.1.guest) are_stay_columns plain_rows _ refl))))
    ∙ ap (λ b. o && list_all (stay_fits s) plain_rows && b) (nights_together s)

parts : (a b : Bool) → (a && b) ≡ true → (a ≡ true) × (b ≡ true)
parts true b h = (refl, h)
parts false b h = absurd (let w : ◌≡◌ {A = Bool} false true = h in cc)

-- where the rules of stays hold, each party in house has its room
pub homes_of_stays : (s : Stored) → stay_holds s ≡ true → list_all (stay_has_home s) s.stay.items ≡ true
homes_of_stays s h =
    let rooms = (parts _ (stay_rooms (rows_of s)) (parts _ (nights_fit (rows_of s)) h).0).1 in
    sym (all_mapped (λ (e : ℕ × Stay). has_home (rows_of s) e.1) stay_entry s.stay.items) ∙ rooms
