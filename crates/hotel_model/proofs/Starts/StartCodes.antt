-- The codes of sound rows: each stands at one place of one room, and the places of a room are counted.
use Rattle.std.proofs.Common.{ℕ, ◌≡◌, ◌<◌, ◌+◌, Bool, true, false, cond, Option, Some, None, List, [], ◌∷◌, ◌++◌}
use Rattle.std.proofs.Common.{length, refl, ap, sym, ◌∙◌, subst, arith, ◌==◌, ◌&&◌, nat_le, nat_lt, is_some, map}
use Rattle.std.proofs.Common.{nat_cmp}
use Rattle.hotel_model.proofs.Names.{list_all, insert_entry, keys_of, values_of, slice_cmp, nat_cmp_total}
use Rattle.hotel_model.proofs.Names.{nat_list_cmp_total, CodeRow, RoomRow, when, pair_cmp, is_one_of, said_of, Rows}
use Rattle.hotel_model.proofs.Names.{at_number, codes_by_place, codes_at, lock_place_of, start, is_room, count_up}
use Rattle.hotel_model.proofs.Names.{codes_listed, IsSound}
use Rattle.hotel_model.proofs.{Facts.CodeFacts.CodesHavePlaces, Facts.CodeFacts.PlacesHaveCodes}
use Rattle.hotel_model.proofs.OfTables.KeysInOrder.{InOrder, ordered}
use Rattle.hotel_model.proofs.{OfTables.CodeLists.nothing_in_nil}
use Rattle.hotel_model.proofs.{OfTables.Pairs.pair_cmp_total, OfTables.Tests.eq_from, OfTables.Tests.and_true}
use Rattle.hotel_model.proofs.{OfTables.Tests.not_both, OfTables.TableKeys.is_key}
use Rattle.hotel_model.proofs.{OfTables.RowTests.found_passes, Starts.StartRules.some_of, OfTables.Tests.lt_from}
use Rattle.hotel_model.proofs.{Starts.StartOrder.in_order_from}
use Rattle.hotel_model.proofs.Starts.StartPlaces.{listed, one_listed, is_placed, placed_back}
use Rattle.hotel_model.proofs.Starts.StartSplits.{SplitsAt, split_at, found_at, length_values}

-- the keys of each table stand in order
pub record Orders (t : Rows) : Type 0 where
  pub kinds : InOrder (slice_cmp nat_cmp) t.kinds
  pub rooms : InOrder nat_cmp (keys_of t.rooms)
  pub codes : InOrder nat_cmp (keys_of t.codes)
  pub stays : InOrder nat_cmp (keys_of t.stays)
  pub cards : InOrder nat_cmp (keys_of t.cards)
  pub inside : InOrder pair_cmp t.inside
  pub notes : InOrder pair_cmp (keys_of t.notes)
  pub fits : InOrder pair_cmp (keys_of t.fits)

pub orders : (t : Rows) → IsSound t → Orders t
orders t s =
    let a = ordered t s.keys in
    record {
      kinds = in_order_from (slice_cmp nat_cmp) nat_list_cmp_total t.kinds a.kinds;
      rooms = in_order_from nat_cmp nat_cmp_total (keys_of t.rooms) a.rooms;
      codes = in_order_from nat_cmp nat_cmp_total (keys_of t.codes) a.codes;
      stays = in_order_from nat_cmp nat_cmp_total (keys_of t.stays) a.stays;
      cards = in_order_from nat_cmp nat_cmp_total (keys_of t.cards) a.cards;
      inside = in_order_from pair_cmp pair_cmp_total t.inside a.inside;
      notes = in_order_from pair_cmp pair_cmp_total (keys_of t.notes) a.notes;
      fits = in_order_from pair_cmp pair_cmp_total (keys_of t.fits) a.fits;
    }

-- a room's row has its number
pub room_is : (t : Rows) → IsSound t → (r : ℕ) (row : RoomRow) → at_number t.rooms r ≡ Some row → row.room ≡ r
room_is t s r row e =
    let a = found_passes (λ (e : ℕ × RoomRow). (e.1.room == e.0) && nat_le 1 e.0 && nat_le e.0 9999)
    t.rooms r row s.room_number e in
    let b = and_true ((row.room == r) && nat_le 1 r) (nat_le r 9999) a in
    eq_from row.room r (and_true (row.room == r) (nat_le 1 r) b.0).0

-- what the places of a room's codes are
pub record Counted (t : Rows) (r : ℕ) (row : RoomRow) : Type 0 where
  pub up : count_up 0 (keys_of (codes_by_place t.codes r)) ≡ true
  pub many : length (codes_at t r) ≡ row.codes
  pub listed : codes_listed t r ≡ row.codes

pub counted : (t : Rows) → IsSound t → (r : ℕ) (row : RoomRow) → at_number t.rooms r ≡ Some row → Counted t r row
counted t s r row e =
    let a = found_passes (λ (e : ℕ × RoomRow). count_up 0 (keys_of (codes_by_place t.codes e.1.room))
    && (length (codes_at t e.1.room) == e.1.codes) && (codes_listed t e.1.room == e.1.codes))
    t.rooms r row s.code_places e in
    let b =
    and_true (count_up 0 (keys_of (codes_by_place t.codes row.room)) && (length (codes_at t row.room) == row.codes))
    (codes_listed t row.room == row.codes) a in
    let c =
    and_true (count_up 0 (keys_of (codes_by_place t.codes row.room))) (length (codes_at t row.room) == row.codes) b.0 in
    subst (λ z. Counted t z row) (room_is t s r row e)
    (record { up = c.0; many = eq_from _ _ c.1; listed = eq_from _ _ b.1 })

-- where there is no room there are no codes
none_by : (t : Rows) (r : ℕ) → at_number t.rooms r ≡ None → (es : List (ℕ × CodeRow))
    → list_all (λ (e : ℕ × CodeRow). is_some (at_number t.rooms e.1.room)) es ≡ true → codes_by_place es r ≡ []
none_by t r n [] a = refl
none_by t r n (e ∷ es) a =
    let p = and_true (is_some (at_number t.rooms e.1.room)) _ a in
    skip (e.1.room == r) e (codes_by_place es r) (λ q. not_both _ p.0
    (ap (λ z. is_some (at_number t.rooms z)) (eq_from e.1.room r q) ∙ ap is_some n)) (none_by t r n es p.1)
  where
    skip : (b : Bool) (e : ℕ × CodeRow) (ps : List (ℕ × ℕ))
        → (b ≡ true → ⊥) → ps ≡ [] → when b (λ placed. insert_entry nat_cmp placed e.1.place e.0) ps ≡ []
    skip true e ps f n = absurd (f refl)
    skip false e ps f n = n

none_listed_by : (b : Bool) (n m : ℕ) → m ≡ cond b 1 0 + n → (b ≡ true → ⊥) → n ≡ 0 → m ≡ 0
none_listed_by true n m e f z = absurd (f refl)
none_listed_by false n m e f z = omega arith

none_listed : (t : Rows) (r : ℕ) → at_number t.rooms r ≡ None → (es : List (ℕ × CodeRow))
    → list_all (λ (e : ℕ × CodeRow). is_some (at_number t.rooms e.1.room)) es ≡ true → listed es r ≡ 0
none_listed t r n [] a = refl
none_listed t r n (e ∷ es) a =
    let p = and_true (is_some (at_number t.rooms e.1.room)) _ a in
    none_listed_by (e.1.room == r) (listed es r) _ (one_listed e es r) (λ q. not_both _ p.0
    (ap (λ z. is_some (at_number t.rooms z)) (eq_from e.1.room r q) ∙ ap is_some n)) (none_listed t r n es p.1)

pub no_codes_at : (t : Rows) → IsSound t → (r : ℕ) → at_number t.rooms r ≡ None → codes_at t r ≡ []
no_codes_at t s r n = ap values_of (none_by t r n t.codes s.code_room)

-- each room of a start has its row
pub same_room_keys : (es : List (ℕ × RoomRow)) → keys_of (map (λ e. (e.0, e.1.kind)) es) ≡ keys_of es
same_room_keys [] = refl
same_room_keys (e ∷ es) = ap (λ zs. e.0 ∷ zs) (same_room_keys es)

pub room_there_is : (t : Rows) (r : ℕ) → is_room (start t) r ≡ is_some (at_number t.rooms r)
room_there_is t r = ap (is_one_of r) (same_room_keys t.rooms) ∙ is_key t.rooms r

pub has_row : (t : Rows) (r : ℕ) → is_room (start t) r ≡ true → (row : RoomRow) × (at_number t.rooms r ≡ Some row)
has_row t r e = some_of (at_number t.rooms r) (sym (room_there_is t r) ∙ e)

pub has_no_row : (t : Rows) (r : ℕ) → is_some (at_number t.rooms r) ≡ false → at_number t.rooms r ≡ None
has_no_row t r e = by (at_number t.rooms r) e
  where
    by : (o : Option RoomRow) → is_some o ≡ false → o ≡ None
    by (Some row) e = not_both true refl e
    by None e = refl

-- a code's room is there
code_has_room : (t : Rows) → IsSound t → (code : ℕ) (row : CodeRow)
    → at_number t.codes code ≡ Some row → (room : RoomRow) × (at_number t.rooms row.room ≡ Some room)
code_has_room t s code row e = some_of (at_number t.rooms row.room)
    (found_passes (λ (e : ℕ × CodeRow). is_some (at_number t.rooms e.1.room)) t.codes code row s.code_room e)

-- Each row of the table of codes tells the place of its code.
pub row_is_place : (t : Rows) → IsSound t → (code : ℕ) (row : CodeRow)
    → at_number t.codes code ≡ Some row → SplitsAt (codes_at t row.room) code row.place
row_is_place t s code row e =
    let room = code_has_room t s code row e in
    let c = counted t s row.room room.0 room.1 in
    split_at (codes_by_place t.codes row.room) row.place code c.up
    (is_placed t.codes row.room code row
    (sym (length_values (codes_by_place t.codes row.room)) ∙ c.many ∙ sym c.listed) refl e)

-- Each place of a code at a room has its row in the table of codes.
pub place_is_row : (t : Rows) → IsSound t → (r : ℕ) (before : List ℕ) (code : ℕ) (later : List ℕ)
    → codes_at t r ≡ before ++ code ∷ later → at_number t.codes code ≡ Some (record { room = r; place = length before })
place_is_row t s r before code later e =
    by (is_some (at_number t.rooms r)) refl
  where
    by : (b : Bool) → is_some (at_number t.rooms r) ≡ b
        → at_number t.codes code ≡ Some (record { room = r; place = length before })
    by true q =
        let row = some_of (at_number t.rooms r) q in
        placed_back t.codes r (length before) code (orders t s).codes
        (found_at (codes_by_place t.codes r) before code later (counted t s r row.0 row.1).up e)
    by false q = absurd (nothing_in_nil before code later (sym (no_codes_at t s r (has_no_row t r q)) ∙ e))

-- The places of each room's codes are 0 and on.
pub places_count_up : (t : Rows) → IsSound t → (r : ℕ) → count_up 0 (keys_of (codes_by_place t.codes r)) ≡ true
places_count_up t s r = by (is_some (at_number t.rooms r)) refl
  where
    by : (b : Bool) → is_some (at_number t.rooms r) ≡ b → count_up 0 (keys_of (codes_by_place t.codes r)) ≡ true
    by true q = let row = some_of (at_number t.rooms r) q in (counted t s r row.0 row.1).up
    by false q =
        ap (λ (ps : List (ℕ × ℕ)). count_up 0 (keys_of ps)) (none_by t r (has_no_row t r q) t.codes s.code_room)

-- The table has as many codes of each room as stand there.
pub listed_at_start : (t : Rows) → IsSound t → (r : ℕ) → listed t.codes r ≡ length (codes_at t r)
listed_at_start t s r = by (is_some (at_number t.rooms r)) refl
  where
    by : (b : Bool) → is_some (at_number t.rooms r) ≡ b → listed t.codes r ≡ length (codes_at t r)
    by true q = let row = some_of (at_number t.rooms r) q in let c = counted t s r row.0 row.1 in c.listed ∙ sym c.many
    by false q = none_listed t r (has_no_row t r q) t.codes s.code_room
        ∙ ap (λ (zs : List ℕ). length zs) (sym (no_codes_at t s r (has_no_row t r q)))

pub places_at_start : (t : Rows) → IsSound t → CodesHavePlaces (start t)
places_at_start t s r before code later e = place_is_row t s r before code later e

pub rows_at_start : (t : Rows) → IsSound t → PlacesHaveCodes (start t)
rows_at_start t s code row e = row_is_place t s code row e

-- the place of a room's lock is one of its codes'
pub lock_within : (t : Rows) → IsSound t → (r : ℕ) (row : RoomRow)
    → at_number t.rooms r ≡ Some row → (lock_place_of t r ≡ row.lock_place) × (row.lock_place < length (codes_at t r))
lock_within t s r row e =
    let l = lt_from row.lock_place row.codes
    (found_passes (λ (e : ℕ × RoomRow). nat_lt e.1.lock_place e.1.codes) t.rooms r row s.room_lock_place e) in
    let c = (counted t s r row e).many in
    (ap (λ o. said_of o 0 (λ row. row.lock_place)) e, omega arith)
