-- The rows that stand for a start are the start's rows.
use Rattle.std.proofs.Common.{ℕ, ◌≡◌, ◌≤◌, ◌<◌, ◌+◌, Bool, true, false, cond, Option, Some, None, List, [], ◌∷◌, length}
use Rattle.std.proofs.Common.{take, refl, ap, sym, ◌∙◌, arith, ◌==◌, ◌&&◌, map, bytes_eq, nat_le, nat_cmp, is_eq}
use Rattle.std.proofs.Common.{count_by}
use Rattle.hotel_model.proofs.Names.{list_all, keys_of, values_of, RoomRow, said_of, Rows, at_number, codes_at}
use Rattle.hotel_model.proofs.Names.{lock_place_of, notes_at, start, room_row, rows_of, rooms, rooms_of, rooms_of_kind}
use Rattle.hotel_model.proofs.Names.{IsSound}
use Rattle.std.proofs.lemmas.List.{length-take-le}
use Rattle.hotel_model.proofs.{Facts.Follow.ApartFrom, Facts.Follow.RoomsOnce, OfTables.KeysInOrder.AllAfter}
use Rattle.hotel_model.proofs.{OfTables.KeysInOrder.InOrder, OfTables.StayCounts.count_first}
use Rattle.hotel_model.proofs.{OfTables.Tests.eq_self, OfTables.Tests.and_true, OfTables.TableKeys.at_is}
use Rattle.hotel_model.proofs.{OfTables.TableKeys.is_at_self}
use Rattle.hotel_model.proofs.{OfTables.RowTests.all_weaker, OfTables.RowTests.both, Starts.StartOrder.found_later}
use Rattle.hotel_model.proofs.Starts.StartCodes.{orders, room_is, counted, lock_within}
use Rattle.hotel_model.proofs.{Starts.StartNotes.numbers_said, Starts.StartNotes.as_many_numbers}

-- a room and its kind
abbrev with_kind : List (ℕ × RoomRow) → List (ℕ × List ℕ)
with_kind es = map (λ e. (e.0, e.1.kind)) es

apart_from : (k : ℕ) (es : List (ℕ × RoomRow)) → AllAfter nat_cmp k (keys_of es) → ApartFrom k (with_kind es)
apart_from k [] a = tt
apart_from k (e ∷ es) a = (sym (at_is k e.0) ∙ ap is_eq a.0, apart_from k es a.1)

once_from : (es : List (ℕ × RoomRow)) → InOrder nat_cmp (keys_of es) → RoomsOnce (with_kind es)
once_from [] s = tt
once_from (e ∷ es) s = (apart_from e.0 es s.0, once_from es s.1)

-- No room's number stands twice.
pub rooms_once_at_start : (t : Rows) → IsSound t → RoomsOnce (rooms (start t))
rooms_once_at_start t s = once_from t.rooms (orders t s).rooms

-- a row of these columns
abbrev row_by : ℕ → List ℕ → ℕ → ℕ → Bool → Option ℕ → ℕ → ℕ → ℕ → RoomRow
row_by r k l c s p n f o =
    record { room = r; kind = k; lock_place = l; codes = c; secured = s; party = p; notes = n; fit = f; before = o }

pub notes_counted : (t : Rows) → IsSound t → (r : ℕ) (row : RoomRow)
    → at_number t.rooms r ≡ Some row → length (notes_at t.notes r) ≡ row.notes
notes_counted t s r row e =
    sym (as_many_numbers t.notes r) ∙ (numbers_said t s r row e).1

weaker : (e : ℕ × RoomRow) → ((e.1.room == e.0) && nat_le 1 e.0 && nat_le e.0 9999) ≡ true
    → ((e.0 == e.0) && nat_le 1 e.0 && nat_le e.0 9999) ≡ true
weaker e t =
    let p = and_true ((e.1.room == e.0) && nat_le 1 e.0) (nat_le e.0 9999) t in
    let q = and_true (e.1.room == e.0) (nat_le 1 e.0) p.0 in
    both ((e.0 == e.0) && nat_le 1 e.0) _ (both (e.0 == e.0) _ (eq_self e.0) q.1) p.1

-- The rooms' numbers are 1 to 9999.
pub rooms_numbered_at_start : (t : Rows)
    → IsSound t → list_all (λ (e : ℕ × RoomRow). (e.0 == e.0) && nat_le 1 e.0 && nat_le e.0 9999) t.rooms ≡ true
rooms_numbered_at_start t s =
    all_weaker (λ (e : ℕ × RoomRow). (e.1.room == e.0) && nat_le 1 e.0 && nat_le e.0 9999)
    (λ (e : ℕ × RoomRow). (e.0 == e.0) && nat_le 1 e.0 && nat_le e.0 9999) weaker t.rooms s.room_number

-- as many codes are passed as the lock's place says
pub lock_is : (t : Rows) → IsSound t → (r : ℕ) (row : RoomRow)
    → at_number t.rooms r ≡ Some row → length (take (lock_place_of t r) (codes_at t r)) ≡ row.lock_place
lock_is t s r row e =
    let l = lock_within t s r row e in
    ap (λ z. length (take z (codes_at t r))) l.0 ∙ length-take-le row.lock_place (codes_at t r) (below l.1)
  where
    below : {a b : ℕ} → a < b → a ≤ b
    below l = omega arith

-- a room's row, read off the start, is its row
row_back : (t : Rows) → IsSound t → (r : ℕ) (row : RoomRow)
    → at_number t.rooms r ≡ Some row → room_row (start t) r row.kind ≡ row
row_back t s r row e =
    let c = length (codes_at t r) in
    let l = length (take (lock_place_of t r) (codes_at t r)) in
    let b = said_of (at_number t.rooms r) false (λ row. row.secured) in
    let p : Option ℕ = said_of (at_number t.rooms r) None (λ row. row.party) in
    let n = length (notes_at t.notes r) in
    let f = said_of (at_number t.rooms r) 0 (λ row. row.fit) in
    let o = said_of (at_number t.rooms r) 0 (λ row. row.before) in
    ap (λ z. row_by z row.kind l c b p n f o) (sym (room_is t s r row e))
    ∙ ap (λ z. row_by row.room row.kind z c b p n f o) (lock_is t s r row e)
    ∙ ap (λ z. row_by row.room row.kind row.lock_place z b p n f o) (counted t s r row e).many
    ∙ ap (λ z. row_by row.room row.kind row.lock_place row.codes z p n f o)
    (ap (λ x. said_of x false (λ row. row.secured)) e)
    ∙ ap (λ z. row_by row.room row.kind row.lock_place row.codes row.secured z n f o)
    (ap (λ x. said_of x None (λ row. row.party)) e)
    ∙ ap (λ z. row_by row.room row.kind row.lock_place row.codes row.secured row.party z f o)
    (notes_counted t s r row e)
    ∙ ap (λ z. row_by row.room row.kind row.lock_place row.codes row.secured row.party row.notes z o)
    (ap (λ x. said_of x 0 (λ row. row.fit)) e)
    ∙ ap (λ z. row_by row.room row.kind row.lock_place row.codes row.secured row.party row.notes row.fit z)
    (ap (λ x. said_of x 0 (λ row. row.before)) e)

all_back : (f : ℕ → List ℕ → RoomRow) (es : List (ℕ × RoomRow))
    → InOrder nat_cmp (keys_of es) → ((r : ℕ) (row : RoomRow) → at_number es r ≡ Some row → f r row.kind ≡ row)
    → map (λ e. (e.0, f e.0 e.1)) (with_kind es) ≡ es
all_back f [] s back = refl
all_back f (e ∷ es) s back =
    let first : at_number (e ∷ es) e.0 ≡ Some e.1 = ap (λ t. cond t (Some e.1) (at_number es e.0)) (is_at_self e.0) in
    ap (λ row. (e.0, row) ∷ map (λ e. (e.0, f e.0 e.1)) (with_kind es)) (back e.0 e.1 first)
    ∙ ap (λ zs. e ∷ zs) (all_back f es s.1 (λ r row g. back r row (found_later e es r row s.0 g)))

-- The rows that stand for a start are the start's rows.
pub rows_of_start : (t : Rows) → IsSound t → rows_of (start t) ≡ t
rows_of_start t s =
    ap (λ rs. record t { rooms = rs }) (all_back (room_row (start t)) t.rooms (orders t s).rooms (row_back t s))

kinds_counted : (kind : List ℕ) (es : List (ℕ × RoomRow))
    → count_by (λ (row : RoomRow). bytes_eq row.kind kind) (values_of es)
    ≡ count_by (λ k. bytes_eq k kind) (values_of (with_kind es))
kinds_counted kind [] = refl
kinds_counted kind (e ∷ es) =
    count_first (λ (row : RoomRow). bytes_eq row.kind kind) e.1 (values_of es)
    ∙ ap (λ n. cond (bytes_eq e.1.kind kind) 1 0 + n) (kinds_counted kind es)
    ∙ sym (count_first (λ k. bytes_eq k kind) e.1.kind (values_of (with_kind es)))

-- A start has as many rooms of a kind as its rows.
pub rooms_of_start : (t : Rows) (kind : List ℕ) → rooms_of_kind t.rooms kind ≡ rooms_of (start t) kind
rooms_of_start t kind = kinds_counted kind t.rooms
