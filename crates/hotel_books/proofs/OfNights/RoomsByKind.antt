-- The rooms of each kind: as many as are counted, and fewer than a count holds.
use Rattle.std.proofs.Common.{ℕ, ◌≡◌, ◌+◌, ◌-◌, ◌^◌, ◌≤◌, ◌<◌, Bool, true, false, cond, Option, Some, None, List, []}
use Rattle.std.proofs.Common.{◌∷◌, length, refl, ap, ◌∙◌, arith, sym, ◌==◌, bytes_eq, count_by, nat_cmp, Ordering, Less}
use Rattle.std.proofs.Common.{Equal, Greater}
use Rattle.hotel_books.proofs.Names.{AllByRecursion, MatchOrdering, match_ordering, ranks, insert_entry, keys_of}
use Rattle.hotel_books.proofs.Names.{values_of, length-map, count_by-le-length, IsNumberUpTo, one_if, RoomRow, at_number}
use Rattle.hotel_books.proofs.Names.{room_changed, freed_by, rooms_in, HaveRoomNumbers, RoomsKnown}
use Rattle.std.specs.List.Sorted.{IsStrictlySortedBy}
use Rattle.hotel_model.proofs.OfTables.StayCounts.{count_first, count_inserted}

-- ---- fewer than 10,000

below_by : (x y : ℕ) (o : Ordering) → MatchOrdering o (x < y) (x ≡ y) (y < x) → o ≡ Less → x < y
below_by x y Less m h = m
below_by x y Equal m h = absurd (let w : ◌≡◌ {A = Ordering} Equal Less = h in cc)
below_by x y Greater m h = absurd (let w : ◌≡◌ {A = Ordering} Greater Less = h in cc)

raised : (k : ℕ) (ks : List ℕ) → AllByRecursion (λ y. nat_cmp k y ≡ Less) ks → AllByRecursion (λ y. k + 1 ≤ y) ks
raised k [] all = tt
raised k (y ∷ ys) all =
    let b : k < y = below_by k y (nat_cmp k y) (ranks k y) all.0 in (omega (arith, b), raised k ys all.1)

tail_sorted : (k : ℕ) (ks : List ℕ)
    → IsStrictlySortedBy nat_cmp (k ∷ ks) → AllByRecursion (λ y. nat_cmp k y ≡ Less) ks × IsStrictlySortedBy nat_cmp ks
unfolding IsStrictlySortedBy
tail_sorted k ks s = s

few_from : (low : ℕ) (es : List (ℕ × RoomRow)) → IsStrictlySortedBy nat_cmp (keys_of es)
    → AllByRecursion (λ n. low ≤ n) (keys_of es) → HaveRoomNumbers es → low ≤ 10000 → length es + low ≤ 10000
few_from low [] s all h l = omega (arith, l)
few_from low (e ∷ es) s all h l =
    let t = tail_sorted e.0 (keys_of es) s in
    let rest = few_from (e.0 + 1) es t.1 (raised e.0 (keys_of es) t.0) h.1 (omega (arith, h.0.1)) in
    omega (arith, rest, all.0)

all_from_zero : (ks : List ℕ) → AllByRecursion (λ n. 0 ≤ n) ks
all_from_zero [] = tt
all_from_zero (k ∷ ks) = (omega arith, all_from_zero ks)

-- the rooms of a kind are fewer than a count of 32 bits holds
pub few_rooms : (kinds : List (List ℕ × ℕ)) (es : List (ℕ × RoomRow)) (kind : List ℕ)
    → RoomsKnown kinds es → IsStrictlySortedBy nat_cmp (keys_of es) → rooms_in kinds kind < 2 ^ 32 - 1
few_rooms kinds es kind known s =
    let few = few_from 0 es s (all_from_zero (keys_of es)) known.numbers (omega arith) in
    let most = count_by-le-length (λ (row : RoomRow). bytes_eq row.kind kind) (values_of es) in
    let same = length-map es (λ (x : ℕ × RoomRow). x.1) in
    let counted = known.counts kind in
    omega (arith, few, most, same, counted)

-- ---- what changes keep

numbers_added : (room : ℕ) (row : RoomRow) (es : List (ℕ × RoomRow))
    → IsNumberUpTo 9999 room → HaveRoomNumbers es → HaveRoomNumbers (insert_entry nat_cmp es room row)
numbers_added room row [] n h = (n, tt)
numbers_added room row (e ∷ es) n h = by (nat_cmp room e.0) (numbers_added room row es n h.1)
  where
    by : (o : Ordering) → HaveRoomNumbers (insert_entry nat_cmp es room row) → HaveRoomNumbers (match_ordering o
        ((room, row) ∷ e ∷ es) ((e.0, row) ∷ es) (e ∷ insert_entry nat_cmp es room row))
    by Less ih = (n, h)
    by Equal ih = h
    by Greater ih = (h.0, ih)

-- a new room of a kind
pub known_added : (before after : List (List ℕ × ℕ)) (es : List (ℕ × RoomRow)) (room : ℕ) (row : RoomRow)
    → RoomsKnown before es → at_number es room ≡ None → IsNumberUpTo 9999 room
    → ((k : List ℕ) → rooms_in after k ≡ rooms_in before k + one_if (bytes_eq row.kind k))
    → RoomsKnown after (insert_entry nat_cmp es room row)
known_added before after es room row known new n more = record {
  counts = λ kind.
      let added = count_inserted (λ (r : RoomRow). bytes_eq r.kind kind) es room row new in
      let was = known.counts kind in
      let is = more kind in
      omega (arith, added, was, is);
  numbers = numbers_added room row es n known.numbers;
}

module _ (f : RoomRow → RoomRow) (same : (row : RoomRow) → (f row).kind ≡ row.kind) where
  counts_kept : (kind : List ℕ) (room : ℕ) (es : List (ℕ × RoomRow))
      → count_by (λ (row : RoomRow). bytes_eq row.kind kind) (values_of (room_changed room f es))
      ≡ count_by (λ (row : RoomRow). bytes_eq row.kind kind) (values_of es)
  counts_kept kind room [] = refl
  counts_kept kind room (e ∷ es) = by (e.0 == room) (counts_kept kind room es)
    where
      of_kind : RoomRow → Bool
      of_kind row = bytes_eq row.kind kind

      by : (b : Bool) → count_by of_kind (values_of (room_changed room f es)) ≡ count_by of_kind (values_of es)
          → count_by of_kind (values_of (cond b ((e.0, f e.1) ∷ es) (e ∷ room_changed room f es)))
          ≡ count_by of_kind (e.1 ∷ values_of es)
      by true ih =
          count_first of_kind (f e.1) (values_of es)
          ∙ ap (λ k. cond (bytes_eq k kind) 1 0 + count_by of_kind (values_of es)) (same e.1)
          ∙ sym (count_first of_kind e.1 (values_of es))
      by false ih = count_first of_kind e.1 (values_of (room_changed room f es))
          ∙ ap (λ n. cond (of_kind e.1) 1 0 + n) ih ∙ sym (count_first of_kind e.1 (values_of es))

  numbers_kept : (room : ℕ) (es : List (ℕ × RoomRow)) → HaveRoomNumbers es → HaveRoomNumbers (room_changed room f es)
  numbers_kept room [] h = tt
  numbers_kept room (e ∷ es) h = by (e.0 == room) (numbers_kept room es h.1)
    where
      by : (b : Bool) → HaveRoomNumbers (room_changed room f es)
          → HaveRoomNumbers (cond b ((e.0, f e.1) ∷ es) (e ∷ room_changed room f es))
      by true ih = h
      by false ih = (h.0, ih)

  -- a room's row changes, and its kind doesn't
  pub known_changed : (kinds : List (List ℕ × ℕ)) (room : ℕ) (es : List (ℕ × RoomRow))
      → RoomsKnown kinds es → RoomsKnown kinds (room_changed room f es)
  known_changed kinds room es known = record {
    counts = λ kind. known.counts kind ∙ sym (counts_kept kind room es);
    numbers = numbers_kept room es known.numbers;
  }

pub known_left : (leaves : Option ℕ) (kinds : List (List ℕ × ℕ)) (es : List (ℕ × RoomRow))
    → RoomsKnown kinds es → RoomsKnown kinds (freed_by leaves es)
known_left None kinds es known = known
known_left (Some room) kinds es known =
    known_changed (λ row. record row { party = None }) (λ row. refl) kinds room es known
