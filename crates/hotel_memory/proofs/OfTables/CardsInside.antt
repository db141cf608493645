-- The cards inside a room, as a part of the pairs in order.
use Rattle.std.proofs.Common.{ℕ, ◌≡◌, ◌≤◌, ◌<◌, Bool, true, false, cond, Option, Some, None, is_some, List, [], ◌∷◌}
use Rattle.std.proofs.Common.{map, filter, refl, ap, sym, ◌∙◌, arith, ◌==◌, ◌&&◌, ◌||◌, not, nat_cmp, is_le, is_lt}
use Rattle.std.proofs.Common.{is_eq, Ordering, Less, Equal, Greater}
use Rattle.hotel_books.proofs.Names.{ordering_then, match_ordering, MatchOrdering, Included, is_at, range_contains}
use Rattle.hotel_books.proofs.Names.{insert_key, ranks, remove_key, IsNumberUpTo, list_any, pair_cmp, when, those_in}
use Rattle.hotel_books.proofs.Names.{are_none}
use Rattle.hotel_memory.specs.Tables.{HaveCardNumbers}
use Rattle.std.specs.Map.Iter.{TakesFirst}
use Rattle.keycard_rules.specs.Words.{is_one_of}
use Rattle.hotel_books.proofs.OfTables.MapEntries.{at_is, pair_is}

-- ---- changes keep the numbers

pub numbers_removed : (pairs : List (ℕ × ℕ)) (pair : ℕ × ℕ)
    → HaveCardNumbers pairs → HaveCardNumbers (remove_key (is_at (pair_cmp pair)) pairs)
numbers_removed [] pair h = tt
numbers_removed (x ∷ xs) pair h = removed_by (is_at (pair_cmp pair) x) h.0 h.1 (numbers_removed xs pair h.1)
  where
    removed_by : (b : Bool)
        → IsNumberUpTo 9999999 x.1 → HaveCardNumbers xs → HaveCardNumbers (remove_key (is_at (pair_cmp pair)) xs)
        → HaveCardNumbers (cond b xs (x ∷ remove_key (is_at (pair_cmp pair)) xs))
    removed_by true i all ih = all
    removed_by false i all ih = (i, ih)

pub numbers_added : (pairs : List (ℕ × ℕ)) (pair : ℕ × ℕ)
    → HaveCardNumbers pairs → IsNumberUpTo 9999999 pair.1 → HaveCardNumbers (insert_key pair_cmp pairs pair)
numbers_added [] pair h n = (n, tt)
numbers_added (x ∷ xs) pair h n = added_by (pair_cmp pair x) h (numbers_added xs pair h.1 n)
  where
    added_by : (o : Ordering) → HaveCardNumbers (x ∷ xs) → HaveCardNumbers (insert_key pair_cmp xs pair)
        → HaveCardNumbers (match_ordering o (pair ∷ x ∷ xs) (x ∷ xs) (x ∷ insert_key pair_cmp xs pair))
    added_by Less h ih = (n, h)
    added_by Equal h ih = h
    added_by Greater h ih = (h.0, ih)

pub numbers_filtered : (t : ℕ × ℕ → Bool) (pairs : List (ℕ × ℕ))
    → HaveCardNumbers pairs → HaveCardNumbers (filter t pairs)
numbers_filtered t [] h = tt
numbers_filtered t (x ∷ xs) h = filtered_by (t x) h.0 (numbers_filtered t xs h.1)
  where
    filtered_by : (b : Bool) → IsNumberUpTo 9999999 x.1 → HaveCardNumbers (filter t xs)
        → HaveCardNumbers (cond b (x ∷ filter t xs) (filter t xs))
    filtered_by true i ih = (i, ih)
    filtered_by false i ih = ih

-- ---- the part of a room

least_first : (o : Ordering) (n : ℕ) → MatchOrdering o (1 < n) (1 ≡ n) (n < 1) → 1 ≤ n → is_le o ≡ true
least_first Less n m h = refl
least_first Equal n m h = refl
least_first Greater n m h = absurd (omega (arith, m, h))

most_last : (o : Ordering) (n : ℕ) → MatchOrdering o (9999999 < n) (9999999 ≡ n) (n < 9999999)
    → n ≤ 9999999 → not (is_lt o) ≡ true
most_last Less n m h = absurd (omega (arith, m, h))
most_last Equal n m h = refl
most_last Greater n m h = refl

pub part_by : (o low high : Ordering) → is_le low ≡ true → not (is_lt high) ≡ true
    → (is_le (ordering_then o low) && not (is_lt (ordering_then o high))) ≡ is_eq o
part_by Less low high l h = refl
part_by Equal low high l h = ap (λ b. b && not (is_lt high)) l ∙ h
part_by Greater low high l h = refl

-- what lies between a room's least and greatest card is of the room
pub in_part : (room : ℕ) (e : ℕ × ℕ) → IsNumberUpTo 9999999 e.1
    → range_contains pair_cmp (Included (room, 1)) (Included (room, 9999999)) e ≡ (e.0 == room)
in_part room e i =
    part_by (nat_cmp room e.0) (nat_cmp 1 e.1) (nat_cmp 9999999 e.1) (least_first (nat_cmp 1 e.1) e.1 (ranks 1 e.1) i.0)
    (most_last (nat_cmp 9999999 e.1) e.1 (ranks 9999999 e.1) i.1)
    ∙ at_is room e.0

part_more : (b : Bool) (e : ℕ × ℕ) (es : List (ℕ × ℕ)) (ns : List ℕ) → ns ≡ map (λ (p : ℕ × ℕ). p.1) es
    → when b (λ numbers. e.1 ∷ numbers) ns ≡ map (λ (p : ℕ × ℕ). p.1) (cond b (e ∷ es) es)
part_more true e es ns h = ap (λ rest. e.1 ∷ rest) h
part_more false e es ns h = h

pub part_of_room : (room : ℕ) (pairs : List (ℕ × ℕ)) → HaveCardNumbers pairs → those_in pairs room
    ≡ map (λ (p : ℕ × ℕ). p.1) (filter (range_contains pair_cmp (Included (room, 1)) (Included (room, 9999999))) pairs)
part_of_room room [] h = refl
part_of_room room (e ∷ es) h =
    part_more (e.0 == room) e (filter (range_contains pair_cmp (Included (room, 1)) (Included (room, 9999999))) es)
    (those_in es room) (part_of_room room es h.1)
    ∙ ap (λ b. map (λ (p : ℕ × ℕ). p.1)
    (cond b (e ∷ filter (range_contains pair_cmp (Included (room, 1)) (Included (room, 9999999))) es)
    (filter (range_contains pair_cmp (Included (room, 1)) (Included (room, 9999999))) es))) (sym (in_part room e h.0))

-- ---- one card

when_has : (b : Bool) (n m : ℕ) (ns : List ℕ)
    → ((b && (m == n)) || list_any (λ k. k == n) ns) ≡ list_any (λ k. k == n) (when b (λ numbers. m ∷ numbers) ns)
when_has true n m ns = refl
when_has false n m ns = refl

-- a card is inside a room where the pair of both is among the pairs
pub known_inside : (pairs : List (ℕ × ℕ)) (room number : ℕ)
    → list_any (is_at (pair_cmp (room, number))) pairs ≡ is_one_of number (those_in pairs room)
known_inside [] room number = refl
known_inside (e ∷ es) room number =
    ap (λ b. b || list_any (is_at (pair_cmp (room, number))) es) (pair_is room number e)
    ∙ ap (λ b. ((e.0 == room) && (e.1 == number)) || b) (known_inside es room number)
    ∙ when_has (e.0 == room) number e.1 (those_in es room)

-- ---- any card

-- of a prefix of pairs there is a first one where there is any card
pub any_first : {A : Type 0} (shows : A → ℕ × ℕ) (pairs rest : List (ℕ × ℕ)) (first : Option A)
    → TakesFirst shows pairs first rest → is_some first ≡ not (are_none (map (λ (p : ℕ × ℕ). p.1) pairs))
any_first shows pairs rest (Some e) h = ap (λ (es : List (ℕ × ℕ)). not (are_none (map (λ (p : ℕ × ℕ). p.1) es))) (sym h)
any_first shows pairs rest None h = ap (λ (es : List (ℕ × ℕ)). not (are_none (map (λ (p : ℕ × ℕ). p.1) es))) (sym h.0)
