-- Tables by room and number: what stands at one room, in the order of the numbers.
use Rattle.std.proofs.Common.{ℕ, zero, suc, ◌≡◌, ◌<◌, ◌+◌, Bool, true, false, cond, Option, Some, None, List, [], ◌∷◌}
use Rattle.std.proofs.Common.{◌++◌, drop, length, refl, ap, sym, ◌∙◌, subst, arith, ◌==◌, ◌&&◌, ◌||◌, not, nat_lt}
use Rattle.std.proofs.Common.{nat_cmp, Ordering, Less, Equal, Greater}
use Rattle.hotel_model.proofs.Names.{ordering_then, match_ordering, insert_entry, is_at, lookup, list_all, keys_of}
use Rattle.hotel_model.proofs.Names.{nat_tests, Note, FitRow, when, and_last, pair_cmp, notes_at, fits_at, numbers_at}
use Rattle.hotel_model.proofs.Names.{count_up}
use Rattle.hotel_model.proofs.{OfTables.Tests.eq_from, OfTables.Tests.eq_self, OfTables.Tests.and_true}
use Rattle.hotel_model.proofs.{OfTables.Tests.not_higher, OfTables.RowTests.both}
use Rattle.hotel_model.proofs.{OfTables.KeysInOrder.AllAfter, OfTables.KeysInOrder.InOrder}
use Rattle.hotel_model.proofs.{OfTables.Pairs.pair_cmp_total, OfTables.Pairs.pair_exact, OfTables.Pairs.pair_is}

-- what f says of the rows of a room, in the order of their keys
abbrev pub picked : {X Y : Type 0} → ((ℕ × ℕ) × X → Y) → List ((ℕ × ℕ) × X) → ℕ → List Y
picked f [] r = []
picked f (e ∷ es) r = when (e.0.0 == r) (λ ys. f e ∷ ys) (picked f es r)

pub notes_are_picked : (es : List ((ℕ × ℕ) × Note)) (r : ℕ) → notes_at es r ≡ picked (λ (e : (ℕ × ℕ) × Note). e.1) es r
notes_are_picked [] r = refl
notes_are_picked (e ∷ es) r = ap (λ ns. when (e.0.0 == r) (λ ys. e.1 ∷ ys) ns) (notes_are_picked es r)

pub numbers_are_picked : (es : List ((ℕ × ℕ) × Note)) (r : ℕ)
    → numbers_at es r ≡ picked (λ (e : (ℕ × ℕ) × Note). e.0.1) es r
numbers_are_picked [] r = refl
numbers_are_picked (e ∷ es) r = ap (λ ns. when (e.0.0 == r) (λ ys. e.0.1 ∷ ys) ns) (numbers_are_picked es r)

pub fits_are_picked : (es : List ((ℕ × ℕ) × FitRow)) (r : ℕ)
    → fits_at es r ≡ picked (λ (e : (ℕ × ℕ) × FitRow). e.1) es r
fits_are_picked [] r = refl
fits_are_picked (e ∷ es) r = ap (λ ns. when (e.0.0 == r) (λ ys. e.1 ∷ ys) ns) (fits_are_picked es r)

-- the row is of another room, or of a lower number
abbrev pub is_before : {X : Type 0} → ℕ → ℕ → (ℕ × ℕ) × X → Bool
is_before room number e = not (e.0.0 == room) || nat_lt e.0.1 number

then_less : (r c : ℕ) (k : ℕ × ℕ) → ordering_then (nat_cmp r k.0) (nat_cmp c k.1) ≡ Less → (k.0 == r) ≡ true → c < k.1
then_less r c k l e =
    let same : nat_cmp r k.0 ≡ Equal = grind (arith, nat_tests) in
    let less : nat_cmp c k.1 ≡ Less = ap (λ o. ordering_then o (nat_cmp c k.1)) (sym same) ∙ l in
    grind (arith, nat_tests)

-- a key after this one isn't both of the room and of a lower number
not_after : {X : Type 0} (r c : ℕ) (e : (ℕ × ℕ) × X)
    → pair_cmp (r, c) e.0 ≡ Less → is_before r c e ≡ true → (e.0.0 == r) ≡ false
not_after r c e l t = by (e.0.0 == r) refl t
  where
    by : (b : Bool) → (e.0.0 == r) ≡ b → (not b || nat_lt e.0.1 c) ≡ true → (e.0.0 == r) ≡ false
    by true q u =
        let low = then_less r c e.0 l q in absurd (let lt : e.0.1 < c = grind (arith, nat_tests) in omega arith)
    by false q u = q

none_after : {X Y : Type 0} (f : (ℕ × ℕ) × X → Y) (r c : ℕ) (es : List ((ℕ × ℕ) × X))
    → AllAfter pair_cmp (r, c) (keys_of es) → list_all (is_before r c) es ≡ true → picked f es r ≡ []
none_after f r c [] a all = refl
none_after f r c (e ∷ es) a all =
    let p = and_true (is_before r c e) (list_all (is_before r c) es) all in
    ap (λ b. when b (λ ns. f e ∷ ns) (picked f es r)) (not_after r c e a.0 p.0) ∙ none_after f r c es a.1 p.1

first_is_last : {Y : Type 0} (b : Bool) (y : Y) (taken : List Y)
    → (b ≡ true → taken ≡ []) → when b (λ ns. y ∷ ns) taken ≡ when b (and_last y) taken
first_is_last true y taken f = ap (λ ns. y ∷ ns) (f refl) ∙ ap (λ ns. ns ++ y ∷ []) (sym (f refl))
first_is_last false y taken f = refl

last_stays_last : {Y : Type 0} (a b : Bool) (first y : Y) (taken : List Y)
    → when a (λ ns. first ∷ ns) (when b (and_last y) taken) ≡ when b (and_last y) (when a (λ ns. first ∷ ns) taken)
last_stays_last true true first y taken = refl
last_stays_last _ _ first y taken = refl

same_key_not_before : {X : Type 0} (r c : ℕ) (e : (ℕ × ℕ) × X) → (r, c) ≡ e.0 → is_before r c e ≡ true → ⊥
same_key_not_before r c e k t =
    let room : e.0.0 ≡ r = ap (λ (z : ℕ × ℕ). z.0) (sym k) in
    let count : e.0.1 ≡ c = ap (λ (z : ℕ × ℕ). z.1) (sym k) in
    by (e.0.0 == r) (nat_lt e.0.1 c) (ap (λ z. z == r) room ∙ eq_self r)
    (let f : nat_lt e.0.1 c ≡ false = grind (arith, nat_tests) in f) t
  where
    by : (a b : Bool) → a ≡ true → b ≡ false → (not a || b) ≡ true → ⊥
    by true true p q u = let w : ◌≡◌ {A = Bool} true false = q in cc
    by true false p q u = let w : ◌≡◌ {A = Bool} false true = u in cc
    by false b p q u = let w : ◌≡◌ {A = Bool} false true = p in cc

after_all : {X : Type 0} (k : ℕ × ℕ) (e : (ℕ × ℕ) × X) (es : List ((ℕ × ℕ) × X))
    → pair_cmp k e.0 ≡ Less → AllAfter pair_cmp e.0 (keys_of es) → AllAfter pair_cmp k (keys_of es)
after_all k e [] l a = tt
after_all k e (x ∷ es) l a = (pair_cmp_total.trans k e.0 x.0 l a.0, after_all k e es l a.1)

picked_by : {X Y : Type 0} (f : (ℕ × ℕ) × X → Y) (o : Ordering) (e : (ℕ × ℕ) × X) (es : List ((ℕ × ℕ) × X))
    (room number : ℕ) (x : X) (r : ℕ) → pair_cmp (room, number) e.0 ≡ o → InOrder pair_cmp (keys_of (e ∷ es))
    → list_all (is_before room number) (e ∷ es) ≡ true → picked f (insert_entry pair_cmp es (room, number) x) r
    ≡ when (room == r) (and_last (f ((room, number), x))) (picked f es r)
    → picked f (match_ordering o (((room, number), x) ∷ e ∷ es) ((e.0, x) ∷ es)
    (e ∷ insert_entry pair_cmp es (room, number) x)) r
    ≡ when (room == r) (and_last (f ((room, number), x))) (picked f (e ∷ es) r)
picked_by f Less e es room number x r c s all ih =
    first_is_last (room == r) (f ((room, number), x)) (picked f (e ∷ es) r)
    (λ t. subst (λ z. picked f (e ∷ es) z ≡ []) (eq_from room r t)
    (none_after f room number (e ∷ es) (c, after_all (room, number) e es c s.0) all))
picked_by f Equal e es room number x r c s all ih =
    absurd (same_key_not_before room number e (pair_exact (room, number) e.0 c)
    (and_true (is_before room number e) (list_all (is_before room number) es) all).0)
picked_by f Greater e es room number x r c s all ih =
    ap (λ ns. when (e.0.0 == r) (λ zs. f e ∷ zs) ns) ih
    ∙ last_stays_last (e.0.0 == r) (room == r) (f e) (f ((room, number), x)) (picked f es r)

-- What stands at a room, with a row of a number above all of its room more.
pub picked_more : {X Y : Type 0} (f : (ℕ × ℕ) × X → Y) (es : List ((ℕ × ℕ) × X)) (room number : ℕ) (x : X) (r : ℕ)
    → InOrder pair_cmp (keys_of es) → list_all (is_before room number) es ≡ true
    → picked f (insert_entry pair_cmp es (room, number) x) r
    ≡ when (room == r) (and_last (f ((room, number), x))) (picked f es r)
picked_more f [] room number x r s all = first_is_last (room == r) (f ((room, number), x)) [] (λ t. refl)
picked_more f (e ∷ es) room number x r s all =
    picked_by f (pair_cmp (room, number) e.0) e es room number x r refl s all
    (picked_more f es room number x r s.1
    (and_true (is_before room number e) (list_all (is_before room number) es) all).1)

-- the first of some
abbrev pub first_in : {X : Type 0} → List X → Option X
first_in [] = None
first_in (x ∷ xs) = Some x

pub none_in : {X : Type 0} (k : ℕ) → first_in {X = X} (drop k []) ≡ None
none_in zero = refl
none_in (suc k) = refl

-- a list has a first after so many exactly where it is longer
pub some_left : {X : Type 0} (k : ℕ) (xs : List X) (x : X) → first_in (drop k xs) ≡ Some x → k < length xs
some_left {X} k [] x e = let w : ◌≡◌ {A = Option X} None (Some x) = sym (none_in k) ∙ e in cc
some_left zero (y ∷ xs) x e = omega arith
some_left (suc k) (y ∷ xs) x e = let l = some_left k xs x e in omega arith

pub there_at : {X : Type 0} (k : ℕ) (xs : List X) → k < length xs → (x : X) × (first_in (drop k xs) ≡ Some x)
there_at k [] l = absurd (omega arith)
there_at zero (y ∷ xs) l = (y, refl)
there_at (suc k) (y ∷ xs) l = there_at k xs (omega arith)

-- the numbers of a room
abbrev pub keys_at : {X : Type 0} → List ((ℕ × ℕ) × X) → ℕ → List ℕ
keys_at {X} es r = picked (λ (e : (ℕ × ℕ) × X). e.0.1) es r

found_by : {X : Type 0} (b : Bool) (e : (ℕ × ℕ) × X) (found : Option X) (later : List X) (numbers : List ℕ) (n k : ℕ)
    → count_up n (when b (λ ns. e.0.1 ∷ ns) numbers) ≡ true
    → (count_up n numbers ≡ true → found ≡ first_in (drop k later))
    → ((j : ℕ) → k ≡ suc j → count_up (n + 1) numbers ≡ true → found ≡ first_in (drop j later))
    → cond (b && (e.0.1 == n + k)) (Some e.1) found ≡ first_in (drop k (when b (λ xs. e.1 ∷ xs) later))
found_by false e found later numbers n k up same next = same up
found_by true e found later numbers n zero up same next =
    let p = and_true (e.0.1 == n) (count_up (n + 1) numbers) up in
    let here : e.0.1 ≡ n = eq_from e.0.1 n p.0 in
    let q : e.0.1 ≡ n + zero = omega arith in
    ap (λ b. cond b (Some e.1) found) (ap (λ z. z == n + zero) q ∙ eq_self (n + zero))
found_by true e found later numbers n (suc j) up same next =
    let p = and_true (e.0.1 == n) (count_up (n + 1) numbers) up in
    let here : e.0.1 ≡ n = eq_from e.0.1 n p.0 in
    ap (λ b. cond b (Some e.1) found) (not_higher e.0.1 (n + suc j) (omega arith)) ∙ next j refl p.1

-- The row of a room's number n + k is the one after k, where the room's numbers go up from n.
pub found_at : {X : Type 0} (es : List ((ℕ × ℕ) × X)) (r n k : ℕ) → count_up n (keys_at es r) ≡ true
    → lookup (is_at (pair_cmp (r, n + k))) es ≡ first_in (drop k (picked (λ (e : (ℕ × ℕ) × X). e.1) es r))
found_at [] r n k up = sym (none_in k)
found_at {X} (e ∷ es) r n k up =
    ap (λ b. cond b (Some e.1) (lookup (is_at (pair_cmp (r, n + k))) es)) (pair_is r (n + k) e.0)
    ∙ found_by (e.0.0 == r) e (lookup (is_at (pair_cmp (r, n + k))) es)
    (picked (λ (x : (ℕ × ℕ) × X). x.1) es r) (keys_at es r) n k up
    (λ u. found_at es r n k u)
    (λ j q u. let m : n + k ≡ (n + 1) + j = omega arith in
    ap (λ z. lookup (is_at (pair_cmp (r, z))) es) m ∙ found_at es r (n + 1) j u)

-- numbers that go up, and the next one
pub counts_next : (n : ℕ) (numbers : List ℕ) (next : ℕ)
    → count_up n numbers ≡ true → next ≡ n + length numbers → count_up n (numbers ++ next ∷ []) ≡ true
counts_next n [] next up e =
    let same : next ≡ n = omega arith in both (next == n) true (ap (λ z. z == n) same ∙ eq_self n) refl
counts_next n (x ∷ numbers) next up e =
    let p = and_true (x == n) (count_up (n + 1) numbers) up in
    both (x == n) _ p.0 (counts_next (n + 1) numbers next p.1 (omega arith))
