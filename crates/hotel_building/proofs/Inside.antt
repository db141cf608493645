-- Which cards are inside after one came in, left, or a room was cleared; and the same of a list of cards.
use Rattle.std.proofs.Common.{ℕ, suc, ◌≡◌, Bool, true, false, cond, List, [], ◌∷◌, refl, ap, sym, ◌∙◌, subst}
use Rattle.std.proofs.Common.{arith, ◌==◌, ◌&&◌, ◌||◌, not, is_eq, inl, inr, Ordering, Less, Equal, Greater, Contains}
use Rattle.hotel_model.proofs.Names.{match_ordering, insert_key, remove_key, is_at, when, pair_cmp}
use Rattle.hotel_model.proofs.Names.{is_one_of, those_in, those_elsewhere, are_none}
use Rattle.hotel_model.proofs.OfTables.Tests.{eq_from, eq_self, not_both, either_way}
use Rattle.hotel_model.proofs.OfTables.{Insiders.those_are, Pairs.pair_is, Pairs.same_pair}
use Rattle.hotel_model.proofs.OfTables.KeysInOrder.{InOrder, AllAfter, has_key}
use Rattle.hotel_building.specs.Building.{but}

-- ---- keys

or_same : (a b c : Bool) → a ≡ b → (b || c) ≡ (a || (b || c))
or_same true b c e = sym (ap (λ z. z || c) e)
or_same false b c e = refl

or_swap : (a b c : Bool) → (b || (a || c)) ≡ (a || (b || c))
or_swap true true c = refl
or_swap true false c = refl
or_swap false true c = refl
or_swap false false c = refl

had_by : (o : Ordering) (k j x : ℕ × ℕ) (xs : List (ℕ × ℕ)) → pair_cmp j x ≡ o
    → has_key pair_cmp k (insert_key pair_cmp xs j) ≡ (is_eq (pair_cmp k j) || has_key pair_cmp k xs)
    → has_key pair_cmp k (match_ordering o (j ∷ x ∷ xs) (x ∷ xs) (x ∷ insert_key pair_cmp xs j))
    ≡ (is_eq (pair_cmp k j) || (is_eq (pair_cmp k x) || has_key pair_cmp k xs))
had_by Less k j x xs c ih = refl
had_by Equal k j x xs c ih = or_same (is_eq (pair_cmp k j)) (is_eq (pair_cmp k x)) (has_key pair_cmp k xs)
    (ap (λ z. is_eq (pair_cmp k z)) (same_pair j x (ap is_eq c)))
had_by Greater k j x xs c ih =
    ap (λ b. is_eq (pair_cmp k x) || b) ih
    ∙ or_swap (is_eq (pair_cmp k j)) (is_eq (pair_cmp k x)) (has_key pair_cmp k xs)

-- which keys are there after one was added
had : (k j : ℕ × ℕ) (xs : List (ℕ × ℕ))
    → has_key pair_cmp k (insert_key pair_cmp xs j) ≡ (is_eq (pair_cmp k j) || has_key pair_cmp k xs)
had k j [] = refl
had k j (x ∷ xs) = had_by (pair_cmp j x) k j x xs refl (had k j xs)

none_after : (k : ℕ × ℕ) (xs : List (ℕ × ℕ)) → AllAfter pair_cmp k xs → has_key pair_cmp k xs ≡ false
none_after k [] a = refl
none_after k (x ∷ xs) a = ap (λ o. is_eq o || has_key pair_cmp k xs) a.0 ∙ none_after k xs a.1

-- a key that is none of some, taken out or not
first_lost : (a b c : Bool) → a ≡ b → (a ≡ true → c ≡ false) → c ≡ (not a && (b || c))
first_lost true b c e none = none refl
first_lost false b c e none = ap (λ z. z || c) e

later_lost : (a b c : Bool) → (b ≡ true → a ≡ false) → (b || (not a && c)) ≡ (not a && (b || c))
later_lost true true c differ = not_both true refl (differ refl)
later_lost true false c differ = refl
later_lost false true c differ = refl
later_lost false false c differ = refl

other_way : (x j : ℕ × ℕ) → is_eq (pair_cmp j x) ≡ false → is_eq (pair_cmp x j) ≡ false
other_way x j e = elim (either_way (is_eq (pair_cmp x j))) [
  | inl t ↦ not_both (is_eq (pair_cmp j x))
      (ap (λ z. is_eq (pair_cmp j z)) (same_pair x j t) ∙ pair_is j.0 j.1 j ∙ ap (λ b. b && (j.1 == j.1)) (eq_self j.0)
      ∙ eq_self j.1) e
  | inr f ↦ f
]

-- which keys are there after one was taken out
lost : (k j : ℕ × ℕ) (xs : List (ℕ × ℕ)) → InOrder pair_cmp xs
    → has_key pair_cmp k (remove_key (is_at (pair_cmp j)) xs) ≡ (not (is_eq (pair_cmp k j)) && has_key pair_cmp k xs)
lost k j [] s = by (is_eq (pair_cmp k j))
  where
    by : (b : Bool) → false ≡ (not b && false)
    by true = refl
    by false = refl
lost k j (x ∷ xs) s = by (is_at (pair_cmp j) x) refl (lost k j xs s.1)
  where
    by : (b : Bool) → is_eq (pair_cmp j x) ≡ b
        → has_key pair_cmp k (remove_key (is_at (pair_cmp j)) xs)
        ≡ (not (is_eq (pair_cmp k j)) && has_key pair_cmp k xs)
        → has_key pair_cmp k (cond b xs (x ∷ remove_key (is_at (pair_cmp j)) xs))
        ≡ (not (is_eq (pair_cmp k j)) && (is_eq (pair_cmp k x) || has_key pair_cmp k xs))
    by true e ih =
        let same : j ≡ x = same_pair j x e in
        first_lost (is_eq (pair_cmp k j)) (is_eq (pair_cmp k x)) (has_key pair_cmp k xs)
        (ap (λ z. is_eq (pair_cmp k z)) same)
        (λ t. none_after k xs (subst (λ z. AllAfter pair_cmp z xs) (sym (same_pair k j t ∙ same)) s.0))
    by false e ih =
        ap (λ b. is_eq (pair_cmp k x) || b) ih
        ∙ later_lost (is_eq (pair_cmp k j)) (is_eq (pair_cmp k x)) (has_key pair_cmp k xs)
        (λ t. ap (λ z. is_eq (pair_cmp z j)) (same_pair k x t) ∙ other_way x j e)

-- ---- cards inside a room

-- who is inside after a card came in
pub came : (es : List (ℕ × ℕ)) (room number r n : ℕ)
    → is_one_of n (those_in (insert_key pair_cmp es (room, number)) r)
    ≡ (((room == r) && (number == n)) || is_one_of n (those_in es r))
came es room number r n =
    those_are (insert_key pair_cmp es (room, number)) r n ∙ had (r, n) (room, number) es
    ∙ ap (λ b. b || has_key pair_cmp (r, n) es) (pair_is r n (room, number))
    ∙ ap (λ b. ((room == r) && (number == n)) || b) (sym (those_are es r n))

-- who is inside after a card left
pub went : (es : List (ℕ × ℕ)) (room number r n : ℕ) → InOrder pair_cmp es
    → is_one_of n (those_in (remove_key (is_at (pair_cmp (room, number))) es) r)
    ≡ (not ((room == r) && (number == n)) && is_one_of n (those_in es r))
went es room number r n s =
    those_are (remove_key (is_at (pair_cmp (room, number))) es) r n ∙ lost (r, n) (room, number) es s
    ∙ ap (λ b. not b && has_key pair_cmp (r, n) es) (pair_is r n (room, number))
    ∙ ap (λ b. not ((room == r) && (number == n)) && b) (sym (those_are es r n))

-- who is inside another room after a room was cleared
pub others_stay : (es : List (ℕ × ℕ)) (room r : ℕ)
    → (room == r) ≡ false → those_in (those_elsewhere room es) r ≡ those_in es r
others_stay [] room r f = refl
others_stay (e ∷ es) room r f = by (e.0 == room) refl (others_stay es room r f)
  where
    by : (b : Bool) → (e.0 == room) ≡ b → those_in (those_elsewhere room es) r ≡ those_in es r
        → those_in (cond (not b) (e ∷ those_elsewhere room es) (those_elsewhere room es)) r ≡ those_in (e ∷ es) r
    by true t ih =
        ih ∙ sym (ap (λ b. when b (λ numbers. e.1 ∷ numbers) (those_in es r))
        (ap (λ z. z == r) (eq_from e.0 room t) ∙ f))
    by false t ih = ap (λ ns. when (e.0 == r) (λ numbers. e.1 ∷ numbers) ns) ih

-- ---- lists of cards

-- no card is inside two rooms alike, or some in both
pub none_alike : (ns ms : List ℕ) → ((n : ℕ) → is_one_of n ns ≡ is_one_of n ms) → are_none ns ≡ are_none ms
none_alike [] [] e = refl
none_alike [] (m ∷ ms) e =
    not_both (is_one_of m (m ∷ ms)) (ap (λ b. b || is_one_of m ms) (eq_self m)) (sym (e m))
none_alike (n ∷ ns) [] e = not_both (is_one_of n (n ∷ ns)) (ap (λ b. b || is_one_of n ns) (eq_self n)) (e n)
none_alike (n ∷ ns) (m ∷ ms) e = refl

first_but : (a b c : Bool) → a ≡ b → (not a && c) ≡ (not a && (b || c))
first_but true b c e = refl
first_but false b c e = ap (λ z. z || c) e

other_but : (m n number : ℕ) → m ≡ n → (m == number) ≡ false → (number == n) ≡ false
other_but m n number e f = elim (either_way (number == n)) [
  | inl t ↦ not_both (m == number) (ap (λ z. m == z) (eq_from number n t ∙ sym e) ∙ eq_self m) f
  | inr g ↦ g
]

-- the numbers but one
pub one_but : (number n : ℕ) (ns : List ℕ) → is_one_of n (but number ns) ≡ (not (number == n) && is_one_of n ns)
one_but number n [] = by (number == n)
  where
    by : (b : Bool) → false ≡ (not b && false)
    by true = refl
    by false = refl
one_but number n (m ∷ ns) = by (m == number) refl (one_but number n ns)
  where
    by : (b : Bool) → (m == number) ≡ b → is_one_of n (but number ns) ≡ (not (number == n) && is_one_of n ns)
        → is_one_of n (cond (not b) (m ∷ but number ns) (but number ns))
        ≡ (not (number == n) && ((m == n) || is_one_of n ns))
    by true t ih = ih ∙ first_but (number == n) (m == n) (is_one_of n ns) (ap (λ z. z == n) (sym (eq_from m number t)))
    by false t ih = ap (λ b. (m == n) || b) ih ∙ later_lost (number == n) (m == n) (is_one_of n ns) (λ s.
        other_but m n number (eq_from m n s) t)

in_first : (b : Bool) (n m : ℕ) (ns : List ℕ) → (m == n) ≡ b → (is_one_of n ns ≡ true → Contains ns n)
    → (b || is_one_of n ns) ≡ true → Contains (m ∷ ns) n
in_first true n m ns e ih t = (0, omega arith, eq_from m n e)
in_first false n m ns e ih t = let c = ih t in let lt = c.1 in (suc c.0, omega arith, c.2)

-- a number that passes the test of a list is one of it
pub is_in : (n : ℕ) (ns : List ℕ) → is_one_of n ns ≡ true → Contains ns n
is_in n [] t = not_both false t refl
is_in n (m ∷ ns) t = in_first (m == n) n m ns refl (is_in n ns) t
