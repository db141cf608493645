-- Lists in order, of which one shows the other.
use Rattle.std.proofs.Common.{◌≡◌, sym, ap, ◌∙◌, List, [], ◌∷◌, ℕ, ◌+◌, ◌<◌, zero, suc, length, map, arith, false}
use Rattle.std.proofs.Common.{Ordering, is_lt, add-one, ap₂, get_or}
use Rattle.std.specs.List.{AllByRecursion}
use Rattle.std.specs.List.Sorted.{IsSorted}

-- no element is before the one that it follows
abbrev pub IsInOrder : {X : Type 0} → (X → X → Ordering) → List X → Type 0
IsInOrder cmp [] = Unit {0}
IsInOrder cmp (x ∷ []) = Unit {0}
IsInOrder cmp (x ∷ y ∷ xs) = (is_lt (cmp y x) ≡ false) × IsInOrder cmp (y ∷ xs)

pub in_order_of : {X : Type 0} (cmp : X → X → Ordering) (xs : List X) → IsSorted cmp xs → IsInOrder cmp xs
in_order_of cmp [] sorted = tt
in_order_of cmp (x ∷ []) sorted = tt
in_order_of cmp (x ∷ y ∷ xs) sorted = (
  sorted 0 x (omega arith) (omega arith),
  in_order_of cmp (y ∷ xs) (λ k d p q. rw add-one (rw add-one at (sorted (suc k) d (omega arith) (omega arith)))),
)

pub sorted_of : {X : Type 0} (cmp : X → X → Ordering) (xs : List X) → IsInOrder cmp xs → IsSorted cmp xs
sorted_of cmp [] ordered = λ k d low high. absurd (omega arith)
sorted_of cmp (x ∷ []) ordered = λ k d low high. absurd (omega arith)
sorted_of {X} cmp (x ∷ y ∷ xs) ordered = λ k d low high. go (sorted_of cmp (y ∷ xs) ordered.1) k d high
  where
    go : IsSorted cmp (y ∷ xs) → (k : ℕ) (d : X) → k + 1 < length (x ∷ y ∷ xs)
        → is_lt (cmp (get_or (x ∷ y ∷ xs) (k + 1) d) (get_or (x ∷ y ∷ xs) k d)) ≡ false
    go rest zero d high = ordered.0
    go rest (suc k) d high = rw add-one (rw add-one at (rest k d (omega arith) (omega arith)))

-- and what is made of them
pub mapped_in_order : {X Y : Type 0} (cmp : Y → Y → Ordering) (f : X → Y) (xs : List X)
    → IsInOrder (λ a b. cmp (f a) (f b)) xs → IsInOrder cmp (map f xs)
mapped_in_order cmp f [] ordered = tt
mapped_in_order cmp f (x ∷ []) ordered = tt
mapped_in_order cmp f (x ∷ y ∷ xs) ordered = (ordered.0, mapped_in_order cmp f (y ∷ xs) ordered.1)

-- rows are in the order of their keys, where outputs that show them are
pub shown_in_order : {O K V L : Type 0} (cmp : K → K → Ordering) (key : O → K) (value : O → V) (keys : V → K)
    (shown : L → V) (order : L → L → Ordering) → ((a b : L) → cmp (keys (shown a)) (keys (shown b)) ≡ order a b)
    → (os : List O) (ls : List L) → map shown ls ≡ map value os → AllByRecursion (λ o. key o ≡ keys (value o)) os
    → IsInOrder (λ a b. cmp (key a) (key b)) os → IsInOrder order ls
shown_in_order cmp key value keys shown order same os [] is all ordered = tt
shown_in_order cmp key value keys shown order same os (a ∷ []) is all ordered = tt
shown_in_order cmp key value keys shown order same [] (a ∷ b ∷ ls) is all ordered =
    absurd (let w = ap length is in omega (arith, w))
shown_in_order cmp key value keys shown order same (o ∷ []) (a ∷ b ∷ ls) is all ordered =
    absurd (let w = ap length is in omega (arith, w))
shown_in_order cmp key value keys shown order same (o ∷ p ∷ os) (a ∷ b ∷ ls) is all ordered =
    let first : shown a ≡ value o = ap (λ vs. head (shown a) vs) is in
    let second : shown b ≡ value p = ap (λ vs. head (shown b) (tail vs)) is in
    let of_a : keys (shown a) ≡ key o = ap keys first ∙ sym all.0 in
    let of_b : keys (shown b) ≡ key p = ap keys second ∙ sym all.1.0 in
    let turned : order b a ≡ cmp (key p) (key o) = sym (same b a) ∙ ap₂ cmp of_b of_a in (
      ap is_lt turned ∙ ordered.0,
      shown_in_order cmp key value keys shown order same (p ∷ os) (b ∷ ls) (ap tail is) all.1 ordered.1,
    )
  where
    head : {X : Type 0} → X → List X → X
    head x [] = x
    head x (y ∷ ys) = y

    tail : {X : Type 0} → List X → List X
    tail [] = []
    tail (y ∷ ys) = ys
