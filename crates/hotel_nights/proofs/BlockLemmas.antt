-- Counts of stays that begin and end at a night.
use Rattle.std.proofs.Common.{◌≡◌, ℕ, zero, suc, ◌+◌, ◌-◌, ◌<◌, ◌≤◌, ◌&&◌, not, Bool, true, false, List, [], ◌∷◌}
use Rattle.std.proofs.Common.{get_or, arith, refl, count_by, nat_lt, nat_le, replicate}
use Rattle.std.proofs.lemmas.Bool.Decides.{nat_tests}
use Rattle.std.proofs.lemmas.List.Sums.{sum_by-cons}
use Rattle.hotel_nights.specs.{declared.stay.Stay.Stay, FullNight.takes, FullNight.is_full, FullNight.nights_taken}
use Rattle.hotel_nights.specs.{Block.was_taken, Block.begins, Block.ends, Block.one_if}

-- what pass `p` and what pass `q` alone are what pass `q` and what pass `p` alone
both_ways : (p q : Bool) → one_if p + one_if (q && not p) ≡ one_if q + one_if (p && not q)
both_ways true true = refl
both_ways true false = refl
both_ways false true = refl
both_ways false false = refl

four : (a b c d w x y z : ℕ) → a + b ≡ c + d → w + x ≡ y + z → (a + w) + (b + x) ≡ (c + y) + (d + z)
four a b c d w x y z e f = omega arith

count-both : {X : Type 0} (p q : X → Bool) (xs : List X)
    → count_by p xs + count_by (λ x. q x && not (p x)) xs ≡ count_by q xs + count_by (λ x. p x && not (q x)) xs
count-both p q [] = refl
count-both {X} p q (x ∷ xs) =
    rw (
      sum_by-cons (λ y. one_if (p y)) x xs,
      sum_by-cons (λ y. one_if (q y && not (p y))) x xs,
      sum_by-cons (λ y. one_if (q y)) x xs,
      sum_by-cons (λ y. one_if (p y && not (q y))) x xs,
    )
    (four (one_if (p x)) (one_if (q x && not (p x))) (one_if (q x)) (one_if (p x && not (q x))) _ _ _ _
    (both_ways (p x) (q x)) (count-both p q xs))

-- one night further: those that end and those that begin
taken-next : (stays : List Stay) (kind : List ℕ) (first after d : ℕ) → d < after
    → count_by (takes kind d) stays + count_by (ends kind first after d) stays
    ≡ count_by (was_taken kind first d) stays + count_by (begins kind first after d) stays
taken-next stays kind first after d h =
    let e : nat_lt d after ≡ true = grind (arith, nat_tests) in
    rw e (count-both (takes kind d) (was_taken kind first d) stays)

small : (p q : Bool) → one_if (q && not p) ≤ one_if q
small true true = omega arith
small true false = omega arith
small false true = omega arith
small false false = omega arith

ends-le-all : {X : Type 0} (p q : X → Bool) (xs : List X) → count_by (λ x. q x && not (p x)) xs ≤ count_by q xs
ends-le-all p q [] = omega arith
ends-le-all {X} p q (x ∷ xs) =
    rw (sum_by-cons (λ y. one_if (q y && not (p y))) x xs, sum_by-cons (λ y. one_if (q y)) x xs)
    (let k = ends-le-all p q xs in let m = small (p x) (q x) in omega arith)

ends-le : (stays : List Stay) (kind : List ℕ) (first after d : ℕ)
    → d < after → count_by (ends kind first after d) stays ≤ count_by (was_taken kind first d) stays
ends-le stays kind first after d h =
    let e : nat_lt d after ≡ true = grind (arith, nat_tests) in
    rw e (ends-le-all (takes kind d) (was_taken kind first d) stays)

-- what was taken before a night, less those that end and with those that begin, is what is taken on it
pub taken_on : (stays : List Stay) (kind : List ℕ) (first after d place taken : ℕ) (ended begun : List ℕ)
    → d < after → first + place ≡ d → taken ≡ count_by (was_taken kind first d) stays
    → get_or ended place 0 ≡ count_by (ends kind first after (first + place)) stays
    → get_or begun place 0 ≡ count_by (begins kind first after (first + place)) stays
    → (get_or ended place 0 ≤ taken)
    × (taken - get_or ended place 0 + get_or begun place 0 ≡ count_by (takes kind d) stays)
taken_on stays kind first after d place taken ended begun lt here was e b =
    let e' : get_or ended place 0 ≡ count_by (ends kind first after d) stays = rw here at e in
    let b' : get_or begun place 0 ≡ count_by (begins kind first after d) stays = rw here at b in
    let le = ends-le stays kind first after d lt in
    let n = taken-next stays kind first after d lt in
    (omega arith, omega arith)

-- at the first night of the block nothing was taken
pub was_taken-first : (stays : List Stay) (kind : List ℕ) (first : ℕ) → count_by (was_taken kind first first) stays ≡ 0
was_taken-first [] kind first = refl
was_taken-first (s ∷ stays) kind first =
    let e : nat_lt first first ≡ false = grind (arith, nat_tests) in
    rw (sum_by-cons (λ y. one_if (was_taken kind first first y)) s stays, was_taken-first stays kind first, e) refl

-- what was taken before the next night is what is taken on this
pub was_taken-next : (stays : List Stay) (kind : List ℕ) (first d : ℕ)
    → first ≤ d → count_by (was_taken kind first (d + 1)) stays ≡ count_by (takes kind d) stays
was_taken-next stays kind first d h =
    let e : nat_lt first (d + 1) ≡ true = grind (arith, nat_tests) in
    let k : d + 1 - 1 ≡ d = omega arith in
    rw (e, k) refl

zeros-of : (n j : ℕ) → get_or {A = ℕ} (replicate {A = ℕ} n 0) j 0 ≡ 0
zeros-of zero j = refl
zeros-of (suc n) zero = refl
zeros-of (suc n) (suc j) = zeros-of n j

pub zeros : (j : ℕ) → get_or {A = ℕ} (replicate {A = ℕ} 90 0) j 0 ≡ 0
zeros j = zeros-of 90 j

leb-yes : (a b : ℕ) → a ≤ b → nat_le a b ≡ true
leb-yes a b h = grind (arith, nat_tests)

leb-not : (a b : ℕ) → b < a → nat_le a b ≡ false
leb-not a b h = grind (arith, nat_tests)

pub full-yes : (stays : List Stay) (kind : List ℕ) (rooms d : ℕ)
    → rooms ≤ count_by (takes kind d) stays → is_full stays kind rooms d ≡ true
unfolding nights_taken
full-yes stays kind rooms d h = leb-yes rooms (count_by (takes kind d) stays) h

pub full-no : (stays : List Stay) (kind : List ℕ) (rooms d : ℕ)
    → count_by (takes kind d) stays < rooms → is_full stays kind rooms d ≡ false
unfolding nights_taken
full-no stays kind rooms d h = leb-not rooms (count_by (takes kind d) stays) h
