-- A code at a place of a list.
use Rattle.std.proofs.Common.{ℕ, suc, ◌≡◌, ◌+◌, Bool, true, false, cond, List, [], ◌∷◌, ◌++◌, length, ◌⊎◌, inl, inr}
use Rattle.std.proofs.Common.{refl, ap, sym, ◌∙◌, subst, take, drop, arith, ◌==◌, not}
use Rattle.hotel_model.proofs.Names.{position_or_len, false≢true, is_one_of, before, after, without, last_of}
use Rattle.hotel_model.proofs.OfTables.Tests.{eq_from, eq_self, or_second}

pub nothing_in_nil : (prefix : List ℕ) (c : ℕ) (back : List ℕ) → [] ≡ prefix ++ c ∷ back → ⊥
nothing_in_nil [] c back e = cc
nothing_in_nil (f ∷ fs) c back e = cc

-- in a list with one more code, a code is that one or stood there
pub snoc_split : (xs : List ℕ) (y : ℕ) (prefix : List ℕ) (c : ℕ) (back : List ℕ)
    → xs ++ y ∷ [] ≡ prefix ++ c ∷ back → ((prefix ≡ xs) × (c ≡ y)) ⊎ ((rest : List ℕ) × (xs ≡ prefix ++ c ∷ rest))
snoc_split [] y [] c back e = inl (refl, cc)
snoc_split [] y (f ∷ fs) c back e = absurd (nothing_in_nil fs c back cc)
snoc_split (x ∷ xs) y [] c back e = inr (xs, (let q : x ≡ c = cc in ap (λ z. z ∷ xs) q))
snoc_split (x ∷ xs) y (f ∷ fs) c back e =
    let p : x ≡ f = cc in
    elim (snoc_split xs y fs c back cc) [
      | inl q ↦ inl (ap (λ zs. f ∷ zs) q.0 ∙ ap (λ z. z ∷ xs) (sym p), q.1)
      | inr q ↦ inr (q.0, ap (λ z. z ∷ xs) p ∙ ap (λ zs. f ∷ zs) q.1)
    ]

-- equal lists, cut at places of one number
pub cut_alike : (xs ys : List ℕ) (us vs : List ℕ) → length xs ≡ length ys → xs ++ us ≡ ys ++ vs → (xs ≡ ys) × (us ≡ vs)
cut_alike [] [] us vs l e = (refl, e)
cut_alike [] (y ∷ ys) us vs l e = absurd (omega arith)
cut_alike (x ∷ xs) [] us vs l e = absurd (omega arith)
cut_alike (x ∷ xs) (y ∷ ys) us vs l e =
    let p : x ≡ y = cc in
    let q = cut_alike xs ys us vs (omega arith) cc in
    (ap (λ z. z ∷ xs) p ∙ ap (λ zs. y ∷ zs) q.0, q.1)

-- a list that isn't empty ends with its last code
pub last_split : (x : ℕ) (xs : List ℕ) → (prefix : List ℕ) × (x ∷ xs ≡ prefix ++ last_of (x ∷ xs) ∷ [])
last_split x [] = ([], refl)
last_split x (y ∷ ys) = let p = last_split y ys in (x ∷ p.0, ap (λ zs. x ∷ zs) p.1)

pub length_more : (xs : List ℕ) (x : ℕ) → length (xs ++ x ∷ []) ≡ length xs + 1
length_more [] x = refl
length_more (y ∷ ys) x = let p = length_more ys x in omega arith

pub last_more : (xs : List ℕ) (x : ℕ) → last_of (xs ++ x ∷ []) ≡ x
last_more [] x = refl
last_more (y ∷ []) x = refl
last_more (y ∷ z ∷ zs) x = last_more (z ∷ zs) x

pub first_out : (c : ℕ) (later : List ℕ) → without c (c ∷ later) ≡ later
first_out c later = ap (λ b. cond b later (c ∷ without c later)) (eq_self c)

-- the same of the list's numbers after its first, parted at a place
parted_by : (b : Bool) (n x : ℕ) (xs : List ℕ) (place : ℕ)
    → (b ≡ true → x ≡ n) → (b ≡ false → take place xs ++ n ∷ drop (place + 1) xs ≡ xs)
    → (let k : ℕ = cond (not b) (1 + place) 0 in take k (x ∷ xs) ++ n ∷ drop (k + 1) (x ∷ xs)) ≡ x ∷ xs
parted_by true n x xs place here ih = ap (λ z. z ∷ xs) (sym (here refl))
parted_by false n x xs place here ih =
    let k : suc place ≡ 1 + place = omega arith in
    let l : suc (place + 1) ≡ 1 + place + 1 = omega arith in
    subst (λ m. take m (x ∷ xs) ++ n ∷ drop (1 + place + 1) (x ∷ xs) ≡ x ∷ xs) k
    (subst (λ m. x ∷ take place xs ++ n ∷ drop m (x ∷ xs) ≡ x ∷ xs) l (ap (λ zs. x ∷ zs) (ih refl)))

-- a list is what comes before one of its numbers, that number, and what comes after it
pub parted : (n : ℕ) (xs : List ℕ) → is_one_of n xs ≡ true → before n xs ++ n ∷ after n xs ≡ xs
parted n [] e = absurd (false≢true e)
parted n (x ∷ xs) e = parted_by (x == n) n x xs (position_or_len (λ m. m == n) xs) (eq_from x n)
    (λ f. parted n xs (or_second (x == n) (is_one_of n xs) f e))
