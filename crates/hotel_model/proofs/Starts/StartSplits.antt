-- A list of pairs whose numbers count up: the pair of a number is the one of that place.
use Rattle.std.proofs.Common.{ℕ, ◌≡◌, ◌<◌, ◌+◌, Bool, true, false, cond, Option, Some, None, List, [], ◌∷◌, ◌++◌}
use Rattle.std.proofs.Common.{length, refl, ap, ◌∙◌, arith, ◌==◌, nat_cmp}
use Rattle.hotel_model.proofs.{Names.is_at, Names.keys_of, Names.values_of, Names.at_number, Names.count_up}
use Rattle.hotel_model.proofs.{OfTables.Tests.eq_from, OfTables.Tests.eq_self, OfTables.Tests.and_true}
use Rattle.hotel_model.proofs.OfTables.TableKeys.{at_is, same_number}

-- the value stands in the list, after so many others
abbrev pub SplitsAt : List ℕ → ℕ → ℕ → Type 0
SplitsAt xs v place = (before : List ℕ) × (later : List ℕ) × (xs ≡ before ++ v ∷ later) × (length before ≡ place)

split_by : (b : Bool) (x : ℕ × ℕ) (ps : List (ℕ × ℕ)) (n k v : ℕ) → (b ≡ true → k ≡ x.0) → x.0 ≡ n
    → (at_number ps k ≡ Some v
    → (before : List ℕ) × (later : List ℕ) × (values_of ps ≡ before ++ v ∷ later) × (n + 1 + length before ≡ k))
    → cond b (Some x.1) (at_number ps k) ≡ Some v
    → (before : List ℕ) × (later : List ℕ) × (values_of (x ∷ ps) ≡ before ++ v ∷ later) × (n + length before ≡ k)
split_by true x ps n k v same here ih f =
    let w : x.1 ≡ v = cc in
    let q : k ≡ n = same refl ∙ here in
    let none : List ℕ = [] in
    (none, values_of ps, ap (λ z. z ∷ values_of ps) w, omega arith)
split_by false x ps n k v same here ih f =
    let s = ih f in
    let l = s.3 in
    (x.1 ∷ s.0, s.1, ap (λ zs. x.1 ∷ zs) s.2, omega arith)

split_from : (n : ℕ) (ps : List (ℕ × ℕ)) (k v : ℕ) → count_up n (keys_of ps) ≡ true → at_number ps k ≡ Some v
    → (before : List ℕ) × (later : List ℕ) × (values_of ps ≡ before ++ v ∷ later) × (n + length before ≡ k)
split_from n [] k v up f = absurd (let w : ◌≡◌ {A = Option ℕ} None (Some v) = f in cc)
split_from n (x ∷ ps) k v up f =
    let t = and_true (x.0 == n) (count_up (n + 1) (keys_of ps)) up in
    split_by (is_at (nat_cmp k) x.0) x ps n k v (same_number k x.0) (eq_from x.0 n t.0)
    (split_from (n + 1) ps k v t.1) f

-- the pair of a number is the one of that place
pub split_at : (ps : List (ℕ × ℕ)) (k v : ℕ)
    → count_up 0 (keys_of ps) ≡ true → at_number ps k ≡ Some v → SplitsAt (values_of ps) v k
split_at ps k v up f =
    let s = split_from 0 ps k v up f in
    let l = s.3 in
    (s.0, s.1, s.2, omega arith)

-- a number before another isn't that one
pub past : (n k : ℕ) → n < k → (n == k) ≡ false
past n k l = by (n == k) refl
  where
    by : (b : Bool) → (n == k) ≡ b → (n == k) ≡ false
    by true e = let q : n ≡ k = eq_from n k e in absurd (omega arith)
    by false e = e

found_from : (n : ℕ) (ps : List (ℕ × ℕ)) (before : List ℕ) (v : ℕ) (later : List ℕ) (k : ℕ)
    → count_up n (keys_of ps) ≡ true → values_of ps ≡ before ++ v ∷ later
    → k ≡ n + length before → at_number ps k ≡ Some v
found_from n [] [] v later k up e q = absurd (let w : ◌≡◌ {A = List ℕ} [] (v ∷ later) = e in cc)
found_from n [] (b ∷ bs) v later k up e q = absurd (let w : ◌≡◌ {A = List ℕ} [] (b ∷ bs ++ v ∷ later) = e in cc)
found_from n (x ∷ ps) [] v later k up e q =
    let t = and_true (x.0 == n) (count_up (n + 1) (keys_of ps)) up in
    let w : x.1 ≡ v = cc in
    let here : x.0 ≡ n = eq_from x.0 n t.0 in
    let same : x.0 ≡ k = omega arith in
    ap (λ b. cond b (Some x.1) (at_number ps k)) (at_is k x.0 ∙ ap (λ z. z == k) same ∙ eq_self k) ∙ ap (λ z. Some z) w
found_from n (x ∷ ps) (b ∷ bs) v later k up e q =
    let t = and_true (x.0 == n) (count_up (n + 1) (keys_of ps)) up in
    let here : x.0 ≡ n = eq_from x.0 n t.0 in
    let rest : values_of ps ≡ bs ++ v ∷ later = cc in
    ap (λ z. cond z (Some x.1) (at_number ps k)) (at_is k x.0 ∙ past x.0 k (omega arith))
    ∙ found_from (n + 1) ps bs v later k t.1 rest (omega arith)

-- the pair of a place has its number
pub found_at : (ps : List (ℕ × ℕ)) (before : List ℕ) (v : ℕ) (later : List ℕ)
    → count_up 0 (keys_of ps) ≡ true → values_of ps ≡ before ++ v ∷ later → at_number ps (length before) ≡ Some v
found_at ps before v later up e = found_from 0 ps before v later (length before) up e (omega arith)

pub length_values : {K X : Type 0} (es : List (K × X)) → length (values_of es) ≡ length es
length_values [] = refl
length_values (e ∷ es) = let ih = length_values es in omega arith
