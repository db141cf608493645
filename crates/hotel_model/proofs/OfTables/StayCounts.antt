-- How many rows pass a test, after one of them was added or changed.
use Rattle.std.proofs.Common.{ℕ, zero, suc, ◌≡◌, ◌≤◌, ◌<◌, ◌+◌, Bool, true, false, cond, Option, Some, None, List, []}
use Rattle.std.proofs.Common.{◌∷◌, ◌⊎◌, inl, inr, refl, ap, sym, ◌∙◌, arith, ◌==◌, count_by, nat_cmp, is_eq, Ordering}
use Rattle.std.proofs.Common.{Less, Equal, Greater}
use Rattle.hotel_model.proofs.Names.{match_ordering, is_at, insert_entry, values_of, sum_by-cons, Stay, StayState}
use Rattle.hotel_model.proofs.Names.{first_day, at_number, in_state, now_is}
use Rattle.hotel_model.proofs.{OfTables.Tests.not_both, OfTables.TableKeys.at_is}

pub count_first : {X : Type 0} (p : X → Bool) (x : X) (xs : List X)
    → count_by p (x ∷ xs) ≡ cond (p x) 1 0 + count_by p xs
count_first p x xs = sum_by-cons (λ y. cond (p y) 1 0) x xs

turned : (a b c : ℕ) → a + (b + c) ≡ b + (a + c)
turned a b c = omega arith

not_here : {X : Type 0} (b : Bool) (x : X) (rest : Option X) → cond b (Some x) rest ≡ None → (b ≡ false) × (rest ≡ None)
not_here true x rest e = absurd (let w : ◌≡◌ {A = Option _} (Some x) None = e in cc)
not_here false x rest e = (refl, e)

inserted_by : {X : Type 0} (o : Ordering) (p : X → Bool) (e : ℕ × X)
    (es : List (ℕ × X)) (k : ℕ) (v : X) → is_eq o ≡ false
    → count_by p (values_of (insert_entry nat_cmp es k v)) ≡ cond (p v) 1 0 + count_by p (values_of es)
    → count_by p (values_of (match_ordering o ((k, v) ∷ e ∷ es) ((e.0, v) ∷ es) (e ∷ insert_entry nat_cmp es k v)))
    ≡ cond (p v) 1 0 + count_by p (e.1 ∷ values_of es)
inserted_by Less p e es k v n ih = count_first p v (e.1 ∷ values_of es)
inserted_by Equal p e es k v n ih = not_both true refl n
inserted_by Greater p e es k v n ih =
    count_first p e.1 (values_of (insert_entry nat_cmp es k v)) ∙ ap (λ n. cond (p e.1) 1 0 + n) ih
    ∙ turned (cond (p e.1) 1 0) (cond (p v) 1 0) (count_by p (values_of es))
    ∙ ap (λ n. cond (p v) 1 0 + n) (sym (count_first p e.1 (values_of es)))

-- a row of a new number counts by itself
pub count_inserted : {X : Type 0} (p : X → Bool) (es : List (ℕ × X)) (k : ℕ) (v : X) → at_number es k ≡ None
    → count_by p (values_of (insert_entry nat_cmp es k v)) ≡ cond (p v) 1 0 + count_by p (values_of es)
count_inserted p [] k v n = count_first p v []
count_inserted p (e ∷ es) k v n =
    let m = not_here (is_at (nat_cmp k) e.0) e.1 (at_number es k) n in
    inserted_by (nat_cmp k e.0) p e es k v m.0 (count_inserted p es k v m.1)

at_most : (a b : Bool) → (a ≡ true → b ≡ true) → cond a 1 0 ≤ cond b 1 0
at_most true true f = omega arith
at_most true false f = not_both false (f refl) refl
at_most false true f = omega arith
at_most false false f = omega arith

sums_at_most : (a b c d m n : ℕ) → m ≡ a + b → n ≡ c + d → a ≤ c → b ≤ d → m ≤ n
sums_at_most a b c d m n e f s t = omega arith

changed_by : (b : Bool) (p : Stay → Bool) (s : StayState) (e : ℕ × Stay) (es later : List (ℕ × Stay))
    → (b ≡ true → p (now_is s e.1) ≡ true → p e.1 ≡ true)
    → (b ≡ false → count_by p (values_of later) ≤ count_by p (values_of es))
    → count_by p (values_of (cond b ((e.0, now_is s e.1) ∷ es) (e ∷ later))) ≤ count_by p (e.1 ∷ values_of es)
changed_by true p s e es later here ih =
    sums_at_most (cond (p (now_is s e.1)) 1 0) (count_by p (values_of es)) (cond (p e.1) 1 0)
    (count_by p (values_of es)) _ _
    (count_first p (now_is s e.1) (values_of es)) (count_first p e.1 (values_of es))
    (at_most (p (now_is s e.1)) (p e.1) (here refl)) (omega arith)
changed_by false p s e es later here ih =
    sums_at_most (cond (p e.1) 1 0) (count_by p (values_of later)) (cond (p e.1) 1 0) (count_by p (values_of es)) _ _
    (count_first p e.1 (values_of later)) (count_first p e.1 (values_of es)) (omega arith) (ih refl)

-- no more stays pass where the changed one passed before, if it passes
pub count_changed : (p : Stay → Bool) (party : ℕ) (s : StayState) (es : List (ℕ × Stay))
    → ((stay : Stay) → at_number es party ≡ Some stay → p (now_is s stay) ≡ true → p stay ≡ true)
    → count_by p (values_of (in_state party s es)) ≤ count_by p (values_of es)
count_changed p party s [] passed_before = omega arith
count_changed p party s (e ∷ es) passed_before =
    changed_by (e.0 == party) p s e es (in_state party s es)
    (λ t. passed_before e.1 (ap (λ b. cond b (Some e.1) (at_number es party)) (at_is party e.0 ∙ t)))
    (λ f. count_changed p party s es
    (λ stay q. passed_before stay (ap (λ b. cond b (Some e.1) (at_number es party)) (at_is party e.0 ∙ f) ∙ q)))

pub passed_over : (b : Bool) (d : ℕ) (rest : Option ℕ) → cond b (Some d) rest ≡ None → (b ≡ false) × (rest ≡ None)
passed_over true d rest e = absurd (let w : ◌≡◌ {A = Option ℕ} (Some d) None = e in cc)
passed_over false d rest e = (refl, e)

here_or_after : (d e : ℕ) → d ≤ e → (e ≡ d) ⊎ (suc d ≤ e)
here_or_after zero zero le = inl refl
here_or_after zero (suc e) le = inr (omega arith)
here_or_after (suc d) zero le = absurd (omega arith)
here_or_after (suc d) (suc e) le =
    elim (here_or_after d e (omega arith)) [
      | inl q ↦ inl (ap suc q)
      | inr q ↦ inr (omega arith)
    ]

-- where no day passes a test, each fails it
pub none_passes : (test : ℕ → Bool) (d n : ℕ) → first_day test d n ≡ None → (e : ℕ) → d ≤ e → e < d + n → test e ≡ false
unfolding first_day
none_passes test d zero none e le lt = absurd (omega arith)
none_passes test d (suc n) none e le lt =
    let p = passed_over (test d) d (first_day test (suc d) n) none in
    elim (here_or_after d e le) [
      | inl q ↦ ap test q ∙ p.0
      | inr q ↦ none_passes test (suc d) n p.1 e q (omega arith)
    ]
