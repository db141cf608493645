-- Tests of numbers, and what they tell.
use Rattle.std.proofs.Common.{ℕ, ◌≡◌, Bool, true, false, ◌⊎◌, inl, inr, Result, Ok, Err, OnOk, refl, sym, ◌∙◌, arith}
use Rattle.std.proofs.Common.{◌≤◌, ◌<◌, nat_le, nat_lt, not, is_eq, Ordering, Less, Equal, Greater, Option, Some, None}
use Rattle.std.proofs.Common.{is_some}
use Rattle.std.specs.Prelude.{◌==◌, ◌&&◌, ◌||◌}
use Rattle.std.proofs.lemmas.Bool.{false≢true}
use Rattle.std.proofs.lemmas.Bool.Decides.{nat_tests}

pub some_there : {X : Type 0} (o : Option X) → is_some o ≡ true → (x : X) × (o ≡ Some x)
some_there None e = cc
some_there (Some x) e = (x, refl)

pub eq_from : (a b : ℕ) → (a == b) ≡ true → a ≡ b
eq_from a b h = grind (arith, nat_tests)

pub eq_self : (a : ℕ) → (a == a) ≡ true
eq_self a = grind (arith, nat_tests)

pub le_tested : (a b : ℕ) → a ≤ b → nat_le a b ≡ true
le_tested a b h = grind (arith, nat_tests)

pub lt_tested : (a b : ℕ) → a < b → nat_lt a b ≡ true
lt_tested a b h = grind (arith, nat_tests)

pub le_self : (n : ℕ) → nat_le n n ≡ true
le_self n = grind (arith, nat_tests)

pub le_from : (a b : ℕ) → nat_le a b ≡ true → a ≤ b
le_from a b e = grind (arith, nat_tests)

pub lt_from : (a b : ℕ) → nat_lt a b ≡ true → a < b
lt_from a b e = grind (arith, nat_tests)

pub not_le : (a b : ℕ) → b < a → nat_le a b ≡ false
not_le a b h = grind (arith, nat_tests)

pub not_lt : (a b : ℕ) → b ≤ a → nat_lt a b ≡ false
not_lt a b h = grind (arith, nat_tests)

pub not_lt_from : (a b : ℕ) → nat_lt a b ≡ false → b ≤ a
not_lt_from a b e = grind (arith, nat_tests)

-- a number is none that is higher, and none that is lower
pub not_higher : (a b : ℕ) → a < b → (a == b) ≡ false
not_higher a b l = grind (arith, nat_tests)

pub not_lower : (a b : ℕ) → b < a → (a == b) ≡ false
not_lower a b l = grind (arith, nat_tests)

-- keys that compare equal
pub equal_tested : (o : Ordering) → is_eq o ≡ true → o ≡ Equal
equal_tested Less h = cc
equal_tested Equal h = refl
equal_tested Greater h = cc

-- a test that holds and fails
pub not_both : {P : Type 0} (b : Bool) → b ≡ true → b ≡ false → P
not_both b t f = absurd (false≢true (sym f ∙ t))

-- a test whose opposite holds
pub not_true : (b : Bool) → not b ≡ true → b ≡ false
not_true true e = not_both false e refl
not_true false e = refl

-- a test holds or fails
pub either_way : (b : Bool) → (b ≡ true) ⊎ (b ≡ false)
either_way true = inl refl
either_way false = inr refl

pub same_bool : (a b : Bool) → (a ≡ true → b ≡ true) → (b ≡ true → a ≡ true) → a ≡ b
same_bool true true f g = refl
same_bool true false f g = sym (f refl)
same_bool false true f g = g refl
same_bool false false f g = refl

pub or_true : (a b : Bool) → (a || b) ≡ true → (a ≡ true) ⊎ (b ≡ true)
or_true true b e = inl refl
or_true false b e = inr e

pub or_false : (a b : Bool) → (a || b) ≡ false → (a ≡ false) × (b ≡ false)
or_false true b e = not_both true refl e
or_false false b e = (refl, e)

pub or_second : (a b : Bool) → a ≡ false → (a || b) ≡ true → b ≡ true
or_second true b f e = not_both true refl f
or_second false b f e = e

pub and_true : (a b : Bool) → (a && b) ≡ true → (a ≡ true) × (b ≡ true)
and_true true b e = (refl, e)
and_true false b e = not_both false e refl

-- eight tests pass, and so does each of them
pub eight_true : (a b c d e f g k : Bool) → (a && b && c && d && e && f && g && k) ≡ true
    → (a ≡ true) × (b ≡ true) × (c ≡ true) × (d ≡ true) × (e ≡ true) × (f ≡ true) × (g ≡ true) × (k ≡ true)
eight_true a b c d e f g k t =
    let o = and_true (a && b && c && d && e && f && g) k t in
    let p = and_true (a && b && c && d && e && f) g o.0 in
    let q = and_true (a && b && c && d && e) f p.0 in
    let u = and_true (a && b && c && d) e q.0 in
    let v = and_true (a && b && c) d u.0 in
    let w = and_true (a && b) c v.0 in
    let x = and_true a b w.0 in
    (x.0, x.1, w.1, v.1, u.1, q.1, p.1, o.1)

-- what follows of an answer's fact
pub when_ok : {T E : Type 0} (r : Result T E) (P Q : Type 0) → (P → Q) → OnOk r P → OnOk r Q
when_ok (Ok t) P Q f p = f p
when_ok (Err e) P Q f p = p
