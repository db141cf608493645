-- The first day of some that a test takes.
use Rattle.std.proofs.Common.{◌≡◌, ℕ, zero, suc, ◌+◌, ◌-◌, ◌<◌, ◌≤◌, Bool, true, false, arith, refl, sym, subst, ◌⊎◌}
use Rattle.std.proofs.Common.{◌∙◌, Option, Some, None, nat_lt, nat_le, add-one, inl, inr}
use Rattle.std.proofs.lemmas.Bool.{cases_Bool}
use Rattle.std.proofs.lemmas.Bool.Decides.{nat_tests}
use Rattle.hotel_nights.specs.{Days.day_of_number, FullNight.first_day, FullNight.IsFirst}

-- a day that the test refuses is passed over
pub first_day-more : (test : ℕ → Bool) (d after : ℕ)
    → d < after → test d ≡ false → first_day test d (after - d) ≡ first_day test (d + 1) (after - (d + 1))
unfolding first_day
first_day-more test d after h f =
    let e : after - d ≡ suc (after - (d + 1)) = omega arith in
    rw (e, f, add-one) refl

pub first_day-found : (test : ℕ → Bool) (d after : ℕ)
    → d < after → test d ≡ true → Some d ≡ first_day test d (after - d)
unfolding first_day
first_day-found test d after h y =
    let e : after - d ≡ suc (after - (d + 1)) = omega arith in
    rw (e, y) refl

pub first_day-end : (test : ℕ → Bool) (d after : ℕ) → after ≤ d → None ≡ first_day test d (after - d)
unfolding first_day
first_day-end test d after h = let e : after - d ≡ 0 = omega arith in rw e refl

-- the first of a first part is the first of all
split-some : (test : ℕ → Bool) (d m n r : ℕ) → first_day test d m ≡ Some r → first_day test d (m + n) ≡ Some r
unfolding first_day
split-some test d zero n r h = absurd (cc)
split-some test d (suc m) n r h =
    let q : suc m + n ≡ suc (m + n) = omega arith in
    elim (cases_Bool (test d)) [
      | inl y ↦ rw (q, y) (rw y at h)
      | inr nope ↦ rw (q, nope) (split-some test (suc d) m n r (rw nope at h))
    ]

split-none : (test : ℕ → Bool) (d m n : ℕ)
    → first_day test d m ≡ None → first_day test d (m + n) ≡ first_day test (d + m) n
unfolding first_day
split-none test d zero n h =
    let q : zero + n ≡ n = omega arith in let q2 : d + zero ≡ d = omega arith in rw (q, q2) refl
split-none test d (suc m) n h =
    let q : suc m + n ≡ suc (m + n) = omega arith in
    let q2 : d + suc m ≡ suc d + m = omega arith in
    elim (cases_Bool (test d)) [
      | inl y ↦ let k = rw y at h in absurd (cc)
      | inr nope ↦ rw (q, q2, nope) (split-none test (suc d) m n (rw nope at h))
    ]

pub block-some : (test : ℕ → Bool) (d mid after r : ℕ)
    → d ≤ mid → mid ≤ after → Some r ≡ first_day test d (mid - d) → Some r ≡ first_day test d (after - d)
block-some test d mid after r h k e =
    let q : after - d ≡ (mid - d) + (after - mid) = omega arith in
    rw q (sym (split-some test d (mid - d) (after - mid) r (sym e)))

pub block-none : (test : ℕ → Bool) (d mid after : ℕ) → d ≤ mid → mid ≤ after → None ≡ first_day test d (mid - d)
    → first_day test d (after - d) ≡ first_day test mid (after - mid)
block-none test d mid after h k e =
    let q : after - d ≡ (mid - d) + (after - mid) = omega arith in
    let q2 : d + (mid - d) ≡ mid = omega arith in
    rw q (split-none test d (mid - d) (after - mid) (sym e) ∙ rw q2 refl)

within : (test : ℕ → Bool) (d n r : ℕ) → first_day test d n ≡ Some r → r < d + n
unfolding first_day
within test d zero r h = absurd (cc)
within test d (suc n) r h = elim (cases_Bool (test d)) [
  | inl y ↦ let k : Some d ≡ Some r = rw y at h in let e : d ≡ r = cc in omega arith
  | inr nope ↦ let k = within test (suc d) n r (rw nope at h) in omega arith
]

-- a day that was found is before the end
pub first_day-lt : (test : ℕ → Bool) (d after r : ℕ) → d ≤ after → Some r ≡ first_day test d (after - d) → r < after
first_day-lt test d after r h e = let k = within test d (after - d) r (sym e) in omega arith

-- a number up to 36,524 is that of a day
pub day_of_number-le : (n : ℕ) → n ≤ 36524 → day_of_number n ≡ Some n
day_of_number-le n h = let e : nat_le n 36524 ≡ true = grind (arith, nat_tests) in rw e refl

either_day : (d e : ℕ) → d ≤ e → (d ≡ e) ⊎ (suc d ≤ e)
either_day d e h = elim (cases_Bool (nat_lt d e)) [
  | inl lt ↦ inr (grind (arith, nat_tests))
  | inr ge ↦ inl (grind (arith, nat_tests))
]

-- where the test refuses a day, the first from the next day on is the first from it on
first-later : (test : ℕ → Bool) (d after : ℕ) (o : Option ℕ)
    → test d ≡ false → IsFirst test (suc d) after o → IsFirst test d after o
first-later test d after None f k = λ e low high. elim (either_day d e low) [
  | inl q ↦ subst (λ x. test x ≡ false) q f
  | inr lt ↦ k e lt high
]
first-later test d after (Some r) f k = (
  omega (arith, k.0),
  k.1,
  k.2,
  λ e low high. elim (either_day d e low) [
    | inl q ↦ subst (λ x. test x ≡ false) q f
    | inr lt ↦ k.3 e lt high
  ],
)

first_day-of : (test : ℕ → Bool) (d n : ℕ) → IsFirst test d (d + n) (first_day test d n)
unfolding first_day
first_day-of test d zero = λ e low high. absurd (omega arith)
first_day-of test d (suc n) =
    let q : d + suc n ≡ suc d + n = omega arith in
    elim (cases_Bool (test d)) [
      | inl y ↦ rw y (omega arith, omega arith, y, λ e low high. absurd (omega arith))
      | inr nope ↦ rw (q, nope)
          (first-later test d (suc d + n) (first_day test (suc d) n) nope (first_day-of test (suc d) n))
    ]

-- the first of the days before another is that
pub first_day-is : (test : ℕ → Bool) (d after : ℕ) → IsFirst test d after (first_day test d (after - d))
first_day-is test d after = elim (cases_Bool (nat_le d after)) [
  | inl y ↦ let le : d ≤ after = grind (arith, nat_tests) in let q : d + (after - d) ≡ after = omega arith in
      subst (λ n. IsFirst test d n (first_day test d (after - d))) q (first_day-of test d (after - d))
  | inr nope ↦
      let lt : after < d = grind (arith, nat_tests) in
      rw (← first_day-end test d after (omega arith)) (λ e low high. absurd (omega arith))
]
