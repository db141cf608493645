-- Facts about numerals.
use Rattle.std.proofs.Common.{◌≡◌, ℕ, zero, suc, ◌+◌, ◌-◌, ◌*◌, ◌/◌, ◌%◌, ◌^◌, ◌<◌, ◌≤◌, List, [], ◌∷◌, ◌++◌, length}
use Rattle.std.proofs.Common.{take, drop, set, get_or, arith, refl, ◌∙◌, append_assoc, add-one, length-append}
use Rattle.std.proofs.Math.Nat.{pow-zero, pow-suc, mul-le-mul_right, pow-le-pow_right}
use Rattle.std.proofs.Math.Seq.{take-suc}
use Rattle.std.proofs.lemmas.Nat.{div_below, div-add-mod'}
use Rattle.std.proofs.lemmas.List.{length-take-le, length-set}
use Rattle.std.proofs.lemmas.List.Elements.{All-head, All-tail, All-nil, All-push}
use Rattle.std.proofs.lemmas.Grind.{common_steps}
use Rattle.std.specs.List.{All}
use Rattle.keycard_rules.specs.{Numerals.digit_value, Numerals.number_of, Numerals.fixed_text, Numerals.digit_byte}
use Rattle.keycard_rules.specs.{Numerals.is_numeral, Numerals.numeral, Numerals.IsNumeral}
use Rattle.std.specs.Option.{SomeIff}
use Rattle.std.proofs.lemmas.List.Sums.{AllPass-from_list_all, list_all-from_AllPass}
use Rattle.std.proofs.lemmas.List.Elements.{All-weaker}
use Rattle.std.proofs.lemmas.Bool.{cases_Bool}
use Rattle.std.proofs.lemmas.Bool.Decides.{nat_tests}
use Rattle.std.proofs.Common.{Option, Some, None, true, false, Bool, inl, inr, ◌&&◌, nat_lt, nat_le}

regrouped : (x p b n d : ℕ) → x * (p * b) + (n * b + d) ≡ (x * p + n) * b + d
regrouped x p b n d = omega arith

-- one more digit at the end
pub number_of-push : (base : ℕ) (text : List ℕ) (b : ℕ)
    → number_of base (text ++ (b ∷ [])) ≡ number_of base text * base + digit_value b
unfolding number_of
number_of-push base [] b = rw (pow-zero base) (omega arith)
number_of-push base (x ∷ text) b =
    let h = number_of-push base text b in
    let l : length (text ++ (b ∷ [])) ≡ suc (length text) = omega (arith, length-append text (b ∷ [])) in
    rw (h, l, pow-suc base (length text))
    (regrouped (digit_value x) (base ^ length text) base (number_of base text) (digit_value b))

pub number_of-more : (base : ℕ) (text : List ℕ) (i : ℕ) → i < length text
    → number_of base (take (i + 1) text) ≡ number_of base (take i text) * base + digit_value (get_or text i 0)
number_of-more base text i h = rw (add-one, take-suc text i 0 h) (number_of-push base (take i text) (get_or text i 0))

below-more : (d w b x : ℕ) → d < b → x < w → d * w + x < b * w
below-more d w b x hd hx = omega (arith, mul-le-mul_right {m = suc d} {n = b} w (omega arith))

-- n digits write less than the base to the power n
pub number_of-lt : (base : ℕ) (text : List ℕ)
    → All (λ b. digit_value b < base) text → number_of base text < base ^ length text
unfolding number_of
number_of-lt base [] h = omega (arith, pow-zero base)
number_of-lt base (b ∷ text) h =
    let hd = All-head (λ x. digit_value x < base) b text h in
    let tl = number_of-lt base text (All-tail (λ x. digit_value x < base) b text h) in
    let e = pow-suc base (length text) in
    let m = below-more (digit_value b) (base ^ length text) base (number_of base text) hd tl in
    omega (arith, e)

pub digit_value-digit_byte : (d : ℕ) → d < 16 → digit_value (digit_byte d) ≡ d
unfolding digit_value digit_byte
digit_value-digit_byte d h = grind arith

-- the text of a number that has room is read back
pub number_of-fixed_text : (base width n : ℕ)
    → 2 ≤ base → base ≤ 16 → n < base ^ width → number_of base (fixed_text base width n) ≡ n
unfolding fixed_text number_of
number_of-fixed_text base zero n h2 h16 h = omega (arith, pow-zero base)
number_of-fixed_text base (suc width) n h2 h16 h =
    let small : n / base < base ^ width =
    div_below n base (base ^ width) (omega arith) (omega (arith, pow-suc base width)) in
    let r : n % base < base = omega arith in
    let v = digit_value-digit_byte (n % base) (omega arith) in
    let more = number_of-push base (fixed_text base width (n / base)) (digit_byte (n % base)) in
    let back = number_of-fixed_text base width (n / base) h2 h16 small in
    rw (more, v, back) (div-add-mod' n base)

pub length-fixed_text : (base width n : ℕ) → length (fixed_text base width n) ≡ width
unfolding fixed_text
length-fixed_text base zero n = refl
length-fixed_text base (suc width) n = omega (
  arith,
  length-append (fixed_text base width (n / base)) (digit_byte (n % base) ∷ []),
  length-fixed_text base width (n / base),
)

pub digits-fixed_text : (base width n : ℕ)
    → 2 ≤ base → base ≤ 16 → All (λ b. digit_value b < base) (fixed_text base width n)
unfolding fixed_text
digits-fixed_text base zero n h2 h16 = All-nil (λ b. digit_value b < base)
digits-fixed_text base (suc width) n h2 h16 =
    let r : n % base < base = omega arith in
    let v = digit_value-digit_byte (n % base) (omega arith) in
    All-push (λ b. digit_value b < base) (fixed_text base width (n / base)) (digit_byte (n % base))
    (digits-fixed_text base width (n / base) h2 h16) (omega arith)

-- a step of the loop that writes from the end
pub fixed_text-step : (base place n : ℕ) (rest : List ℕ)
    → fixed_text base (place + 1) n ++ rest ≡ fixed_text base place (n / base) ++ (digit_byte (n % base) ∷ rest)
unfolding fixed_text
fixed_text-step base place n rest =
    rw add-one (append_assoc (fixed_text base place (n / base)) (digit_byte (n % base) ∷ []) rest)

pub drop-set : (l : List ℕ) (i a : ℕ) → i < length l → drop i (set l i a) ≡ a ∷ drop (i + 1) l
drop-set l i a h = grind (arith, common_steps)

-- a prefix of digits below the limit stays in range with one more digit
pub number_of-fits : (base most i : ℕ) (text : List ℕ) (d : ℕ)
    → 2 ≤ base → base ^ most < 2 ^ 63 → i < most → i ≤ length text
    → All (λ b. digit_value b < base) (take i text) → d < base → number_of base (take i text) * base + d < 2 ^ 63
number_of-fits base most i text d h2 hm hi hl h hd =
    let lt = number_of-lt base (take i text) h in
    let len : length (take i text) ≡ i = length-take-le i text hl in
    let lt2 : number_of base (take i text) < base ^ i = rw len at lt in
    let up = below-more (number_of base (take i text)) base (base ^ i) d lt2 hd in
    let p : base ^ suc i ≤ base ^ most = pow-le-pow_right (omega arith) (omega arith) in
    let e = pow-suc base i in
    omega arith

-- the same with the place counted down
pub fixed_text-write : (base place rest number : ℕ) (l : List ℕ) → 0 < place → place ≤ length l
    → fixed_text base (length l) number ≡ fixed_text base place rest ++ drop place l
    → fixed_text base (length (set l (place - 1) (digit_byte (rest % base)))) number
    ≡ fixed_text base (place - 1) (rest / base) ++ drop (place - 1) (set l (place - 1) (digit_byte (rest % base)))
fixed_text-write base zero rest number l pos le h = absurd (omega arith)
fixed_text-write base (suc i) rest number l pos le h =
    let d = digit_byte (rest % base) in
    let e : suc i - 1 ≡ i = omega arith in
    let cut = drop-set l i d (omega arith) in
    let step = fixed_text-step base i rest (drop (i + 1) l) in
    let len = length-set l i d in
    rw (e, len, cut) (h ∙ rw (← add-one i) step)

-- a numeral of at most so many digits is below that power of the base
pub number_of-below : (base most : ℕ) (text : List ℕ)
    → 0 < base → IsNumeral base most text → number_of base text < base ^ most
number_of-below base most text h0 n =
    let lt = number_of-lt base text n.2 in
    let p : base ^ length text ≤ base ^ most = pow-le-pow_right h0 n.1 in
    omega arith

-- what is printed is a numeral
pub IsNumeral-fixed_text : (base width n : ℕ)
    → 2 ≤ base → base ≤ 16 → 0 < width → IsNumeral base width (fixed_text base width n)
IsNumeral-fixed_text base width n h2 h16 h0 =
    let l = length-fixed_text base width n in
    (omega arith, omega arith, digits-fixed_text base width n h2 h16)

both-true : (a b : Bool) → (a && b) ≡ true → (a ≡ true) × (b ≡ true)
both-true true b h = (refl, h)
both-true false b h = cc

test-le : (a b : ℕ) → nat_le a b ≡ true → a ≤ b
test-le a b h = grind (arith, nat_tests)

leb-of : {a b : ℕ} → a ≤ b → nat_le a b ≡ true
leb-of {a} {b} h = grind (arith, nat_tests)

digit_test : (base b : ℕ) → nat_lt (digit_value b) base ≡ true → digit_value b < base
digit_test base b h = grind (arith, nat_tests)

digit_passes : (base b : ℕ) → digit_value b < base → nat_lt (digit_value b) base ≡ true
digit_passes base b h = grind (arith, nat_tests)

-- the test says what the fact says
pub is_numeral-true : (base most : ℕ) (text : List ℕ) → IsNumeral base most text → is_numeral base most text ≡ true
unfolding is_numeral
is_numeral-true base most text n =
    let all = list_all-from_AllPass (λ b. nat_lt (digit_value b) base) text
    (All-weaker (λ b. digit_value b < base) (λ b. nat_lt (digit_value b) base ≡ true) (digit_passes base) text n.2) in
    rw (all, leb-of n.0, leb-of n.1) refl

pub IsNumeral-from_test : (base most : ℕ) (text : List ℕ) → is_numeral base most text ≡ true → IsNumeral base most text
unfolding is_numeral
IsNumeral-from_test base most text h =
    let p = both-true _ _ h in
    let q = both-true _ _ p.0 in (
      test-le _ _ q.0,
      test-le _ _ q.1,
      All-weaker (λ b. nat_lt (digit_value b) base ≡ true) (λ b. digit_value b < base) (digit_test base) text
          (AllPass-from_list_all (λ b. nat_lt (digit_value b) base) text p.1),
    )

pub numeral-from : (r : Option ℕ) (base most : ℕ) (text : List ℕ)
    → SomeIff r (IsNumeral base most text) (number_of base text) → r ≡ numeral base most text
numeral-from None base most text h = elim (cases_Bool (is_numeral base most text)) [
  | inl is ↦ absurd (h (IsNumeral-from_test base most text is))
  | inr fails ↦ rw fails refl
]
numeral-from (Some n) base most text h = rw (is_numeral-true base most text h.0, h.1) refl

-- what a test let through
pub numeral-some : (base most : ℕ) (text : List ℕ) (n : ℕ)
    → Some n ≡ numeral base most text → IsNumeral base most text × (n ≡ number_of base text)
numeral-some base most text n h = elim (cases_Bool (is_numeral base most text)) [
  | inl is ↦
      let e : Some n ≡ Some (number_of base text) = rw is at h in
      (IsNumeral-from_test base most text is, cc)
  | inr fails ↦
      let e : Some n ≡ None = rw fails at h in
      cc
]

pub numeral-fixed_text : (base width n : ℕ)
    → 2 ≤ base → base ≤ 16 → 0 < width → n < base ^ width → numeral base width (fixed_text base width n) ≡ Some n
numeral-fixed_text base width n h2 h16 h0 h =
    rw (
      is_numeral-true base width (fixed_text base width n) (IsNumeral-fixed_text base width n h2 h16 h0),
      number_of-fixed_text base width n h2 h16 h,
    ) refl
