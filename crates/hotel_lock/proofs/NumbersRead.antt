-- The digits of a number are read as this number.
use Rattle.std.proofs.Common.{◌≡◌, ◌+◌, ◌/◌, ◌%◌, ◌^◌, ◌<◌, ◌≤◌, ℕ, List, [], ◌∷◌, ◌++◌, Some, length, refl}
use Rattle.std.proofs.Common.{arith, length-append, All}
use Rattle.std.proofs.lemmas.Bool.{le-leb}
use Rattle.std.proofs.lemmas.Fmt.{decimal_by_steps, length-decimal-le}
use Rattle.std.proofs.lemmas.List.Elements.{All-cons, All-nil, All-push}
use Rattle.std.specs.Fmt.{decimal}
use Rattle.keycard_rules.specs.Numerals.{digit_value, number_of, number_up_to}
use Rattle.keycard_rules.specs.Numbers.{IsNumberUpTo}
use Rattle.keycard_rules.proofs.NumeralLemmas.{is_numeral-true, number_of-push}

digit_written : (d : ℕ) → d < 10 → digit_value (48 + d) ≡ d
unfolding digit_value
digit_written d h = grind arith

abbrev IsDigit : ℕ → Type 0
IsDigit b = digit_value b < 10

-- the digits are those of the number
record Writes (n : ℕ) (text : List ℕ) : Type 0 where
  some : 0 < length text
  digits : All IsDigit text
  number : number_of 10 text ≡ n

one_digit : (m : ℕ) → m < 10 → Writes m ((48 + m) ∷ [])
unfolding number_of
one_digit m h =
    let d = digit_written m h in
    let pushed = number_of-push 10 [] (48 + m) in
    record {
      some = omega arith;
      digits = All-cons IsDigit (48 + m) [] (omega arith) (All-nil IsDigit);
      number = omega (arith, pushed, d);
    }

one_more : (m : ℕ) (text : List ℕ) → 10 ≤ m → Writes (m / 10) text → Writes m (text ++ ((48 + m % 10) ∷ []))
one_more m text h w =
    let last = digit_written (m % 10) (omega arith) in
    let prefix = w.number in
    let pushed = number_of-push 10 text (48 + m % 10) in
    record {
      some = omega (arith, length-append text ((48 + m % 10) ∷ []));
      digits = All-push IsDigit text (48 + m % 10) w.digits (omega arith);
      number = omega (arith, pushed, prefix, last);
    }

written : (n : ℕ) → n < 2 ^ 64 → Writes n (decimal n)
written = decimal_by_steps Writes one_digit one_more

-- a number that has nine digits or fewer is read back
pub number_read : (most n : ℕ) → most < 10 ^ 9 → IsNumberUpTo most n → number_up_to most (decimal n) ≡ Some n
number_read most n high h =
    let w = written n (omega arith) in
    let few = length-decimal-le 9 n (omega arith) (omega arith) (omega arith) in
    let digits = is_numeral-true 10 9 (decimal n) (w.some, few, w.digits) in
    rw (digits, w.number, le-leb 1 n h.0, le-leb n most h.1) refl
