-- Rules that are tested in turn: where one fails, all do; where those before hold, the last tells whether all do.
use Rattle.std.proofs.Common.{◌≡◌, Bool, true, false, ◌&&◌, ap, sym, ◌∙◌}

-- ---- two rules

pub one_fails : {all a : Bool} (b : Bool) → all ≡ (a && b) → a ≡ false → false ≡ all
one_fails b is f = sym (is ∙ ap (λ z. z && b) f)

pub other_tells : {all a b : Bool} → all ≡ (a && b) → a ≡ true → b ≡ all
other_tells {all} {a} {b} is t = sym (is ∙ ap (λ z. z && b) t)

-- ---- three rules

pub first_fails : {all a : Bool} (b c : Bool) → all ≡ (a && b && c) → a ≡ false → false ≡ all
first_fails b c is f = sym (is ∙ ap (λ z. z && b && c) f)

pub second_fails : {all a b : Bool} (c : Bool) → all ≡ (a && b && c) → a ≡ true → b ≡ false → false ≡ all
second_fails {all} {a} {b} c is t f = sym (is ∙ ap (λ z. z && b && c) t ∙ ap (λ z. z && c) f)

pub third_tells : {all a b c : Bool} → all ≡ (a && b && c) → a ≡ true → b ≡ true → c ≡ all
third_tells {all} {a} {b} {c} is t u = sym (is ∙ ap (λ z. z && b && c) t ∙ ap (λ z. z && c) u)
