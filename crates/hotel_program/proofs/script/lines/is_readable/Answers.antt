use Rattle.std.proofs.Common.{◌≡◌, ℕ, ◌≤◌, arith, List, length, IsUtf8, true, false, nat_le, ◌&&◌, refl, inl, inr, Bool}
use Rattle.std.proofs.lemmas.Bool.{cases_Bool}
use Rattle.std.proofs.lemmas.Bool.Decides.{nat_tests}
use Rattle.std.proofs.lemmas.Str.{IsUtf8-from_is_utf8, is_utf8-from_IsUtf8}
use Rattle.std.specs.Str.{is_utf8}
use Rattle.hotel_program.specs.declared.script.lines.TheConstants.{LINE_LIMIT}
use Rattle.hotel_program.specs.Script.Lines.{is_readable}
use Rattle.hotel_program.proofs.script.lines.is_readable.Goals as goal

both : (a b x y : Bool) → a ≡ x → b ≡ y → (x && y) ≡ (a && b)
both a b x y e f = rw (e, f) refl

yes-of : (line : List ℕ) → length line ≤ LINE_LIMIT → is_utf8 line ≡ true → true ≡ is_readable line
yes-of line h u =
    let e : nat_le (length line) LINE_LIMIT ≡ true = grind (arith, nat_tests) in
    both (nat_le (length line) LINE_LIMIT) (is_utf8 line) true true e u

no-of : (line : List ℕ) → length line ≤ LINE_LIMIT → is_utf8 line ≡ false → false ≡ is_readable line
no-of line h u =
    let e : nat_le (length line) LINE_LIMIT ≡ true = grind (arith, nat_tests) in
    both (nat_le (length line) LINE_LIMIT) (is_utf8 line) true false e u

not-utf8 : (line : List ℕ) → (IsUtf8 line → ⊥) → is_utf8 line ≡ false
not-utf8 line h = elim (cases_Bool (is_utf8 line)) [
  | inl t ↦ absurd (h (IsUtf8-from_is_utf8 line t))
  | inr f ↦ f
]

pub returns-in-Ok : goal.returns-in-Ok
returns-in-Ok c = yes-of c.args.line.now (omega arith) (is_utf8-from_IsUtf8 c.args.line.now c.in-Ok.ensures.cases.1)

pub returns-in-Err : goal.returns-in-Err
returns-in-Err c = no-of c.args.line.now (omega arith) (not-utf8 c.args.line.now c.in-Err.ensures.cases.0)
