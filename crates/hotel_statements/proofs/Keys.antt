-- Tests of columns in statements.
use Rattle.std.proofs.Common.{◌≡◌, ◌&&◌, refl, ap, ◌∙◌, List, ℕ, pos, true, false, Bool, Some, arith, is_eq, nat_cmp}
use Rattle.std.proofs.Common.{eqb}
use Rattle.std.specs.Str.{bytes_eq}
use Rattle.std.proofs.lemmas.Bool.Decides.{nat_tests}
use Rattle.std.proofs.lemmas.Map.Text.{is_eq-slice_cmp}
use Rattle.sqlite_value.proofs.OrderLemmas.{value_cmp-Int, value_cmp-Text}
use Rattle.sqlite_value.specs.declared.value.Value.TheVariants.{Text}
use Rattle.sqlite_value.specs.declared.keys.Collation.TheVariants.{Binary}
use Rattle.sqlite_sql.specs.declared.ops.BinaryOp.TheVariants.{Compare}
use Rattle.sqlite_sql.specs.declared.ops.CompareOp.TheVariants.{Eq}
use Rattle.sqlite.specs.Ops.{binary, is_true, from_truth}
use Rattle.sqlite.specs.Order.{value_cmp}
use Rattle.hotel_statements.specs.Values.{int}

pub truly : (b : Bool) → is_true (from_truth (Some b)) ≡ b
truly true = refl
truly false = refl

pub same_number : (a k : ℕ) → is_eq (value_cmp (int a) (int k)) ≡ eqb a k
same_number a k = ap is_eq (value_cmp-Int (pos a) (pos k)) ∙ grind (arith, nat_tests)

-- the test of a number, and of a text
pub equals : (a k : ℕ) → is_true (binary (Compare Eq Binary) (int a) (int k)) ≡ eqb a k
unfolding binary
equals a k = truly _ ∙ same_number a k

pub equals_text : (a k : List ℕ) → is_true (binary (Compare Eq Binary) (Text a) (Text k)) ≡ bytes_eq a k
unfolding binary
equals_text a k = truly _ ∙ ap is_eq (value_cmp-Text a k) ∙ is_eq-slice_cmp a k

-- a key that a search by the order finds
pub is_key : (k a : ℕ) → is_eq (nat_cmp k a) ≡ eqb a k
is_key k a = grind (arith, nat_tests)

pub and_true : (b : Bool) → (b && true) ≡ b
and_true true = refl
and_true false = refl
