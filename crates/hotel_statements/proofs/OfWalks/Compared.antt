-- Tests of two numbers in statements, beside that they are equal, and lists by their entries.
use Rattle.std.proofs.Common.{◌≡◌, ◌∙◌, sym, ap, List, ℕ, pos, Bool, true, map, filter, arith, refl}
use Rattle.std.specs.Prelude.{nat_le, nat_lt}
use Rattle.std.specs.Ordering.{is_le, is_lt}
use Rattle.std.specs.List.Sorted.{IsPermutation}
use Rattle.std.specs.Map.{values_of}
use Rattle.std.proofs.lemmas.Bool.Decides.{nat_tests}
use Rattle.sqlite_keyed.proofs.ListLemmas.{all_of, filter_all, filter-map, IsPermutation-same}
use Rattle.sqlite_value.proofs.OrderLemmas.{value_cmp-Int}
use Rattle.sqlite_value.specs.declared.keys.Collation.TheVariants.{Binary}
use Rattle.sqlite_sql.specs.declared.ops.BinaryOp.TheVariants.{Compare}
use Rattle.sqlite_sql.specs.declared.ops.CompareOp.TheVariants.{Lt, Le}
use Rattle.sqlite.specs.Ops.{binary, is_true}
use Rattle.hotel_statements.specs.Values.{int}
use Rattle.hotel_statements.proofs.Keys.{truly}

pub at_most : (a k : ℕ) → is_true (binary (Compare Le Binary) (int a) (int k)) ≡ nat_le a k
unfolding binary
at_most a k = truly _ ∙ ap is_le (value_cmp-Int (pos a) (pos k)) ∙ grind (arith, nat_tests)

pub less_than : (a k : ℕ) → is_true (binary (Compare Lt Binary) (int a) (int k)) ≡ nat_lt a k
unfolding binary
less_than a k = truly _ ∙ ap is_lt (value_cmp-Int (pos a) (pos k)) ∙ grind (arith, nat_tests)

-- the values of the entries whose values pass a test
pub values_passing : {K V : Type 0} (p : V → Bool) (es : List (K × V))
    → map (λ (e : K × V). e.1) (filter (λ (e : K × V). p e.1) es) ≡ filter p (values_of es)
values_passing {K} {V} p es = sym (filter-map p (λ (e : K × V). e.1) es)

-- a test that each passes leaves none out
pub all_kept : {X : Type 0} (xs : List X) → IsPermutation (filter (λ _. true) xs) xs
all_kept xs = IsPermutation-same _ _ (filter_all (λ _. true) xs (all_of _ (λ x. refl) xs))
