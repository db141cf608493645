-- Tables whose keys pass the test of order: each row is the one that a look-up finds.
use Rattle.std.proofs.Common.{ℕ, ◌≡◌, Bool, true, false, cond, Option, Some, None, List, [], ◌∷◌, refl, ap, sym, ◌∙◌}
use Rattle.std.proofs.Common.{nat_cmp, is_eq, is_lt, Ordering, Less, Equal, Greater}
use Rattle.hotel_model.proofs.Names.{IsTotalOrder, is_at, keys_of, at_number, are_in_order}
use Rattle.hotel_model.proofs.{OfTables.KeysInOrder.AllAfter, OfTables.KeysInOrder.InOrder}
use Rattle.hotel_model.proofs.{OfTables.KeysInOrder.all_after, OfTables.Tests.and_true, OfTables.Tests.not_both}
use Rattle.hotel_model.proofs.OfTables.TableKeys.{same_number}

is_less : (o : Ordering) → is_lt o ≡ true → o ≡ Less
is_less Less e = refl
is_less Equal e = not_both false e refl
is_less Greater e = not_both false e refl

-- keys that pass the test are in order
pub in_order_from : {K : Type 0} (cmp : K → K → Ordering) (total : IsTotalOrder cmp) (xs : List K)
    → are_in_order cmp xs ≡ true → InOrder cmp xs
in_order_from cmp total [] e = tt
in_order_from cmp total (x ∷ []) e = (tt, tt)
in_order_from cmp total (x ∷ y ∷ zs) e =
    let p = and_true (is_lt (cmp x y)) (are_in_order cmp (y ∷ zs)) e in
    let l = is_less (cmp x y) p.0 in
    let s = in_order_from cmp total (y ∷ zs) p.1 in
    ((l, all_after cmp total x y zs l s.0), s)

-- no row of a number that comes before all
pub none_before : {X : Type 0} (k : ℕ) (es : List (ℕ × X)) → AllAfter nat_cmp k (keys_of es) → at_number es k ≡ None
none_before k [] a = refl
none_before k (e ∷ es) a = ap (λ o. cond (is_eq o) (Some e.1) (at_number es k)) a.0 ∙ none_before k es a.1

pub kept : {X : Type 0} (b : Bool) (v w : X) (was : Option X)
    → (b ≡ true → was ≡ None) → was ≡ Some w → cond b (Some v) was ≡ Some w
kept true v w was n e = absurd (let e' : ◌≡◌ {A = Option _} None (Some w) = sym (n refl) ∙ e in cc)
kept false v w was n e = e

-- a row of the later ones is found among all
pub found_later : {X : Type 0} (e : ℕ × X) (es : List (ℕ × X)) (q : ℕ) (v : X)
    → AllAfter nat_cmp e.0 (keys_of es) → at_number es q ≡ Some v → at_number (e ∷ es) q ≡ Some v
found_later e es q v a f = kept (is_at (nat_cmp q) e.0) e.1 v (at_number es q)
    (λ t. ap (at_number es) (same_number q e.0 t) ∙ none_before e.0 es a) f
