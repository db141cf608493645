-- What a look-up finds in a table, in the order of its keys, after a row was added.
use Rattle.std.proofs.Common.{◌≡◌, Bool, true, false, cond, Option, Some, List, [], ◌∷◌, refl, ap, sym, ◌∙◌, is_eq}
use Rattle.std.proofs.Common.{Ordering, Less, Equal, Greater}
use Rattle.hotel_model.proofs.Names.{match_ordering, IsTotalOrder, is_at, insert_entry, lookup, alike_right}
use Rattle.hotel_model.proofs.OfTables.Tests.{equal_tested}

swap_tests : {X : Type 0} (a b : Bool) (x v rest : Option X)
    → (a ≡ true → b ≡ true → ⊥) → cond a x (cond b v rest) ≡ cond b v (cond a x rest)
swap_tests true true x v rest h = absurd (h refl refl)
swap_tests true false x v rest h = refl
swap_tests false true x v rest h = refl
swap_tests false false x v rest h = refl

same_tests : {X : Type 0} (a b : Bool) (x v rest : Option X) → a ≡ b → cond a v rest ≡ cond b v (cond a x rest)
same_tests true true x v rest e = refl
same_tests true false x v rest e = cc
same_tests false true x v rest e = cc
same_tests false false x v rest e = refl

not_both_keys : {K : Type 0} {cmp : K → K → Ordering} (total : IsTotalOrder cmp) (q k x : K)
    → cmp k x ≡ Greater → is_eq (cmp q x) ≡ true → is_eq (cmp q k) ≡ true → ⊥
not_both_keys {K} {cmp} total q k x g s t =
    let e : cmp q x ≡ cmp k x = total.congr q k x (equal_tested (cmp q k) t) in
    let f : cmp q x ≡ Equal = equal_tested (cmp q x) s in
    let w : ◌≡◌ {A = Ordering} Greater Equal = sym g ∙ sym e ∙ f in cc

found_by : {K X : Type 0} {cmp : K → K → Ordering} (total : IsTotalOrder cmp) (o : Ordering) (e : K × X)
    (es : List (K × X)) (k : K) (v : X) (q : K) → cmp k e.0 ≡ o
    → lookup (is_at (cmp q)) (insert_entry cmp es k v) ≡ cond (is_at (cmp q) k) (Some v) (lookup (is_at (cmp q)) es)
    → lookup (is_at (cmp q)) (match_ordering o ((k, v) ∷ e ∷ es) ((e.0, v) ∷ es) (e ∷ insert_entry cmp es k v))
    ≡ cond (is_at (cmp q) k) (Some v) (lookup (is_at (cmp q)) (e ∷ es))
found_by {K} {X} {cmp} total Less e es k v q c ih = refl
found_by {K} {X} {cmp} total Equal e es k v q c ih =
    same_tests (is_at (cmp q) e.0) (is_at (cmp q) k) (Some e.1) (Some v) (lookup (is_at (cmp q)) es)
    (ap is_eq (sym (alike_right total k e.0 q c)))
found_by {K} {X} {cmp} total Greater e es k v q c ih =
    ap (λ r. cond (is_at (cmp q) e.0) (Some e.1) r) ih
    ∙ swap_tests (is_at (cmp q) e.0) (is_at (cmp q) k) (Some e.1) (Some v) (lookup (is_at (cmp q)) es)
    (not_both_keys total q k e.0 c)

-- A look-up finds the added row at its key, and elsewhere what was there.
pub found_inserted : {K X : Type 0} {cmp : K → K → Ordering} (total : IsTotalOrder cmp)
    (es : List (K × X)) (k : K) (v : X) (q : K)
    → lookup (is_at (cmp q)) (insert_entry cmp es k v) ≡ cond (is_at (cmp q) k) (Some v) (lookup (is_at (cmp q)) es)
found_inserted total [] k v q = refl
found_inserted {K} {X} {cmp} total (e ∷ es) k v q =
    found_by total (cmp k e.0) e es k v q refl (found_inserted total es k v q)
