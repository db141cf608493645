-- Tables by number: what a look-up finds, which numbers are there, and what an added row changes.
use Rattle.std.proofs.Common.{ℕ, ◌≡◌, Bool, true, false, cond, Option, Some, List, [], ◌∷◌, refl, ap, sym, ◌∙◌, ◌==◌}
use Rattle.std.proofs.Common.{is_some, map, option_map, nat_cmp}
use Rattle.hotel_model.proofs.{Names.is_at, Names.insert_entry, Names.keys_of, Names.is_one_of, Names.at_number}
use Rattle.hotel_model.proofs.{Names.nat_cmp_total, OfTables.Inserted.found_inserted}
use Rattle.hotel_model.proofs.{OfTables.TableKeys.at_is, OfTables.TableKeys.is_key, OfTables.Tests.eq_from}
use Rattle.hotel_model.proofs.{OfTables.Tests.not_both}

-- a test that holds and fails
pub true_is_not_false : {b : Bool} → b ≡ true → b ≡ false → ⊥
true_is_not_false {b} t f = not_both b t f

-- numbers that a test tells apart
pub apart_by : (a b : ℕ) → (a ≡ b → ⊥) → (a == b) ≡ false
apart_by a b f = by (a == b) refl
  where
    by : (t : Bool) → (a == b) ≡ t → (a == b) ≡ false
    by true e = absurd (f (eq_from a b e))
    by false e = e

-- what a table has after a row was added
pub at_inserted : {X : Type 0} (es : List (ℕ × X)) (k : ℕ) (v : X) (n : ℕ)
    → at_number (insert_entry nat_cmp es k v) n ≡ cond (k == n) (Some v) (at_number es n)
at_inserted es k v n = found_inserted nat_cmp_total es k v n ∙ ap (λ b. cond b (Some v) (at_number es n)) (at_is n k)

-- A number is one of a table's exactly where a look-up finds a row.
pub is_there : {X : Type 0} (es : List (ℕ × X)) (n : ℕ) → is_some (at_number es n) ≡ is_one_of n (keys_of es)
is_there es n = sym (is_key es n)

-- a number is there where a look-up finds a row
pub found_there : {X : Type 0} (es : List (ℕ × X)) (n : ℕ) (x : X)
    → at_number es n ≡ Some x → is_one_of n (keys_of es) ≡ true
found_there es n x h = sym (is_there es n) ∙ ap is_some h

mapped_by : {X Y : Type 0} (f : ℕ → X → Y) (b : Bool) (k n : ℕ) (x : X) (o : Option X)
    → (b ≡ true → k ≡ n) → cond b (Some (f k x)) (option_map (f n) o) ≡ option_map (f n) (cond b (Some x) o)
mapped_by f true k n x o e = ap (λ z. Some (f z x)) (e refl)
mapped_by f false k n x o e = refl

-- a look-up in a table whose rows were computed, each from its number and its value
pub at_mapped : {X Y : Type 0} (f : ℕ → X → Y) (es : List (ℕ × X)) (n : ℕ)
    → at_number (map (λ e. (e.0, f e.0 e.1)) es) n ≡ option_map (f n) (at_number es n)
at_mapped f [] n = refl
at_mapped f (e ∷ es) n =
    ap (λ o. cond (is_at (nat_cmp n) e.0) (Some (f e.0 e.1)) o) (at_mapped f es n)
    ∙ mapped_by f (is_at (nat_cmp n) e.0) e.0 n e.1 (at_number es n) (λ t. eq_from e.0 n (sym (at_is n e.0) ∙ t))
