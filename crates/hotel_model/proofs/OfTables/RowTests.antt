-- Tests that all rows of a table pass, or any.
use Rattle.std.proofs.Common.{ℕ, ◌≡◌, Bool, true, false, cond, Some, List, [], ◌∷◌, ◌++◌, refl, ap, sym, ◌∙◌, ◌==◌}
use Rattle.std.proofs.Common.{◌&&◌, ◌||◌, not, map, nat_cmp, is_eq, Ordering, Less, Equal, Greater}
use Rattle.hotel_model.proofs.Names.{match_ordering, ordering_reverse, IsTotalOrder, list_all, list_any, when, and_last}
use Rattle.hotel_model.proofs.Names.{is_at, insert_entry, insert_key, lookup, keys_of, exact_unsigned, Stay, StayState}
use Rattle.hotel_model.proofs.Names.{at_number, in_state, now_is}
use Rattle.hotel_model.proofs.{OfTables.Tests.and_true, OfTables.Tests.or_false, OfTables.Tests.equal_tested}
use Rattle.hotel_model.proofs.{OfTables.TableKeys.same_number, OfTables.KeysInOrder.AllAfter}
use Rattle.hotel_model.proofs.{OfTables.KeysInOrder.InOrder, OfTables.KeysInOrder.has_key}

pub both : (a b : Bool) → a ≡ true → b ≡ true → (a && b) ≡ true
both a b s t = ap (λ z. z && b) s ∙ t

pub or_first : (a b : Bool) → a ≡ true → (a || b) ≡ true
or_first a b s = ap (λ z. z || b) s

pub or_later : (a b : Bool) → b ≡ true → (a || b) ≡ true
or_later true b t = refl
or_later false b t = t

-- what holds where a case is so
pub where_so : (so rule : Bool) → (so ≡ true → rule ≡ true) → (not so || rule) ≡ true
where_so true rule f = f refl
where_so false rule f = refl

-- what passes a test passes a weaker one
pub all_weaker : {X : Type 0} (t u : X → Bool) → ((x : X) → t x ≡ true → u x ≡ true) → (xs : List X)
    → list_all t xs ≡ true → list_all u xs ≡ true
all_weaker t u w [] h = refl
all_weaker t u w (x ∷ xs) h =
    let p = and_true (t x) (list_all t xs) h in both (u x) _ (w x p.0) (all_weaker t u w xs p.1)

-- where any of some passes, so does any of more
pub any_before : {X : Type 0} (t : X → Bool) (xs ys : List X) → list_any t xs ≡ true → list_any t (xs ++ ys) ≡ true
any_before t [] ys h = cc
any_before {X} t (x ∷ xs) ys h = by (t x) h (any_before t xs ys)
  where
    by : (b : Bool) → (b || list_any t xs) ≡ true → (list_any t xs ≡ true → list_any t (xs ++ ys) ≡ true)
        → (b || list_any t (xs ++ ys)) ≡ true
    by true g ih = refl
    by false g ih = ih g

pub any_last : {X : Type 0} (t : X → Bool) (xs : List X) (x : X) → t x ≡ true → list_any t (xs ++ x ∷ []) ≡ true
any_last t [] x h = or_first (t x) false h
any_last t (y ∷ xs) x h = or_later (t y) _ (any_last t xs x h)

pub any_more : {X : Type 0} (b : Bool) (t : X → Bool) (xs : List X) (x : X)
    → list_any t xs ≡ true → list_any t (when b (and_last x) xs) ≡ true
any_more true t xs x h = any_before t xs (x ∷ []) h
any_more false t xs x h = h

-- none of some passes, nor one more
pub none_more : {X : Type 0} (b : Bool) (t : X → Bool) (xs : List X) (x : X)
    → list_any t xs ≡ false → (b ≡ true → t x ≡ false) → list_any t (when b (and_last x) xs) ≡ false
none_more true t [] x none one = ap (λ z. z || false) (one refl)
none_more true t (y ∷ xs) x none one =
    let p = or_false (t y) (list_any t xs) none in
    ap (λ z. z || list_any t (xs ++ x ∷ [])) p.0 ∙ none_more true t xs x p.1 one
none_more false t xs x none one = none

-- all rows of a table that was computed
pub all_mapped : {X Y : Type 0} (t : Y → Bool) (f : X → Y) (xs : List X)
    → list_all t (map f xs) ≡ list_all (λ x. t (f x)) xs
all_mapped t f [] = refl
all_mapped t f (x ∷ xs) = ap (λ b. t (f x) && b) (all_mapped t f xs)

inserted_by : {K X : Type 0} (cmp : K → K → Ordering) (exact : (a b : K) → cmp a b ≡ Equal → a ≡ b) (t : K × X → Bool)
    (o : Ordering) (e : K × X) (es : List (K × X)) (k : K) (v : X) → cmp k e.0 ≡ o → t (k, v) ≡ true
    → list_all t (e ∷ es) ≡ true → list_all t (insert_entry cmp es k v) ≡ true
    → list_all t (match_ordering o ((k, v) ∷ e ∷ es) ((e.0, v) ∷ es) (e ∷ insert_entry cmp es k v)) ≡ true
inserted_by cmp exact t Less e es k v c h all ih = both (t (k, v)) _ h all
inserted_by cmp exact t Equal e es k v c h all ih =
    both (t (e.0, v)) _ (ap (λ z. t (z, v)) (sym (exact k e.0 c)) ∙ h) (and_true (t e) (list_all t es) all).1
inserted_by cmp exact t Greater e es k v c h all ih = both (t e) _ (and_true (t e) (list_all t es) all).0 ih

-- a table of any keys with one row more
pub all_added_by : {K X : Type 0} (cmp : K → K → Ordering) (exact : (a b : K) → cmp a b ≡ Equal → a ≡ b)
    (t : K × X → Bool) (es : List (K × X)) (k : K) (v : X) → t (k, v) ≡ true
    → list_all t es ≡ true → list_all t (insert_entry cmp es k v) ≡ true
all_added_by cmp exact t [] k v h all = both (t (k, v)) true h refl
all_added_by cmp exact t (e ∷ es) k v h all =
    inserted_by cmp exact t (cmp k e.0) e es k v refl h all
    (all_added_by cmp exact t es k v h (and_true (t e) (list_all t es) all).1)

-- a table with one row more
pub all_inserted : {X : Type 0} (t : ℕ × X → Bool) (es : List (ℕ × X)) (k : ℕ) (v : X)
    → t (k, v) ≡ true → list_all t es ≡ true → list_all t (insert_entry nat_cmp es k v) ≡ true
all_inserted t es k v h all = all_added_by nat_cmp exact_unsigned t es k v h all

key_by : {K : Type 0} (cmp : K → K → Ordering) (t : K → Bool) (o : Ordering) (k x : K) (xs : List K)
    → t k ≡ true → list_all t (x ∷ xs) ≡ true → list_all t (insert_key cmp xs k) ≡ true
    → list_all t (match_ordering o (k ∷ x ∷ xs) (x ∷ xs) (x ∷ insert_key cmp xs k)) ≡ true
key_by cmp t Less k x xs h all ih = both (t k) _ h all
key_by cmp t Equal k x xs h all ih = all
key_by cmp t Greater k x xs h all ih = both (t x) _ (and_true (t x) (list_all t xs) all).0 ih

-- keys with one more
pub all_keys_inserted : {K : Type 0} (cmp : K → K → Ordering) (t : K → Bool) (k : K) (xs : List K)
    → t k ≡ true → list_all t xs ≡ true → list_all t (insert_key cmp xs k) ≡ true
all_keys_inserted cmp t k [] h all = both (t k) true h refl
all_keys_inserted cmp t k (x ∷ xs) h all =
    key_by cmp t (cmp k x) k x xs h all (all_keys_inserted cmp t k xs h (and_true (t x) (list_all t xs) all).1)

state_by : (t : ℕ × Stay → Bool) (b : Bool) (s : StayState) (e : ℕ × Stay) (es later : List (ℕ × Stay))
    → ((x : ℕ × Stay) → t x ≡ true → t (x.0, now_is s x.1) ≡ true)
    → list_all t (e ∷ es) ≡ true → list_all t later ≡ true
    → list_all t (cond b ((e.0, now_is s e.1) ∷ es) (e ∷ later)) ≡ true
state_by t true s e es later keeps all ih =
    let p = and_true (t e) (list_all t es) all in both (t (e.0, now_is s e.1)) _ (keeps e p.0) p.1
state_by t false s e es later keeps all ih = both (t e) _ (and_true (t e) (list_all t es) all).0 ih

-- the stays, one of them in another state
pub all_in_state : (t : ℕ × Stay → Bool) (party : ℕ) (s : StayState) (es : List (ℕ × Stay))
    → ((x : ℕ × Stay) → t x ≡ true → t (x.0, now_is s x.1) ≡ true) → list_all t es ≡ true
    → list_all t (in_state party s es) ≡ true
all_in_state t party s [] keeps all = refl
all_in_state t party s (e ∷ es) keeps all =
    state_by t (e.0 == party) s e es (in_state party s es) keeps all
    (all_in_state t party s es keeps (and_true (t e) (list_all t es) all).1)

reverse_same : (o : Ordering) → o ≡ ordering_reverse o → o ≡ Equal
reverse_same Less e = cc
reverse_same Equal e = refl
reverse_same Greater e = cc

is_self : {K : Type 0} (cmp : K → K → Ordering) (total : IsTotalOrder cmp) (k : K) → is_eq (cmp k k) ≡ true
is_self cmp total k = ap is_eq (reverse_same (cmp k k) (total.antisymm k k))

-- a key before all of a table is none of it
pub after_not_same : {K X : Type 0} (cmp : K → K → Ordering) (total : IsTotalOrder cmp) (k q : K) (v : X)
    (es : List (K × X)) → AllAfter cmp k (keys_of es) → lookup (is_at (cmp q)) es ≡ Some v → is_eq (cmp q k) ≡ false
after_not_same cmp total k q v [] a h = cc
after_not_same {K} {X} cmp total k q v (e ∷ es) a h =
    by (is_eq (cmp q e.0)) refl h (after_not_same cmp total k q v es a.1)
  where
    not_equal : (o : Ordering) → o ≡ Greater → is_eq o ≡ false
    not_equal o g = ap is_eq g

    by : (b : Bool) → is_eq (cmp q e.0) ≡ b → cond b (Some e.1) (lookup (is_at (cmp q)) es) ≡ Some v
        → (lookup (is_at (cmp q)) es ≡ Some v → is_eq (cmp q k) ≡ false) → is_eq (cmp q k) ≡ false
    by true s g ih =
        not_equal (cmp q k)
        (total.congr q e.0 k (equal_tested (cmp q e.0) s) ∙ total.antisymm e.0 k ∙ ap ordering_reverse a.0)
    by false s g ih = ih g

-- In a table in order each row is what a look-up of its key finds: all rows pass a test that these pass.
pub all_found : {K X : Type 0} (cmp : K → K → Ordering) (total : IsTotalOrder cmp)
    (t : K × X → Bool) (es : List (K × X)) → InOrder cmp (keys_of es)
    → ((k : K) (v : X) → lookup (is_at (cmp k)) es ≡ Some v → t (k, v) ≡ true) → list_all t es ≡ true
all_found cmp total t [] s f = refl
all_found {K} {X} cmp total t (e ∷ es) s f =
    both (t e) _ (f e.0 e.1 (ap (λ b. cond b (Some e.1) (lookup (is_at (cmp e.0)) es)) (is_self cmp total e.0)))
    (all_found cmp total t es s.1 (λ k v g. f k v
    (ap (λ b. cond b (Some e.1) (lookup (is_at (cmp k)) es)) (after_not_same cmp total e.0 k v es s.0 g) ∙ g)))

-- all keys pass a test that those that are there pass
pub all_there : {K : Type 0} (cmp : K → K → Ordering) (total : IsTotalOrder cmp) (t : K → Bool) (xs : List K)
    → ((k : K) → has_key cmp k xs ≡ true → t k ≡ true) → list_all t xs ≡ true
all_there cmp total t [] f = refl
all_there cmp total t (x ∷ xs) f = both (t x) _ (f x (or_first _ _ (is_self cmp total x)))
    (all_there cmp total t xs (λ k h. f k (or_later (is_eq (cmp k x)) _ h)))

-- a row that a look-up finds passes what all rows pass
pub found_passes_by : {K X : Type 0} (cmp : K → K → Ordering)
    (same : (a b : K) → is_eq (cmp a b) ≡ true → a ≡ b) (t : K × X → Bool) (es : List (K × X)) (q : K) (v : X)
    → list_all t es ≡ true → lookup (is_at (cmp q)) es ≡ Some v → t (q, v) ≡ true
found_passes_by cmp same t [] q v all h = cc
found_passes_by {K} {X} cmp same t (e ∷ es) q v all h =
    let p = and_true (t e) (list_all t es) all in
    by (is_eq (cmp q e.0)) refl h p.0 (found_passes_by cmp same t es q v p.1)
  where
    by : (b : Bool) → is_eq (cmp q e.0) ≡ b → cond b (Some e.1) (lookup (is_at (cmp q)) es) ≡ Some v → t e ≡ true
        → (lookup (is_at (cmp q)) es ≡ Some v → t (q, v) ≡ true) → t (q, v) ≡ true
    by true s g here ih =
        let w : e.1 ≡ v = cc in ap (λ z. t (z, v)) (same q e.0 s) ∙ ap (λ z. t (e.0, z)) (sym w) ∙ here
    by false s g here ih = ih g

-- a row by number
pub found_passes : {X : Type 0} (t : ℕ × X → Bool) (es : List (ℕ × X)) (q : ℕ) (v : X)
    → list_all t es ≡ true → at_number es q ≡ Some v → t (q, v) ≡ true
found_passes t es q v all h = found_passes_by nat_cmp same_number t es q v all h
