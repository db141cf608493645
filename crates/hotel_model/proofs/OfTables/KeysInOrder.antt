-- Keys in order: what stays in order, and that a key that is there isn't added again.
use Rattle.std.proofs.Common.{◌≡◌, Bool, true, false, cond, List, [], ◌∷◌, filter, refl, ap, sym, ◌∙◌, ◌&&◌, ◌||◌}
use Rattle.std.proofs.Common.{is_eq, is_lt, nat_cmp, Ordering, Less, Equal, Greater}
use Rattle.hotel_model.proofs.Names.{match_ordering, ordering_reverse, list_any, IsTotalOrder, insert_entry, is_at}
use Rattle.hotel_model.proofs.Names.{remove_key, insert_key, keys_of, are_in_order, keys_in_order, Rows, slice_cmp}
use Rattle.hotel_model.proofs.Names.{pair_cmp}
use Rattle.hotel_model.proofs.OfTables.Tests.{eight_true}

-- The keys of each table are in order.
pub record AreOrdered (rows : Rows) : Type 0 where
  pub kinds : are_in_order (slice_cmp nat_cmp) rows.kinds ≡ true
  pub rooms : are_in_order nat_cmp (keys_of rows.rooms) ≡ true
  pub codes : are_in_order nat_cmp (keys_of rows.codes) ≡ true
  pub stays : are_in_order nat_cmp (keys_of rows.stays) ≡ true
  pub cards : are_in_order nat_cmp (keys_of rows.cards) ≡ true
  pub inside : are_in_order pair_cmp rows.inside ≡ true
  pub notes : are_in_order pair_cmp (keys_of rows.notes) ≡ true
  pub fits : are_in_order pair_cmp (keys_of rows.fits) ≡ true

pub ordered : (rows : Rows) → keys_in_order rows ≡ true → AreOrdered rows
ordered rows t =
    let a = eight_true (are_in_order (slice_cmp nat_cmp) rows.kinds) (are_in_order nat_cmp (keys_of rows.rooms))
    (are_in_order nat_cmp (keys_of rows.codes)) (are_in_order nat_cmp (keys_of rows.stays))
    (are_in_order nat_cmp (keys_of rows.cards)) (are_in_order pair_cmp rows.inside)
    (are_in_order pair_cmp (keys_of rows.notes)) (are_in_order pair_cmp (keys_of rows.fits)) t in
    record {
      kinds = a.0;
      rooms = a.1;
      codes = a.2;
      stays = a.3;
      cards = a.4;
      inside = a.5;
      notes = a.6;
      fits = a.7;
    }

-- each of these comes after the key
abbrev pub AllAfter : {K : Type 0} → (K → K → Ordering) → K → List K → Type 0
AllAfter cmp k [] = Unit {0}
AllAfter cmp k (x ∷ xs) = (cmp k x ≡ Less) × AllAfter cmp k xs

-- each key comes before all later ones
abbrev pub InOrder : {K : Type 0} → (K → K → Ordering) → List K → Type 0
InOrder cmp [] = Unit {0}
InOrder cmp (x ∷ xs) = AllAfter cmp x xs × InOrder cmp xs

-- the key is one of these
abbrev pub has_key : {K : Type 0} → (K → K → Ordering) → K → List K → Bool
has_key cmp k xs = list_any (λ x. is_eq (cmp k x)) xs

pub all_after : {K : Type 0} (cmp : K → K → Ordering) (total : IsTotalOrder cmp) (a b : K) (xs : List K)
    → cmp a b ≡ Less → AllAfter cmp b xs → AllAfter cmp a xs
all_after cmp total a b [] l h = tt
all_after cmp total a b (x ∷ xs) l h = (total.trans a b x l h.0, all_after cmp total a b xs l h.1)

greater_turned : {K : Type 0} (cmp : K → K → Ordering) (total : IsTotalOrder cmp) (a b : K)
    → cmp a b ≡ Greater → cmp b a ≡ Less
greater_turned cmp total a b g = total.antisymm b a ∙ ap ordering_reverse g

after_inserted_by : {K : Type 0} (cmp : K → K → Ordering) (o : Ordering) (x k y : K) (ys : List K)
    → cmp x k ≡ Less → AllAfter cmp x (y ∷ ys) → AllAfter cmp x (insert_key cmp ys k)
    → AllAfter cmp x (match_ordering o (k ∷ y ∷ ys) (y ∷ ys) (y ∷ insert_key cmp ys k))
after_inserted_by cmp Less x k y ys l a ih = (l, a)
after_inserted_by cmp Equal x k y ys l a ih = a
after_inserted_by cmp Greater x k y ys l a ih = (a.0, ih)

after_inserted : {K : Type 0} (cmp : K → K → Ordering) (x k : K) (ys : List K)
    → cmp x k ≡ Less → AllAfter cmp x ys → AllAfter cmp x (insert_key cmp ys k)
after_inserted cmp x k [] l a = (l, tt)
after_inserted cmp x k (y ∷ ys) l a = after_inserted_by cmp (cmp k y) x k y ys l a (after_inserted cmp x k ys l a.1)

inserted_by : {K : Type 0} (cmp : K → K → Ordering) (total : IsTotalOrder cmp) (o : Ordering) (k x : K) (xs : List K)
    → cmp k x ≡ o → InOrder cmp (x ∷ xs) → InOrder cmp (insert_key cmp xs k)
    → InOrder cmp (match_ordering o (k ∷ x ∷ xs) (x ∷ xs) (x ∷ insert_key cmp xs k))
inserted_by cmp total Less k x xs c s ih = ((c, all_after cmp total k x xs c s.0), s)
inserted_by cmp total Equal k x xs c s ih = s
inserted_by cmp total Greater k x xs c s ih = (after_inserted cmp x k xs (greater_turned cmp total k x c) s.0, ih)

-- keys in order, with one more
pub in_order_inserted : {K : Type 0} (cmp : K → K → Ordering) (total : IsTotalOrder cmp) (k : K) (xs : List K)
    → InOrder cmp xs → InOrder cmp (insert_key cmp xs k)
in_order_inserted cmp total k [] s = (tt, tt)
in_order_inserted cmp total k (x ∷ xs) s =
    inserted_by cmp total (cmp k x) k x xs refl s (in_order_inserted cmp total k xs s.1)

after_removed_by : {K : Type 0} (cmp : K → K → Ordering) (b : Bool) (x k y : K) (ys : List K)
    → AllAfter cmp x (y ∷ ys) → AllAfter cmp x (remove_key (is_at (cmp k)) ys)
    → AllAfter cmp x (cond b ys (y ∷ remove_key (is_at (cmp k)) ys))
after_removed_by cmp true x k y ys a ih = a.1
after_removed_by cmp false x k y ys a ih = (a.0, ih)

after_removed : {K : Type 0} (cmp : K → K → Ordering) (x k : K) (ys : List K)
    → AllAfter cmp x ys → AllAfter cmp x (remove_key (is_at (cmp k)) ys)
after_removed cmp x k [] a = tt
after_removed cmp x k (y ∷ ys) a = after_removed_by cmp (is_at (cmp k) y) x k y ys a (after_removed cmp x k ys a.1)

removed_by : {K : Type 0} (cmp : K → K → Ordering) (b : Bool) (k x : K) (xs : List K) → InOrder cmp (x ∷ xs)
    → InOrder cmp (remove_key (is_at (cmp k)) xs) → InOrder cmp (cond b xs (x ∷ remove_key (is_at (cmp k)) xs))
removed_by cmp true k x xs s ih = s.1
removed_by cmp false k x xs s ih = (after_removed cmp x k xs s.0, ih)

-- keys in order, with one taken out
pub in_order_removed : {K : Type 0} (cmp : K → K → Ordering) (k : K) (xs : List K)
    → InOrder cmp xs → InOrder cmp (remove_key (is_at (cmp k)) xs)
in_order_removed cmp k [] s = tt
in_order_removed cmp k (x ∷ xs) s = removed_by cmp (is_at (cmp k) x) k x xs s (in_order_removed cmp k xs s.1)

after_filtered : {K : Type 0} (cmp : K → K → Ordering) (t : K → Bool) (x : K) (ys : List K)
    → AllAfter cmp x ys → AllAfter cmp x (filter t ys)
after_filtered cmp t x [] a = tt
after_filtered {K} cmp t x (y ∷ ys) a = by (t y) (after_filtered cmp t x ys a.1)
  where
    by : (b : Bool) → AllAfter cmp x (filter t ys) → AllAfter cmp x (cond b (y ∷ filter t ys) (filter t ys))
    by true ih = (a.0, ih)
    by false ih = ih

-- keys in order, some of them
pub in_order_filtered : {K : Type 0} (cmp : K → K → Ordering) (t : K → Bool) (xs : List K)
    → InOrder cmp xs → InOrder cmp (filter t xs)
in_order_filtered cmp t [] s = tt
in_order_filtered {K} cmp t (x ∷ xs) s = by (t x) (in_order_filtered cmp t xs s.1)
  where
    by : (b : Bool) → InOrder cmp (filter t xs) → InOrder cmp (cond b (x ∷ filter t xs) (filter t xs))
    by true ih = (after_filtered cmp t x xs s.0, ih)
    by false ih = ih

not_after : {K : Type 0} (cmp : K → K → Ordering) (k : K) (xs : List K) → AllAfter cmp k xs → has_key cmp k xs ≡ false
not_after cmp k [] a = refl
not_after cmp k (x ∷ xs) a = ap (λ o. is_eq o || has_key cmp k xs) a.0 ∙ not_after cmp k xs a.1

present_by : {K : Type 0} (cmp : K → K → Ordering) (total : IsTotalOrder cmp) (o : Ordering) (k x : K) (xs : List K)
    → cmp k x ≡ o → InOrder cmp (x ∷ xs) → (is_eq o || has_key cmp k xs) ≡ true
    → (has_key cmp k xs ≡ true → insert_key cmp xs k ≡ xs)
    → match_ordering o (k ∷ x ∷ xs) (x ∷ xs) (x ∷ insert_key cmp xs k) ≡ x ∷ xs
present_by cmp total Less k x xs c s h ih =
    let n : has_key cmp k xs ≡ false = not_after cmp k xs (all_after cmp total k x xs c s.0) in
    let w : ◌≡◌ {A = Bool} true false = sym h ∙ n in cc
present_by cmp total Equal k x xs c s h ih = refl
present_by cmp total Greater k x xs c s h ih = ap (λ zs. x ∷ zs) (ih h)

-- A key that is there isn't added again.
pub present_stays : {K : Type 0} (cmp : K → K → Ordering) (total : IsTotalOrder cmp) (k : K) (xs : List K)
    → InOrder cmp xs → has_key cmp k xs ≡ true → insert_key cmp xs k ≡ xs
present_stays cmp total k [] s h = cc
present_stays cmp total k (x ∷ xs) s h =
    present_by cmp total (cmp k x) k x xs refl s h (present_stays cmp total k xs s.1)

keys_by : {K X : Type 0} (cmp : K → K → Ordering) (o : Ordering) (k : K) (v : X) (e : K × X) (es : List (K × X))
    → keys_of (insert_entry cmp es k v) ≡ insert_key cmp (keys_of es) k
    → keys_of (match_ordering o ((k, v) ∷ e ∷ es) ((e.0, v) ∷ es) (e ∷ insert_entry cmp es k v))
    ≡ match_ordering o (k ∷ e.0 ∷ keys_of es) (e.0 ∷ keys_of es) (e.0 ∷ insert_key cmp (keys_of es) k)
keys_by cmp Less k v e es ih = refl
keys_by cmp Equal k v e es ih = refl
keys_by cmp Greater k v e es ih = ap (λ zs. e.0 ∷ zs) ih

-- the keys of a table with one more row
pub keys_inserted : {K X : Type 0} (cmp : K → K → Ordering) (k : K) (v : X) (es : List (K × X))
    → keys_of (insert_entry cmp es k v) ≡ insert_key cmp (keys_of es) k
keys_inserted cmp k v [] = refl
keys_inserted cmp k v (e ∷ es) = keys_by cmp (cmp k e.0) k v e es (keys_inserted cmp k v es)

-- keys in order pass the test
pub in_order_tested : {K : Type 0} (cmp : K → K → Ordering) (xs : List K) → InOrder cmp xs → are_in_order cmp xs ≡ true
in_order_tested cmp [] s = refl
in_order_tested cmp (x ∷ []) s = refl
in_order_tested cmp (x ∷ y ∷ zs) s =
    ap (λ o. is_lt o && are_in_order cmp (y ∷ zs)) s.0.0 ∙ in_order_tested cmp (y ∷ zs) s.1
