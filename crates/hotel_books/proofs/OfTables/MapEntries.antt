-- Maps as lists of entries: what a key's test says, and an entry that is taken back.
use Rattle.std.proofs.Common.{ℕ, ◌≡◌, Bool, true, false, cond, Option, Some, None, List, [], ◌∷◌, refl, ap, sym, ◌∙◌}
use Rattle.std.proofs.Common.{arith, ◌==◌, ◌&&◌, ◌||◌, is_some, nat_cmp, is_eq, Ordering, Less, Equal, Greater}
use Rattle.hotel_books.proofs.Names.{nat_tests, match_ordering, ordering_then, IsTotalOrder, Equal-is, is_at}
use Rattle.hotel_books.proofs.Names.{insert_entry, lookup, remove_entry, keys_of, nat_cmp_total, on_total, then_total}
use Rattle.hotel_books.proofs.Names.{tied_itself, exact_unsigned, pair_cmp, at_number}
use Rattle.keycard_rules.specs.Words.{is_one_of}

-- ---- numbers and pairs as keys

pub eq_from : (a b : ℕ) → (a == b) ≡ true → a ≡ b
eq_from a b h = grind (arith, nat_tests)

pub eq_self : (a : ℕ) → (a == a) ≡ true
eq_self a = grind (arith, nat_tests)

pub same_bool : (a b : Bool) → (a ≡ true → b ≡ true) → (b ≡ true → a ≡ true) → a ≡ b
same_bool true b f g = sym (f refl)
same_bool false true f g = g refl
same_bool false false f g = refl

pub eq_turned : (a b : ℕ) → (a == b) ≡ (b == a)
eq_turned a b = same_bool (a == b) (b == a) (λ h. ap (λ z. b == z) (eq_from a b h) ∙ eq_self b)
    (λ h. ap (λ z. a == z) (eq_from b a h) ∙ eq_self a)

-- the test of a number
pub at_is : (q k : ℕ) → is_at (nat_cmp q) k ≡ (k == q)
at_is q k =
    same_bool _ _
    (λ h. ap (λ z. k == z) (exact_unsigned q k ((Equal-is (nat_cmp q k)).0 h)) ∙ eq_self k)
    (λ h. ap (is_at (nat_cmp q)) (eq_from k q h) ∙ ap is_eq (tied_itself nat_cmp_total q))

pub pair_total : IsTotalOrder pair_cmp
pair_total = then_total (on_total (λ p. p.0) nat_cmp_total) (on_total (λ p. p.1) nat_cmp_total)

pub both_equal : (a b : Ordering) → is_eq (ordering_then a b) ≡ (is_eq a && is_eq b)
both_equal Less b = refl
both_equal Equal b = refl
both_equal Greater b = refl

-- the test of a pair
pub pair_is : (a b : ℕ) (k : ℕ × ℕ) → is_at (pair_cmp (a, b)) k ≡ ((k.0 == a) && (k.1 == b))
pair_is a b k = both_equal (nat_cmp a k.0) (nat_cmp b k.1) ∙ ap (λ z. z && is_eq (nat_cmp b k.1)) (at_is a k.0)
    ∙ ap (λ z. (k.0 == a) && z) (at_is b k.1)

pub at_self : {K : Type 0} {cmp : K → K → Ordering} → IsTotalOrder cmp → (k : K) → is_at (cmp k) k ≡ true
at_self o k = ap is_eq (tied_itself o k)

-- ---- a key that a list hasn't

pub missed : {X : Type 0} (b : Bool) (x : X) (rest : Option X)
    → cond b (Some x) rest ≡ None → (b ≡ false) × (rest ≡ None)
missed true x rest e = absurd (let w : ◌≡◌ {A = Option _} (Some x) None = e in cc)
missed false x rest e = (refl, e)

module _ {K X : Type 0} (cmp : K → K → Ordering) (total : IsTotalOrder cmp) (k : K) (v : X) where
  taken_back_by : (o : Ordering) (e : K × X) (es : List (K × X))
      → is_at (cmp k) e.0 ≡ is_eq o → is_eq o ≡ false → remove_entry (is_at (cmp k)) (insert_entry cmp es k v) ≡ es
      → remove_entry (is_at (cmp k)) (match_ordering o ((k, v) ∷ e ∷ es) ((e.0, v) ∷ es) (e ∷ insert_entry cmp es k v))
      ≡ e ∷ es
  taken_back_by Less e es h n ih =
      ap (λ b. cond b (e ∷ es) ((k, v) ∷ remove_entry (is_at (cmp k)) (e ∷ es))) (at_self total k)
  taken_back_by Equal e es h n ih = absurd (let w : ◌≡◌ {A = Bool} true false = n in cc)
  taken_back_by Greater e es h n ih =
      ap (λ b. cond b (insert_entry cmp es k v) (e ∷ remove_entry (is_at (cmp k)) (insert_entry cmp es k v))) h
      ∙ ap (λ rest. e ∷ rest) ih

  -- a new entry that is taken out again
  pub taken_back : (es : List (K × X))
      → lookup (is_at (cmp k)) es ≡ None → remove_entry (is_at (cmp k)) (insert_entry cmp es k v) ≡ es
  taken_back [] e = ap (λ b. cond b [] ((k, v) ∷ [])) (at_self total k)
  taken_back (x ∷ xs) e =
      let m = missed (is_at (cmp k) x.0) x.1 (lookup (is_at (cmp k)) xs) e in
      taken_back_by (cmp k x.0) x xs refl m.0 (taken_back xs m.1)

  found_by : (o : Ordering) (e : K × X) (es : List (K × X))
      → is_at (cmp k) e.0 ≡ is_eq o → lookup (is_at (cmp k)) (insert_entry cmp es k v) ≡ Some v
      → lookup (is_at (cmp k)) (match_ordering o ((k, v) ∷ e ∷ es) ((e.0, v) ∷ es) (e ∷ insert_entry cmp es k v))
      ≡ Some v
  found_by Less e es h ih = ap (λ b. cond b (Some v) (lookup (is_at (cmp k)) (e ∷ es))) (at_self total k)
  found_by Equal e es h ih = ap (λ b. cond b (Some v) (lookup (is_at (cmp k)) es)) h
  found_by Greater e es h ih = ap (λ b. cond b (Some e.1) (lookup (is_at (cmp k)) (insert_entry cmp es k v))) h ∙ ih

  -- an entry that was put in is found
  pub found : (es : List (K × X)) → lookup (is_at (cmp k)) (insert_entry cmp es k v) ≡ Some v
  found [] = ap (λ b. cond b (Some v) None) (at_self total k)
  found (x ∷ xs) = found_by (cmp k x.0) x xs refl (found xs)

pub known_by : {X : Type 0} (b : Bool) (x : X) (rest : Option X) (any : Bool)
    → is_some rest ≡ any → is_some (cond b (Some x) rest) ≡ (b || any)
known_by true x rest any e = refl
known_by false x rest any e = e

-- a number is among the keys where the map has it
pub known_key : {X : Type 0} (es : List (ℕ × X)) (k : ℕ) → is_some (at_number es k) ≡ is_one_of k (keys_of es)
known_key [] k = refl
known_key (e ∷ es) k = known_by (is_at (nat_cmp k) e.0) e.1 (at_number es k) (is_one_of k (keys_of es)) (known_key es k)
    ∙ ap (λ b. b || is_one_of k (keys_of es)) (at_is k e.0)
