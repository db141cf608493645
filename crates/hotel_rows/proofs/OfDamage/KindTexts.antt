-- Texts of kinds in a map.
use Rattle.std.proofs.Common.{◌≡◌, ◌-◌, ◌≤◌, ℕ, suc, Bool, true, false, cond, ◌&&◌, ◌++◌, List, [], ◌∷◌, map, length}
use Rattle.std.proofs.Common.{drop, Option, Some, None, refl, sym, ap, subst, ◌∙◌, nat_cmp, arith}
use Rattle.std.specs.Prelude.{◌||◌, bytes_eq, is_some}
use Rattle.std.specs.List.{list_all, list_any}
use Rattle.std.specs.Cmp.Lexicographic.{slice_cmp}
use Rattle.std.specs.BTreeMap.{is_at}
use Rattle.std.specs.Map.{lookup}
use Rattle.std.proofs.lemmas.Map.Text.{is_eq-slice_cmp}
use Rattle.std.proofs.lemmas.Slice.Eq.{bytes_eq-Decides}
use Rattle.std.proofs.lemmas.List.{length-drop}
use Rattle.hotel_nights.specs.Kinds.{is_kind, read_kind}
use Rattle.hotel_model.specs.SoundRooms.{are_in_order}
use Rattle.hotel_rows.specs.RowTests.{HasKinds}
use Rattle.hotel_rows.proofs.OfDamage.Rising.{short_in_order}

not_alike : (b : Bool) (k q : List ℕ) → bytes_eq k q ≡ b → is_kind k ≡ true → is_kind q ≡ false → b ≡ false
not_alike true k q e yes_k no_q =
    absurd (let w : ◌≡◌ {A = Bool} true false = sym yes_k ∙ ap is_kind ((bytes_eq-Decides k q).0 e) ∙ no_q in cc)
not_alike false k q e yes_k no_q = refl

and_parts : (a b : Bool) → (a && b) ≡ true → (a ≡ true) × (b ≡ true)
and_parts true b h = (refl, h)
and_parts false b h = absurd (let w : ◌≡◌ {A = Bool} false true = h in cc)

-- a text that is no kind is none of the kinds
pub none_of_kinds : (kinds : List (List ℕ)) (q : List ℕ)
    → list_all is_kind kinds ≡ true → is_kind q ≡ false → list_any (λ k. bytes_eq k q) kinds ≡ false
none_of_kinds [] q all no_q = refl
none_of_kinds (k ∷ ks) q all no_q =
    let p = and_parts (is_kind k) (list_all is_kind ks) all in
    ap (λ b. b || list_any (λ k. bytes_eq k q) ks) (not_alike (bytes_eq k q) k q refl p.0 no_q)
    ∙ none_of_kinds ks q p.1 no_q

unread_by : (b : Bool) (t : List ℕ) → cond b (Some t) None ≡ None → b ≡ false
unread_by true t e = absurd (let w : ◌≡◌ {A = Option (List ℕ)} (Some t) None = e in cc)
unread_by false t e = refl

pub unread : (t : List ℕ) → read_kind t ≡ None → is_kind t ≡ false
unread t e = unread_by (is_kind t) t e

read_by : (b : Bool) (t k : List ℕ) → cond b (Some t) None ≡ Some k → (b ≡ true) × (k ≡ t)
read_by true t k e = (refl, let w : ◌≡◌ {A = Option (List ℕ)} (Some t) (Some k) = e in cc)
read_by false t k e = absurd (let w : ◌≡◌ {A = Option (List ℕ)} None (Some k) = e in cc)

pub read : (t k : List ℕ) → read_kind t ≡ Some k → (is_kind t ≡ true) × (k ≡ t)
read t k e = read_by (is_kind t) t k e

any_more : (p : List ℕ → Bool) (ks : List (List ℕ)) (k : List ℕ) → list_any p (ks ++ k ∷ []) ≡ (p k || list_any p ks)
any_more p [] k = refl
any_more p (x ∷ ks) k = ap (λ b. p x || b) (any_more p ks k) ∙ turned (p x) (p k) (list_any p ks)
  where
    turned : (a b c : Bool) → (a || (b || c)) ≡ (b || (a || c))
    turned true true c = refl
    turned true false c = refl
    turned false b c = refl

some_by : (b : Bool) (v : ℕ) (o : Option ℕ) → is_some (cond b (Some v) o) ≡ (b || is_some o)
some_by true v o = refl
some_by false v o = refl

-- a kind more
pub knows_more : (known later : List (List ℕ × ℕ)) (kinds : List (List ℕ)) (kind : List ℕ) (v : ℕ)
    → HasKinds known kinds
    → ((q : List ℕ) → lookup (is_at (slice_cmp nat_cmp q)) later
    ≡ cond (is_at (slice_cmp nat_cmp kind) q) (Some v) (lookup (is_at (slice_cmp nat_cmp q)) known))
    → HasKinds later (kinds ++ kind ∷ [])
knows_more known later kinds kind v knows put q =
    ap is_some (put q)
    ∙ some_by (is_at (slice_cmp nat_cmp kind) q) v (lookup (is_at (slice_cmp nat_cmp q)) known)
    ∙ ap (λ b. b || is_some (lookup (is_at (slice_cmp nat_cmp q)) known)) (is_eq-slice_cmp kind q)
    ∙ ap (λ b. bytes_eq kind q || b) (knows q)
    ∙ sym (any_more (λ k. bytes_eq k q) kinds kind)

length_mapped : {X : Type 0} (f : X → List ℕ) (xs : List X) → length (map f xs) ≡ length xs
length_mapped f [] = refl
length_mapped f (x ∷ xs) = ap (λ n. suc_of n) (length_mapped f xs)
  where
    suc_of : ℕ → ℕ
    suc_of n = suc n

pub last_text : {X : Type 0} (f : X → List ℕ) (xs : List X) (i : ℕ)
    → length xs ≤ i → are_in_order (slice_cmp nat_cmp) (map f (drop (i - 1) xs)) ≡ true
last_text f xs i h =
    short_in_order (slice_cmp nat_cmp) (map f (drop (i - 1) xs))
    (subst (λ n. n ≤ 1) (sym (length_mapped f (drop (i - 1) xs) ∙ length-drop (i - 1) xs)) (omega (arith, h)))

pub text_more : {X : Type 0} (f : X → List ℕ) (xs : List X) (x : X) → map f (xs ++ x ∷ []) ≡ map f xs ++ f x ∷ []
text_more f [] x = refl
text_more f (y ∷ xs) x = ap (λ ts. f y ∷ ts) (text_more f xs x)
