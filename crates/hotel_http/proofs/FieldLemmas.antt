-- Field lines that are looked at one after the other.
use Rattle.std.proofs.Common.{◌≡◌, ℕ, ◌+◌, ◌*◌, ◌-◌, ◌<◌, ◌≤◌, List, [], ◌∷◌, ◌++◌, length, take, take_all, map, get_or}
use Rattle.std.proofs.Common.{min, sym, ap, ◌∙◌, subst, refl, arith, cond, Bool, true, false, append-nil, ◌||◌, filter}
use Rattle.hotel_books.proofs.Names.{take_more, list_any}
use Rattle.std.proofs.lemmas.List.{map-append}
use Rattle.std.proofs.lemmas.List.Elements.{filter-append}
use Rattle.std.proofs.lemmas.List.Folds.{list_any_at}
use Rattle.std.proofs.lemmas.Int.Digits.{digits_value_more}
use Rattle.std.proofs.lemmas.Str.{digit_value_digit}
use Rattle.std.specs.Int.{IsInRange}
use Rattle.std.specs.Str.Parse.{digits_value}
use Rattle.hotel_http.specs.{Fields.Pair, Fields.is_named, Fields.values_named, Fields.IsFoundIn, Fields.is_expectation}
use Rattle.hotel_http.specs.{Fields.expects_continue, declared.fields.Named.Named}

one_value : (p : Pair → Bool) (field : Pair)
    → map (λ (f : Pair). f.1) (filter p (field ∷ [])) ≡ cond (p field) (field.1 ∷ []) []
one_value p field =
    elim (p field) as (λ b. map (λ (f : Pair). f.1) (cond b (field ∷ []) [])
    ≡ cond b (field.1 ∷ []) []) [ true ↦ refl | false ↦ refl ]

-- The values so far, and that of the next field where it has the name.
values_next : {A : Type 0} (name : List ℕ) (f : A → Pair) (hs : List A) (i : ℕ) (d : A) → i < length hs
    → values_named name (map f (take (i + 1) hs))
    ≡ values_named name (map f (take i hs)) ++ cond (is_named name (f (get_or hs i d))) ((f (get_or hs i d)).1 ∷ []) []
unfolding values_named
values_next name f hs i d h =
    let p = is_named name in
    ap (λ l. map (λ (x : Pair). x.1) (filter p (map f l))) (take_more hs i d h)
    ∙ ap (λ l. map (λ (x : Pair). x.1) (filter p l)) (map-append f (take i hs) (get_or hs i d ∷ []))
    ∙ ap (map (λ (x : Pair). x.1)) (filter-append p (map f (take i hs)) (f (get_or hs i d) ∷ []))
    ∙ map-append (λ (x : Pair). x.1) (filter p (map f (take i hs))) (filter p (f (get_or hs i d) ∷ []))
    ∙ ap (λ l. map (λ (x : Pair). x.1) (filter p (map f (take i hs))) ++ l) (one_value p (f (get_or hs i d)))

-- The next field has the name.
pub tells_named : {A : Type 0} (name : List ℕ) (f : A → Pair) (hs : List A) (i : ℕ) (d : A) (new : Named)
    → i < length hs → is_named name (f (get_or hs i d)) ≡ true
    → IsFoundIn (values_named name (map f (take i hs)) ++ (f (get_or hs i d)).1 ∷ []) new
    → IsFoundIn (values_named name (map f (take (i + 1) hs))) new
tells_named name f hs i d new h e t =
    subst (λ (l : List (List ℕ)). IsFoundIn l new) (sym (values_next name f hs i d h
    ∙ ap (λ b. values_named name (map f (take i hs)) ++ cond b ((f (get_or hs i d)).1 ∷ []) []) e)) t

-- The next field has another name.
pub tells_other : {A : Type 0} (name : List ℕ) (f : A → Pair) (hs : List A) (i : ℕ) (d : A) (found : Named)
    → i < length hs → is_named name (f (get_or hs i d)) ≡ false
    → IsFoundIn (values_named name (map f (take i hs))) found
    → IsFoundIn (values_named name (map f (take (i + 1) hs))) found
tells_other name f hs i d found h e t =
    subst (λ (l : List (List ℕ)). IsFoundIn l found) (sym (values_next name f hs i d h
    ∙ ap (λ b. values_named name (map f (take i hs)) ++ cond b ((f (get_or hs i d)).1 ∷ []) []) e ∙ append-nil _)) t

pub tells_none : (name : List ℕ) → values_named name [] ≡ []
unfolding values_named
tells_none name = refl

-- One more digit, and no more than one past the limit.
pub capped_next : (text : List ℕ) (i old cap : ℕ)
    → i < length text → IsInRange 48 57 (get_or text i 0) → old ≡ min (digits_value 10 (take i text)) cap
    → min (old * 10 + (get_or text i 0 - 48)) cap ≡ min (digits_value 10 (take (i + 1) text)) cap
capped_next text i old cap h digit e =
    let more = digits_value_more 10 text i h in
    let value = digit_value_digit (get_or text i 0) digit in
    omega arith

any_of_map : {A B : Type 0} (p : B → Bool) (f : A → B) (xs : List A)
    → list_any p (map f xs) ≡ list_any (λ x. p (f x)) xs
any_of_map p f [] = refl
any_of_map p f (x ∷ xs) = ap (λ b. p (f x) || b) (any_of_map p f xs)

-- This holds of one field.
pub any_at : {A B : Type 0} (p : B → Bool) (f : A → B) (hs : List A) (i : ℕ) (d : A)
    → i < length hs → p (f (get_or hs i d)) ≡ true → list_any p (map f hs) ≡ true
any_at p f hs i d h e = any_of_map p f hs ∙ list_any_at (λ x. p (f x)) hs i d h e

-- It holds of none.
pub any_none : {A B : Type 0} (p : B → Bool) (f : A → B) (hs : List A) (i : ℕ)
    → length hs ≤ i → list_any (λ x. p (f x)) (take i hs) ≡ false → list_any p (map f hs) ≡ false
any_none p f hs i h none = any_of_map p f hs ∙ ap (list_any (λ x. p (f x))) (sym (take_all i hs h)) ∙ none

-- One field says that the client waits.
pub expects_at : {A : Type 0} (f : A → Pair) (hs : List A) (i : ℕ) (d : A)
    → i < length hs → is_expectation (f (get_or hs i d)) ≡ true → expects_continue (map f hs) ≡ true
unfolding expects_continue
expects_at f hs i d h e = any_at is_expectation f hs i d h e

-- None of the fields says so.
pub expects_none : {A : Type 0} (f : A → Pair) (hs : List A) (i : ℕ)
    → length hs ≤ i → list_any (λ x. is_expectation (f x)) (take i hs) ≡ false → expects_continue (map f hs) ≡ false
unfolding expects_continue
expects_none f hs i h none = any_none is_expectation f hs i h none
