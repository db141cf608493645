-- The fields of a name, which an iterator gives one after the other.
use Rattle.std.proofs.Common.{◌≡◌, ℕ, ◌<◌, List, [], ◌∷◌, map, filter, length, ap, sym, refl, cond, true, false, arith}
use Rattle.std.proofs.Common.{Option, Some, None, ◌∙◌, Bor}
use Rattle.std.proofs.lemmas.Iterator.{YieldsList}
use Rattle.std.proofs.lemmas.Iterator.Consumers.{YieldsList-turn, YieldsList-end}
use Rattle.std.specs.Option.{option_map}
use Rattle.std.specs.Str.{bytes_eq}
use Rattle.std.specs.Cow.{cow_str_bytes}
use Rattle.hotel_http.specs.{Fields.Pair, declared.form.Field.Field, Form.field_read, Form.texts_named, Form.only}

-- the fields of this name
abbrev pub fields_named : List ℕ → List Field → List Field
fields_named name fields = filter (λ field. bytes_eq (cow_str_bytes field.name) name) fields

abbrev pub text_of : Field → List ℕ
text_of field = cow_str_bytes field.text

texts_read : (name : List ℕ) (fields : List Field)
    → texts_named name (map field_read fields) ≡ map text_of (fields_named name fields)
unfolding texts_named
texts_read name [] = refl
texts_read name (field ∷ fields) =
    let left = filter (λ (pair : Pair). bytes_eq pair.0 name) (map field_read fields) in
    let named = fields_named name fields in
    elim (bytes_eq (cow_str_bytes field.name) name) as (λ b. map (λ (pair : Pair). pair.1)
    (cond b (field_read field ∷ left) left) ≡ map text_of (cond b (field ∷ named) named)) [
      | true ↦ ap (λ (l : List (List ℕ)). text_of field ∷ l) (texts_read name fields)
      | false ↦ texts_read name fields
    ]

-- the first of two, where the second isn't there
abbrev pub alone : {A : Type 0} → Option A → Option A → Option A
alone (Some x) None = Some x
alone (Some x) (Some y) = None
alone None second = None

none_of_more : {A B : Type 0} (f : A → B) (all : List A) → 1 < length all → only (map f all) ≡ None
none_of_more f [] more = absurd (omega (arith, more))
none_of_more f (x ∷ []) more = absurd (omega (arith, more))
none_of_more f (x ∷ y ∷ all) more = refl

-- What an iterator gives alone is the only one of its list.
only_given : {S A B C : Type 0} {steps : S → Option A → S → Type 0} {v : A → B} {s t u : S} {all : List B}
    (f : B → C) → YieldsList steps v s all → (first second : Option A) → steps s first t → steps t second u
    → only (map f all) ≡ option_map (λ x. f (v x)) (alone first second)
only_given f road None second one two = ap (λ l. only (map f l)) (sym (YieldsList-end road [] _ refl _ _ refl one).0)
only_given f road (Some x) None one two =
    ap (λ l. only (map f l)) (sym (YieldsList-end road (x ∷ []) _ (_, one, refl) _ _ refl two).0)
only_given {all = all} f road (Some x) (Some y) one two =
    none_of_more f all (YieldsList-turn road (x ∷ []) _ (_, one, refl) _ _ y refl two).0

-- The field that an iterator over those of a name gives alone has the text that stands once.
pub only_text : {S : Type 0} {steps : S → Option (Bor Field) → S → Type 0} {s t u : S} {form : List Pair}
    (name : List ℕ) (fields : List Field) → map field_read fields ≡ form
    → YieldsList steps (λ field. field.now) s (fields_named name fields)
    → {first second : Option (Bor Field)} → steps s first t → steps t second u
    → (found : Option (Bor Field)) → alone first second ≡ found
    → option_map (λ field. text_of field.now) found ≡ only (texts_named name form)
only_text name fields read road {first} {second} one two found is =
    ap (option_map (λ field. text_of field.now)) (sym is) ∙ sym (only_given text_of road first second one two)
    ∙ ap only (sym (texts_read name fields) ∙ ap (texts_named name) read)
