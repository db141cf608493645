-- The fields of a form.
use Rattle.std.specs.Prelude.{ℕ, List, [], ◌∷◌, map, filter, Option, Some, None}
use Rattle.std.specs.Cow.{cow_str_bytes}
use Rattle.std.specs.Str.{bytes_eq}
use Rattle.std.specs.Str.Lossy.{utf8_lossy}
use Rattle.form_urlencoded.specs.Form.{raw_pairs, decode}
use Rattle.hotel_http.specs.{Fields.Pair, declared.form.Field.Field}

-- the texts that a name and a value of a form stand for
abbrev pub decoded : Pair → Pair
decoded (name, value) = (utf8_lossy (decode name), utf8_lossy (decode value))

-- the fields of a form, in order
abbrev pub form_fields : List ℕ → List Pair
form_fields body = map decoded (raw_pairs body)

-- the name and the text of a field that was read
abbrev pub field_read : Field → Pair
field_read field = (cow_str_bytes field.name, cow_str_bytes field.text)

-- the texts of the fields of this name, in order
unfoldable pub texts_named : List ℕ → List Pair → List (List ℕ)
texts_named name fields = map (λ field. field.1) (filter (λ field. bytes_eq field.0 name) fields)

-- the only one
abbrev pub only : {A : Type 0} → List A → Option A
only [] = None
only (text ∷ []) = Some text
only (text ∷ other ∷ texts) = None
