-- What the field lines of a head say of the body.
use Rattle.std.specs.Prelude.{◌≡◌, ℕ, ◌<◌, Bool, ◌&&◌, List, [], ◌∷◌, length, map, filter, if◌then◌else◌}
use Rattle.std.specs.Prelude.{nat_lt, codes, Result, Ok, Err}
use Rattle.std.specs.List.{list_all, list_any}
use Rattle.std.specs.Char.{is_ascii_digit}
use Rattle.std.specs.Str.{str_eq_ignore_ascii_case}
use Rattle.std.specs.Str.Parse.{digits_value}
use Rattle.hotel_http.specs.{declared.rejection.Rejection.Rejection, declared.fields.Named.Named}
use Rattle.hotel_http.specs.declared.rejection.Rejection.TheVariants.{BadRequest, BodyTooLarge, NotImplemented}
use Rattle.hotel_http.specs.declared.fields.Named.TheVariants.{Absent, Once, Often}
use Rattle.hotel_lock.specs.declared.audit_file.TheConstants.{AUDIT_BYTES}

-- a name and a value
abbrev pub Pair : Type 0
Pair = List ℕ × List ℕ

-- the field has this name, in any case of its letters
abbrev pub is_named : List ℕ → Pair → Bool
is_named name field = str_eq_ignore_ascii_case field.0 name

-- the values of the fields of this name, in order
unfoldable pub values_named : List ℕ → List Pair → List (List ℕ)
values_named name fields = map (λ field. field.1) (filter (is_named name) fields)

-- How often a field stands is told, and its value where it stands once.
abbrev pub IsFoundIn : List (List ℕ) → Named → Type 0
IsFoundIn values Absent = values ≡ []
IsFoundIn values (Once value) = values ≡ value.now ∷ []
IsFoundIn values Often = 1 < length values

-- one or more decimal digits
abbrev pub is_number : List ℕ → Bool
is_number text = nat_lt 0 (length text) && list_all is_ascii_digit text

-- the length, where a body may be so long: as an audit file
abbrev pub within_limit : ℕ → Result ℕ Rejection
within_limit length = if nat_lt AUDIT_BYTES length then Err BodyTooLarge else Ok length

-- the length that a value says
abbrev pub length_said : List ℕ → Result ℕ Rejection
length_said text = if is_number text then within_limit (digits_value 10 text) else Err BadRequest

-- the length of the body by the values of Content-Length
abbrev pub body_length : List (List ℕ) → Result ℕ Rejection
body_length [] = Ok 0
body_length (value ∷ []) = length_said value
body_length (value ∷ other ∷ values) = Err BadRequest

-- the length, where the body isn't coded for its transfer
abbrev pub plain_length : List (List ℕ) → List (List ℕ) → Result ℕ Rejection
plain_length [] lengths = body_length lengths
plain_length (coding ∷ codings) lengths = Err NotImplemented

-- The length of the body, or the first rejection: by Transfer-Encoding, then Content-Length.
unfoldable pub framing : List Pair → Result ℕ Rejection
framing fields =
    plain_length (values_named (codes "transfer-encoding") fields) (values_named (codes "content-length") fields)

-- the field says that the client waits for a 100
abbrev pub is_expectation : Pair → Bool
is_expectation field = is_named (codes "expect") field && str_eq_ignore_ascii_case field.1 (codes "100-continue")

-- the client waits for a 100
unfoldable pub expects_continue : List Pair → Bool
expects_continue fields = list_any is_expectation fields
