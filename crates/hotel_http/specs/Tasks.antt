-- What a route asks for, by its path and the form behind the head.
use Rattle.std.specs.Prelude.{ℕ, ◌+◌, ◌-◌, ◌==◌, nat_lt, Bool, false, List, [], ◌∷◌, ◌++◌, length}
use Rattle.std.specs.Prelude.{take, drop, codes, Option, Some, option_map}
use Rattle.std.specs.List.{position_or_len}
use Rattle.hotel_nights.specs.Days.{◌>>=◌}
use Rattle.hotel_asks.specs.declared.asked.Ask.{Ask}
use Rattle.hotel_asks.specs.{Asks.accepted, Names.names_of, declared.verbs.Verb.Verb}
use Rattle.hotel_asks.specs.declared.verbs.Verb.TheVariants.{Begin, AddKind, AddRoom, Reserve, CheckIn, Transfer}
use Rattle.hotel_http.specs.{Fields.Pair, Form.form_fields, Form.texts_named, Form.only}
use Rattle.hotel_http.specs.{declared.routes.Target.Target, declared.tasks.Task.Task}
use Rattle.hotel_http.specs.declared.routes.Target.TheVariants as target
use Rattle.hotel_http.specs.declared.tasks.Task.TheVariants as task

-- what stands behind the first slash
abbrev pub after_slash : List ℕ → List ℕ
after_slash path = drop (position_or_len (λ b. b == 47) path + 1) path

-- what stands before it
abbrev pub before_slash : List ℕ → List ℕ
before_slash path = take (position_or_len (λ b. b == 47) path) path

-- what stands behind the first part of a path, as 101/chain of /rooms/101/chain
abbrev pub after_first : List ℕ → List ℕ
after_first path = after_slash (after_slash path)

-- the second part of a path, as 101 of /rooms/101/chain
abbrev pub second_part : List ℕ → List ℕ
second_part path = before_slash (after_first path)

-- the third part of a path, as 2 of /availability/2031-05-01/2
abbrev pub third_part : List ℕ → List ℕ
third_part path = before_slash (after_slash (after_first path))

-- The names of the form's fields that a verb's route has for its values, in their order.
abbrev pub fields_of : Verb → List (List ℕ)
fields_of Begin = codes "day" ∷ []
fields_of AddKind = codes "kind" ∷ []
fields_of AddRoom = codes "room" ∷ codes "kind" ∷ []
fields_of Reserve = codes "kind" ∷ codes "arrive" ∷ codes "nights" ∷ codes "guest" ∷ []
fields_of CheckIn = codes "room" ∷ []
fields_of Transfer = codes "room" ∷ []
fields_of _ = []

-- The texts of the values that are no fields of the form: the second part of the path, and the third, as far as the
-- verb has such values.
abbrev pub parts_of : Verb → List ℕ → List (List ℕ)
parts_of verb path = take (length (names_of verb) - length (fields_of verb)) (second_part path ∷ third_part path ∷ [])

-- The texts of a form's fields of these names, each of which stands once.
abbrev pub field_texts : List (List ℕ) → List Pair → Option (List (List ℕ))
field_texts [] form = Some []
field_texts (name ∷ names) form = do
  text ← only (texts_named name form)
  texts ← field_texts names form
  Some (text ∷ texts)

-- The texts of a verb's values, in their order: those from the path, if any, and then those of the form.
abbrev pub value_texts : Verb → List ℕ → List Pair → Option (List (List ℕ))
value_texts verb path form = option_map (λ texts. parts_of verb path ++ texts) (field_texts (fields_of verb) form)

-- What a verb asks for, its values from the path or the form; nothing where one is missing, stands twice or is refused.
abbrev pub ask_of_request : Verb → List ℕ → List ℕ → Option Ask
ask_of_request verb path body = do
  texts ← value_texts verb path (form_fields body)
  accepted verb texts

-- A value of the verb is a field of the form.
abbrev pub has_fields : Verb → Bool
has_fields verb = nat_lt 0 (length (fields_of verb))

-- What a route asks for, by its path and its body.
abbrev pub task_in : Target → List ℕ → List ℕ → Option Task
task_in (target.Asks verb) path body = option_map (λ given. task.Asks given) (ask_of_request verb path body)
task_in target.Audit path body = Some task.Audit

-- A form is read for the route.
abbrev pub reads_form : Target → Bool
reads_form (target.Asks verb) = has_fields verb
reads_form target.Audit = false
