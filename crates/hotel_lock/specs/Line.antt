-- The lines of an audit file: each a note, or the first cause why it can't be read.
use Rattle.std.specs.Prelude.{ℕ, List, ◌==◌, length, codes, if◌then◌else◌, Option, Some, None, Result, Ok, Err}
use Rattle.std.specs.Option.{ok_or}
use Rattle.std.specs.Str.{bytes_eq}
use Rattle.keycard_rules.specs.{Note.Note, Numerals.number_up_to, Numerals.read_code, declared.card.Link.Link}
use Rattle.keycard_rules.specs.{declared.note.Act.Act}
use Rattle.keycard_rules.specs.declared.note.Act.TheVariants.{Entered, Left, Recoded}
use Rattle.keycard_rules.specs.Results.{◌>>=◌}
use Rattle.keycard_rules.specs.declared.numbers.TheConstants.{LAST_FIT, LAST_NUMBER, LAST_ROOM}
use Rattle.hotel_nights.specs.Moments.{note_from, read_moment}
use Rattle.hotel_lock.specs.{declared.line.Cause.Cause, declared.line.Happening.Happening}
use Rattle.hotel_lock.specs.declared.line.Cause.TheVariants.{FieldCount, BadRoom, BadFit, BadCount, BadKind, BadCard}
use Rattle.hotel_lock.specs.declared.line.Cause.TheVariants.{BadOld, BadNew, BadMoment}
use Rattle.hotel_lock.specs.{declared.line.Happening.TheVariants.In, declared.line.Happening.TheVariants.Out}
use Rattle.hotel_lock.specs.{declared.line.Happening.TheVariants.Recode, declared.line.Line.Line}
use Rattle.hotel_lock.specs.declared.line.Line.TheVariants as line
use Rattle.hotel_lock.specs.{declared.header.Columns.Columns, Fields.FieldTexts, Fields.fields_under}

-- the number of a card
abbrev pub card_in : List ℕ → Result ℕ Cause
card_in text = ok_or (number_up_to LAST_NUMBER text) BadCard

-- what the kind and the card say: `in` and `out` are of a card, `recode` of none
abbrev pub happening : List ℕ → List ℕ → Result Happening Cause
happening kind card =
    if bytes_eq kind (codes "in") then (do
      number ← card_in card
      Ok (In number))
    else if bytes_eq kind (codes "out") then (do
      number ← card_in card
      Ok (Out number))
    else if bytes_eq kind (codes "recode") then (if length card == 0 then Ok Recode else Err BadCard)
    else Err BadKind

-- what happened at the lock: a card came in or went out by its link, or the lock was recoded from the old code to the
-- new one
abbrev pub act_of : Happening → Link → Act
act_of (In card) link = Entered card link
act_of (Out card) link = Left card link
act_of Recode link = Recoded link.old_code link.new_code

-- the note of the fields, each read in its turn
abbrev pub note_of : FieldTexts → Result Note Cause
note_of fields = do
  room ← ok_or (number_up_to LAST_ROOM fields.room) BadRoom
  fit ← ok_or (number_up_to LAST_FIT fields.fit) BadFit
  count ← ok_or (number_up_to LAST_NUMBER fields.count) BadCount
  what ← happening fields.kind fields.card
  old ← ok_or (read_code fields.old_code) BadOld
  new ← ok_or (read_code fields.new_code) BadNew
  moment ← ok_or (read_moment fields.moment) BadMoment
  Ok (note_from room fit count (act_of what (record { old_code = old; new_code = new })) moment)

-- the line of what was read
abbrev pub line_of : Result Note Cause → Line
line_of (Ok note) = line.Note note
line_of (Err cause) = line.Unread cause

-- the line of the fields, where there are as many as columns
abbrev pub line_with : Option FieldTexts → Line
line_with None = line.Unread FieldCount
line_with (Some fields) = line_of (note_of fields)

-- the line that a record under these columns is
abbrev pub read_line : Columns → List (List ℕ) → Line
read_line columns record_fields = line_with (fields_under columns record_fields)
