-- What the books write of an entry says that entry, and how its row is stored.
use Rattle.std.proofs.Common.{◌≡◌, ◌==◌, refl, sym, ap, ap₂, ◌∙◌, List, [], ◌∷◌, ℕ, ℤ, true, false, Bool, Option, None}
use Rattle.std.proofs.Common.{Some, pos}
use Rattle.sqlite_value.specs.declared.value.Value.TheVariants.{Null, Int, Text}
use Rattle.sqlite.specs.Order.{Row, column}
use Rattle.sqlite.specs.Values.{bound_value}
use Rattle.keycard_rules.specs.declared.card.Card.{Card}
use Rattle.keycard_rules.specs.declared.note.Act.{Act}
use Rattle.keycard_rules.specs.declared.note.Act.TheVariants.{Entered, Left, Recoded}
use Rattle.keycard_rules.specs.Note.{Note}
use Rattle.hotel_nights.specs.declared.stay.Stay.{Stay}
use Rattle.hotel_nights.specs.declared.stay.StayState.{StayState}
use Rattle.hotel_nights.specs.declared.stay.StayState.TheVariants.{Booked, InHouse, Done, Cancelled}
use Rattle.hotel_model.specs.declared.rows.RoomRow.{RoomRow}
use Rattle.hotel_model.specs.declared.rows.CodeRow.{CodeRow}
use Rattle.hotel_model.specs.declared.rows.FitRow.{FitRow}
use Rattle.hotel_model.specs.Stays.{room_of_state}
use Rattle.hotel_rows.specs.Stored.{state_of, act_of}
use Rattle.sqlite_rules.specs.Cast.{cast_row}
use Rattle.hotel_statements.specs.Values.{option_of, int, maybe_int}
use Rattle.hotel_statements.specs.Columns.{meta_columns, meta_of, meta_written, bit_of, room_columns, room_of}
use Rattle.hotel_statements.specs.Columns.{room_written, state_number, stay_columns, stay_of, stay_written}
use Rattle.hotel_statements.specs.Columns.{code_columns, code_of, code_written, card_columns, card_of, card_written}
use Rattle.hotel_statements.specs.Columns.{act_number, act_card, act_first, act_second, note_columns, note_of}
use Rattle.hotel_statements.specs.Columns.{note_written}
use Rattle.hotel_statements.specs.Tables.{IsWrittenAs}
use Rattle.hotel_statements.specs.Steps.{bare_room}
use Rattle.hotel_statements.specs.Trees.{meta_tree, room_tree, stay_tree}
use Rattle.hotel_statements.specs.Schema.{meta_table, room_table, stay_table}
use Rattle.hotel_statements.proofs.Writing.{cast_null, cast_int, cast_maybe}
use Rattle.hotel_statements.proofs.Made.Writes.{at_place}

maybe_reads : (o : Option ℕ) → option_of (maybe_int o) ≡ o
maybe_reads None = refl
maybe_reads (Some n) = refl

-- a number that may be null is bound as it is
pub bound_maybe : (o : Option ℕ) → bound_value (maybe_int o) ≡ maybe_int o
bound_maybe None = refl
bound_maybe (Some n) = refl

bit_reads : (b : Bool) → (bit_of b == 1) ≡ b
bit_reads true = refl
bit_reads false = refl

state_reads : (s : StayState) → state_of (state_number s) (option_of (maybe_int (room_of_state s))) ≡ s
state_reads Booked = refl
state_reads (InHouse room) = refl
state_reads Done = refl
state_reads Cancelled = refl

act_reads : (a : Act) → act_of (act_number a) (option_of (maybe_int (act_card a))) (act_first a) (act_second a) ≡ a
act_reads (Entered card link) = refl
act_reads (Left card link) = refl
act_reads (Recoded from to) = refl

-- a row whose columns are written, read back
good_from : {X : Type 0} (columns : Row → Row) (of : Row → X) (written : X → Row) (r : Row) (e : X)
    → columns r ≡ written e → of (written e) ≡ e → IsWrittenAs columns of written r
good_from columns of written r e is reads = is ∙ ap written (sym (ap of is ∙ reads))

-- ---- how the rows of the tables with a number for a key are stored

abbrev pub meta_stored : ℕ × (ℕ × Option ℕ) → Row
meta_stored e = int e.0 ∷ Null ∷ int e.1.0 ∷ maybe_int e.1.1 ∷ []

abbrev pub room_stored : RoomRow → Row
room_stored r = int r.room ∷ Null ∷ Text r.kind ∷ int r.lock_place ∷ int r.codes ∷ int (bit_of r.secured)
    ∷ maybe_int r.party ∷ int r.notes ∷ []

abbrev pub stay_stored : Stay → Row
stay_stored s = int s.party ∷ Null ∷ Text s.guest ∷ Text s.kind ∷ int s.arrive ∷ int s.depart
    ∷ int (state_number s.state) ∷ maybe_int (room_of_state s.state) ∷ []

abbrev pub code_stored : ℕ → CodeRow → Row
code_stored code c = int code ∷ Null ∷ int c.room ∷ int c.place ∷ []

abbrev pub card_stored : Card → Row
card_stored c = int c.number ∷ Null ∷ int c.party ∷ int c.link.old_code ∷ int c.link.new_code ∷ []

pub meta_reads : (e : ℕ × (ℕ × Option ℕ)) → meta_of (meta_columns (meta_stored e)) ≡ e
meta_reads e = ap (λ day. (e.0, (e.1.0, day))) (maybe_reads e.1.1)

pub room_reads : (r : RoomRow) → room_of (room_columns (room_stored r)) ≡ (r.room, bare_room r)
room_reads r = ap₂ (λ (s : Bool) (p : Option ℕ). (r.room, record (bare_room r) { secured = s; party = p }))
    (bit_reads r.secured) (maybe_reads r.party)

pub stay_reads : (s : Stay) → stay_of (stay_columns (stay_stored s)) ≡ (s.party, s)
stay_reads s = ap (λ (state : StayState). (s.party, record s { state = state })) (state_reads s.state)

pub meta_good : (e : ℕ × (ℕ × Option ℕ)) → IsWrittenAs meta_columns meta_of meta_written (meta_stored e)
meta_good e = good_from meta_columns meta_of meta_written (meta_stored e) e refl (meta_reads e)

pub room_good : (r : RoomRow) → IsWrittenAs room_columns room_of room_written (room_stored r)
room_good r = good_from room_columns room_of room_written (room_stored r) (r.room, bare_room r) refl (room_reads r)

pub stay_good : (s : Stay) → IsWrittenAs stay_columns stay_of stay_written (stay_stored s)
stay_good s = good_from stay_columns stay_of stay_written (stay_stored s) (s.party, s) refl (stay_reads s)

-- ---- a row that is stored is as its columns are declared

pub meta_cast : (e : ℕ × (ℕ × Option ℕ)) → cast_row (at_place meta_tree meta_table) (meta_stored e) ≡ meta_stored e
meta_cast e = rw (cast_null, cast_int (pos e.0), cast_int (pos e.1.0), cast_maybe e.1.1) refl

pub room_cast : (r : RoomRow) → cast_row (at_place room_tree room_table) (room_stored r) ≡ room_stored r
room_cast r = rw (
  cast_null,
  cast_int (pos r.room),
  cast_int (pos r.lock_place),
  cast_int (pos r.codes),
  cast_int (pos (bit_of r.secured)),
  cast_maybe r.party,
  cast_int (pos r.notes),
) refl

pub stay_cast : (s : Stay) → cast_row (at_place stay_tree stay_table) (stay_stored s) ≡ stay_stored s
stay_cast s = rw (
  cast_null,
  cast_int (pos s.party),
  cast_int (pos s.arrive),
  cast_int (pos s.depart),
  cast_int (pos (state_number s.state)),
  cast_maybe (room_of_state s.state),
) refl

-- ---- the number of a row is its key

pub meta_numbered : (r : Row) → IsWrittenAs meta_columns meta_of meta_written r
    → column r 0 ≡ int (meta_of (meta_columns r)).0
meta_numbered r good = ap (λ v. column v 0) good

pub room_numbered : (r : Row) → IsWrittenAs room_columns room_of room_written r
    → column r 0 ≡ int (room_of (room_columns r)).0
room_numbered r good = ap (λ v. column v 0) good

pub stay_numbered : (r : Row) → IsWrittenAs stay_columns stay_of stay_written r
    → column r 0 ≡ int (stay_of (stay_columns r)).0
stay_numbered r good = ap (λ v. column v 0) good

pub code_numbered : (r : Row) → IsWrittenAs code_columns code_of code_written r
    → column r 0 ≡ int (code_of (code_columns r)).0
code_numbered r good = ap (λ v. column v 0) good

pub card_numbered : (r : Row) → IsWrittenAs card_columns card_of card_written r
    → column r 0 ≡ int (card_of (card_columns r)).0
card_numbered r good = ap (λ v. column v 0) good

-- ---- the tables whose rows have a number of their own

abbrev pub kind_stored : ℤ → List ℕ → Row
kind_stored id kind = Int id ∷ Text kind ∷ []

abbrev pub inside_stored : ℤ → ℕ × ℕ → Row
inside_stored id e = Int id ∷ int e.0 ∷ int e.1 ∷ []

abbrev pub note_stored : ℤ → ℕ → Note → Row
note_stored id number n =
    Int id ∷ int n.room ∷ int number ∷ int (act_number n.act) ∷ maybe_int (act_card n.act) ∷ int (act_first n.act)
    ∷ int (act_second n.act) ∷ int n.day ∷ int n.second ∷ []

abbrev pub fit_stored : ℤ → FitRow → Row
fit_stored id f = Int id ∷ int f.room ∷ int f.fit ∷ int f.place ∷ int f.before ∷ []

-- a note under its number, as its table has it
abbrev pub bare_note : ℕ → Note → Note
bare_note number n = record n { fit = 0; count = number }

pub note_reads : (id : ℤ) (number : ℕ) (n : Note) → note_of (note_columns (note_stored id number n))
    ≡ ((n.room, number), bare_note number n)
note_reads id number n = ap (λ (act : Act). ((n.room, number), record (bare_note number n) { act = act }))
    (act_reads n.act)

pub note_good : (id : ℤ) (number : ℕ) (n : Note) → IsWrittenAs note_columns note_of note_written
    (note_stored id number n)
note_good id number n = good_from note_columns note_of note_written (note_stored id number n)
    ((n.room, number), bare_note number n) refl (note_reads id number n)
