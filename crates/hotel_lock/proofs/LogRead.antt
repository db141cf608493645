-- The text of a log, read as an audit file.
use Rattle.std.proofs.Common.{◌≡◌, ◌∙◌, ◌<◌, ℕ, List, [], ◌∷◌, ◌++◌, All, Some, Ok, Err}
use Rattle.std.proofs.Common.{arith, length, map, refl, sym, ap}
use Rattle.std.proofs.lemmas.Bool.{le-ltb}
use Rattle.std.proofs.lemmas.List.Elements.{All-head, All-tail}
use Rattle.std.specs.List.{concat}
use Rattle.csv.proofs.{OnLiterals.csv_on_literals, RoundTrip.read-write, RoundTrip.rows_text}
use Rattle.csv.specs.{Machine.Read, Machine.next_record, Reading.AreRecords, Reading.Reached, Reading.default_config}
use Rattle.csv.specs.{Reading.records, Reading.strip_bom, Writing.default_writer, Writing.fields_text}
use Rattle.csv.specs.{Writing.is_blank, Writing.row_text}
use Rattle.csv.specs.declared.parser.State.TheVariants as st
use Rattle.keycard_rules.specs.{Note.Note, Note.IsTimed, Numbers.IsNumberUpTo, Numerals.code_text, Numerals.read_code}
use Rattle.keycard_rules.specs.declared.code.TheConstants.{CODES}
use Rattle.keycard_rules.specs.declared.note.Act.{Act}
use Rattle.keycard_rules.specs.declared.note.Act.TheVariants as act
use Rattle.keycard_rules.specs.declared.numbers.TheConstants.{LAST_FIT, LAST_NUMBER, LAST_ROOM}
use Rattle.keycard_rules.proofs.NumeralLemmas.{numeral-fixed_text}
use Rattle.hotel_nights.proofs.MomentLemmas.{read_moment-text}
use Rattle.hotel_lock.specs.NoteLine.{audit_header, note_fields, note_line, notes_text}
use Rattle.hotel_lock.specs.{declared.header.Columns.TheVariants.WithFit, Header.column_names, Line.read_line}
use Rattle.hotel_lock.specs.AuditFile.{audit_lines, file_records, lines_of}
use Rattle.hotel_lock.specs.declared.audit_file.AuditFault.TheVariants.{NoHeader}
use Rattle.hotel_lock.specs.declared.audit_file.TheConstants.{AUDIT_BYTES}
use Rattle.hotel_lock.specs.declared.line.Line.TheVariants as line
use Rattle.hotel_lock.specs.ReadBack.{IsAct, IsNote, NotesReadBack}
use Rattle.hotel_lock.proofs.{NumbersRead.number_read, Records.AreRecords-records}

-- ---- each field is read as what it was written of

code_read : (code : ℕ) → code < CODES → read_code (code_text code) ≡ Some code
code_read code h = numeral-fixed_text 16 12 code (omega arith) (omega arith) (omega arith) h

fields_read : (room fit count : ℕ) (what : Act) (day second : ℕ) → IsNumberUpTo LAST_ROOM room
    → IsNumberUpTo LAST_FIT fit → IsNumberUpTo LAST_NUMBER count → IsAct what → IsTimed day second
    → read_line WithFit (note_fields (record {
      room = room;
      fit = fit;
      count = count;
      act = what;
      day = day;
      second = second;
    }))
    ≡ line.Note (record { room = room; fit = fit; count = count; act = what; day = day; second = second })
fields_read room fit count (act.Entered card link) day second r f c a t =
    rw (
      number_read 9999 room (omega arith) r,
      number_read 99 fit (omega arith) f,
      number_read 9999999 count (omega arith) c,
      number_read 9999999 card (omega arith) a.0,
      code_read link.old_code a.1.0,
      code_read link.new_code a.1.1,
      read_moment-text day second t.0 t.1,
    ) refl
fields_read room fit count (act.Left card link) day second r f c a t =
    rw (
      number_read 9999 room (omega arith) r,
      number_read 99 fit (omega arith) f,
      number_read 9999999 count (omega arith) c,
      number_read 9999999 card (omega arith) a.0,
      code_read link.old_code a.1.0,
      code_read link.new_code a.1.1,
      read_moment-text day second t.0 t.1,
    ) refl
fields_read room fit count (act.Recoded from to) day second r f c a t =
    rw (
      number_read 9999 room (omega arith) r,
      number_read 99 fit (omega arith) f,
      number_read 9999999 count (omega arith) c,
      code_read from a.0,
      code_read to a.1,
      read_moment-text day second t.0 t.1,
    ) refl

note_read : (note : Note) → IsNote note → read_line WithFit (note_fields note) ≡ line.Note note
note_read note n =
    fields_read note.room note.fit note.count note.act note.day note.second n.room n.fit n.count n.act n.timed

notes_read : (taken : List Note) → All IsNote taken
    → map (read_line WithFit) (map note_fields taken) ≡ map line.Note taken
notes_read [] all = refl
notes_read (note ∷ taken) all =
    ap (λ l. l ∷ map (read_line WithFit) (map note_fields taken)) (note_read note (All-head IsNote note taken all))
    ∙ ap (λ ls. line.Note note ∷ ls) (notes_read taken (All-tail IsNote note taken all))

-- ---- the text is read as the records of the header and the notes

lines_text : (taken : List Note) → concat (map note_line taken) ≡ rows_text (map note_fields taken)
unfolding rows_text
lines_text [] = refl
lines_text (note ∷ taken) = ap (λ text. note_line note ++ text) (lines_text taken)

header_text : row_text default_writer (column_names WithFit) ≡ audit_header
unfolding fields_text is_blank
header_text = refl

-- the records of the list
abbrev list_records : List Note → List (List (List ℕ))
list_records taken = column_names WithFit ∷ map note_fields taken

list_rows : (taken : List Note) → notes_text taken ≡ rows_text (list_records taken)
unfolding rows_text
list_rows taken = ap (λ text. text ++ concat (map note_line taken)) (sym header_text)
    ∙ ap (λ text. row_text default_writer (column_names WithFit) ++ text) (lines_text taken)

notes_reached : (taken : List Note) → Reached default_config st.StartRecord (rows_text (map note_fields taken))
    (map note_fields taken) st.StartRecord []
unfolding rows_text Reached
notes_reached [] = (refl, refl)
notes_reached (note ∷ taken) =
    let later = rows_text (map note_fields taken) in
    ((note_fields note, st.StartRecord, later), read-write (note_fields note) later, refl, notes_reached taken)

list_reached : (taken : List Note) → AreRecords default_config st.StartRecord (rows_text (list_records taken))
    (list_records taken)
unfolding rows_text Reached next_record
list_reached taken =
    let later = rows_text (map note_fields taken) in
    let header = column_names WithFit in
    let read : Read = (header, st.StartRecord, later) in
    (st.StartRecord, [], (read, read-write header later, refl, notes_reached taken), refl)

-- a list begins with no byte order mark
no_mark : (taken : List Note) → strip_bom (notes_text taken) ≡ notes_text taken
unfolding strip_bom
no_mark taken = refl

list_read : (taken : List Note) → file_records (notes_text taken) ≡ list_records taken
list_read taken = ap (records default_config) (no_mark taken ∙ list_rows taken)
    ∙ sym (AreRecords-records default_config (rows_text (list_records taken)) (list_records taken) (list_reached taken))

pub notes_read_back : NotesReadBack
notes_read_back taken all few =
    rw (le-ltb AUDIT_BYTES (length (notes_text taken)) few)
    (ap lines_of (list_read taken) ∙ ap Ok (notes_read taken all))

-- ---- what isn't there

-- A file of no byte has no header.
pub no_bytes : audit_lines [] ≡ Err NoHeader
unfolding csv_on_literals
no_bytes = refl
