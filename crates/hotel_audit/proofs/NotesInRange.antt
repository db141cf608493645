-- The notes that a file's lines are have their values in range.
use Rattle.std.proofs.Common.{◌≡◌, ◌≤◌, ℕ, Bool, true, false, List, [], ◌∷◌, ◌++◌, Option, Some, None, Result, Ok, Err}
use Rattle.std.proofs.Common.{refl, sym, ◌∙◌, subst, arith, map, option_and_then, ◌&&◌, ◌+◌, ◌*◌, ◌==◌, ◌||◌, nat_le}
use Rattle.std.proofs.Common.{nat_lt, if◌then◌else◌, slice_index, slice_range, length, All}
use Rattle.hotel_books.proofs.Names.{IsTimed, IsNumberUpTo, IsCommand}
use Rattle.hotel_model.proofs.OfTables.Tests.{and_true}
use Rattle.std.specs.Option.{ok_or}
use Rattle.std.proofs.lemmas.Bool.{leb-true}
use Rattle.std.proofs.lemmas.List.Elements.{All-cons, All-nil}
use Rattle.std.proofs.lemmas.Int.{ints}
use Rattle.keycard_rules.specs.declared.{card.Link.Link, note.Act.Act}
use Rattle.keycard_rules.specs.Numerals.{is_numeral, number_of, number_up_to, numeral, read_code}
use Rattle.hotel_nights.specs.Days.{Ymd, day_of_date, is_date, is_in_range, number_of_date, read_day, read_ymd}
use Rattle.hotel_nights.specs.Moments.{read_moment, read_time}
use Rattle.hotel_nights.proofs.DayLemmas.{count-high, first_count}
use Rattle.hotel_model.specs.declared.command.Command.TheVariants as command
use Rattle.hotel_model.specs.Ranges.{IsCount, IsFit}
use Rattle.hotel_lock.specs.{declared.audit_file.AuditFault.AuditFault, declared.line.Cause.Cause}
use Rattle.hotel_lock.specs.declared.audit_file.AuditFault.TheVariants.{TooLarge, WrongHeader}
use Rattle.hotel_lock.specs.declared.line.Cause.TheVariants.{BadRoom, BadFit, BadCount, BadOld, BadNew, BadMoment}
use Rattle.hotel_lock.specs.{declared.line.Line.Line, AuditFile.audit_lines}
use Rattle.hotel_lock.specs.AuditFile.{file_records, lines_of, lines_under}
use Rattle.hotel_lock.specs.declared.line.Line.TheVariants as line
use Rattle.hotel_lock.specs.{Fields.FieldTexts, Fields.fields_under, Header.columns_of}
use Rattle.hotel_audit.specs.Import.{commands_of}
use Rattle.keycard_rules.specs.Results.{◌>>=◌}
use Rattle.hotel_lock.specs.Line.{act_of, happening, line_of, line_with, read_line}
use Rattle.hotel_lock.specs.declared.audit_file.TheConstants.{AUDIT_BYTES}

-- where there is a value, the test held, and it is this value
given : {A : Type 0} (b : Bool) (a c : A) → (if b then Some a else None) ≡ Some c → (b ≡ true) × (a ≡ c)
given true a c e = (refl, cc e)
given false a c e = cc e

-- a number that was read is from 1 up to the greatest
number_in_range : (most : ℕ) (text : List ℕ) (n : ℕ) → number_up_to most text ≡ Some n → IsNumberUpTo most n
number_in_range most text n e =
    let value = number_of 10 text in
    let g = given (is_numeral 10 9 text && nat_le 1 value && nat_le value most) value n e in
    let high = and_true (is_numeral 10 9 text && nat_le 1 value) (nat_le value most) g.0 in
    let low = and_true (is_numeral 10 9 text) (nat_le 1 value) high.0 in
    (subst (λ z. 1 ≤ z) g.1 (leb-true 1 value low.1), subst (λ z. z ≤ most) g.1 (leb-true value most high.1))

-- a date that is one is no later than 2099-12-31
date_in_range : (a : Ymd) (d : ℕ) → day_of_date a ≡ Some d → d ≤ 36524
date_in_range a d e =
    let g = given (is_in_range a && is_date a) (number_of_date a) d e in
    let both = and_true (is_in_range a) (is_date a) g.0 in
    let years = and_true (nat_le 2000 a.year) (nat_le a.year 2099) both.0 in
    let days = and_true _ _ both.1 in
    let first = and_true _ (nat_le 1 a.day) days.0 in
    let months = and_true (nat_le 1 a.month) (nat_le a.month 12) first.0 in
    let year : a.year ≤ 2099 = leb-true _ _ years.1 in
    let high = count-high a.year a.month a.day year (
      (grind (arith, ints), grind (arith, ints)),
      (leb-true _ _ months.0, leb-true _ _ months.1),
      (leb-true _ _ first.1, leb-true _ _ days.1),
    ) in
    omega (arith, high, first_count, g.1)

day_by : (o : Option Ymd) (d : ℕ) → option_and_then day_of_date o ≡ Some d → d ≤ 36524
day_by (Some a) d e = date_in_range a d e
day_by None d e = cc e

-- a day that was read is one of the calendar's
day_read_in_range : (text : List ℕ) (d : ℕ) → read_day text ≡ Some d → d ≤ 36524
day_read_in_range text d e = day_by (read_ymd text) d e

-- the second of three parts
abbrev second_of : ℕ → ℕ → ℕ → Option ℕ
second_of h m s = if nat_le h 23 && nat_le m 59 && nat_le s 59 then Some (h * 3600 + m * 60 + s) else None

parts_in_range : (h m s t : ℕ) → second_of h m s ≡ Some t → t ≤ 86399
parts_in_range h m s t e =
    let g = given (nat_le h 23 && nat_le m 59 && nat_le s 59) (h * 3600 + m * 60 + s) t e in
    let last = and_true (nat_le h 23 && nat_le m 59) (nat_le s 59) g.0 in
    let first = and_true (nat_le h 23) (nat_le m 59) last.0 in
    omega (arith, leb-true h 23 first.0, leb-true m 59 first.1, leb-true s 59 last.1, g.1)

three_by : (h m s : Option ℕ) (t : ℕ)
    → option_and_then (λ x. option_and_then (λ y. option_and_then (λ z. second_of x y z) s) m) h ≡ Some t → t ≤ 86399
three_by (Some h) (Some m) (Some s) t e = parts_in_range h m s t e
three_by _ _ _ t e = cc e

time_by : (b : Bool) (h m s : Option ℕ) (t : ℕ)
    → (if b then option_and_then (λ x. option_and_then (λ y. option_and_then (λ z. second_of x y z) s) m) h else None)
    ≡ Some t → t ≤ 86399
time_by true h m s t e = three_by h m s t e
time_by false h m s t e = cc e

-- a time that was read is one of a day
time_in_range : (text : List ℕ) (t : ℕ) → read_time text ≡ Some t → t ≤ 86399
time_in_range text t e =
    time_by ((length text == 8) && (slice_index text 2 == 58) && (slice_index text 5 == 58)) (numeral 10 2
    (slice_range text 0 2)) (numeral 10 2 (slice_range text 3 5)) (numeral 10 2 (slice_range text 6 8)) t e

both_by : (d s : Option ℕ) (m : ℕ × ℕ) → ((n : ℕ) → d ≡ Some n → n ≤ 36524) → ((n : ℕ) → s ≡ Some n → n ≤ 86399)
    → option_and_then (λ x. option_and_then (λ y. Some (x, y)) s) d ≡ Some m → IsTimed m.0 m.1
both_by (Some d) (Some s) m f g e =
    let same : (d, s) ≡ m = cc e in subst (λ (z : ℕ × ℕ). IsTimed z.0 z.1) same (f d refl, g s refl)
both_by (Some d) None m f g e = cc e
both_by None s m f g e = cc e

moment_by : (b : Bool) (d s : Option ℕ) (m : ℕ × ℕ)
    → ((n : ℕ) → d ≡ Some n → n ≤ 36524) → ((n : ℕ) → s ≡ Some n → n ≤ 86399)
    → (if b then option_and_then (λ x. option_and_then (λ y. Some (x, y)) s) d else None) ≡ Some m → IsTimed m.0 m.1
moment_by true d s m f g e = both_by d s m f g e
moment_by false d s m f g e = cc e

-- a moment that was read is a day of the calendar's and a second of a day's
moment_in_range : (text : List ℕ) (m : ℕ × ℕ) → read_moment text ≡ Some m → IsTimed m.0 m.1
moment_in_range text m e =
    moment_by ((length text == 19) && ((slice_index text 10 == 84) || (slice_index text 10 == 32)))
    (read_day (slice_range text 0 10)) (read_time (slice_range text 11 19)) m
    (day_read_in_range (slice_range text 0 10)) (time_in_range (slice_range text 11 19)) e

-- the line's note has its values in range
abbrev pub IsLineInRange : Line → Type 0
IsLineInRange (line.Note note) = IsCommand (command.Reported note)
IsLineInRange (line.Unread cause) = Unit {0}

-- the line of the values, where they were read, with the act of what happened and of the codes
abbrev line_by : {H : Type 0} → (H → Link → Act) → Option ℕ → Option ℕ → Option ℕ → Result H Cause → Option ℕ → Option ℕ
    → Option (ℕ × ℕ) → Line
line_by act_by room fit count what old new moment =
    line_of (do
      r ← ok_or room BadRoom
      f ← ok_or fit BadFit
      c ← ok_or count BadCount
      w ← what
      o ← ok_or old BadOld
      n ← ok_or new BadNew
      m ← ok_or moment BadMoment
      Ok (record {
        room = r;
        fit = f;
        count = c;
        act = act_by w (record { old_code = o; new_code = n });
        day = m.0;
        second = m.1;
      }))

line_ranges : {H : Type 0} (act_by : H → Link → Act) (room fit count : Option ℕ) (what : Result H Cause)
    (old new : Option ℕ) (moment : Option (ℕ × ℕ))
    → ((x : ℕ) → fit ≡ Some x → IsFit x) → ((c : ℕ) → count ≡ Some c → IsCount c)
    → ((m : ℕ × ℕ) → moment ≡ Some m → IsTimed m.0 m.1)
    → IsLineInRange (line_by act_by room fit count what old new moment)
line_ranges act_by (Some r) (Some x) (Some c) (Ok w) (Some o) (Some n) (Some m) e f g = (f c refl, g m refl, e x refl)
line_ranges act_by _ _ _ _ _ _ _ e f g = tt

fields_in_range : (fields : Option FieldTexts) → IsLineInRange (line_with fields)
fields_in_range None = tt
fields_in_range (Some fields) =
    line_ranges act_of (number_up_to 9999 fields.room) (number_up_to 99 fields.fit)
    (number_up_to 9999999 fields.count) (happening fields.kind fields.card) (read_code fields.old_code)
    (read_code fields.new_code) (read_moment fields.moment)
    (number_in_range 99 fields.fit) (number_in_range 9999999 fields.count) (moment_in_range fields.moment)

-- the notes of the lines have their values in range
abbrev pub AreInRange : List Line → Type 0
AreInRange [] = Unit {0}
AreInRange (l ∷ lines) = IsLineInRange l × AreInRange lines

all_read : {C : Type 0} (read : C → List (List ℕ) → Line) (columns : C)
    → ((row : List (List ℕ)) → IsLineInRange (read columns row)) → (rows : List (List (List ℕ)))
    → AreInRange (map (read columns) rows)
all_read read columns ranges [] = tt
all_read read columns ranges (row ∷ rows) = (ranges row, all_read read columns ranges rows)

-- so have the lines of records under a header, if it is one
header_by : {C : Type 0} (read : C → List (List ℕ) → Line) (under : Option C → Result (List Line) AuditFault)
    (rows : List (List (List ℕ))) (lines : List Line)
    → ((columns : C) (row : List (List ℕ)) → IsLineInRange (read columns row)) → under None ≡ Err WrongHeader
    → ((columns : C) → under (Some columns) ≡ Ok (map (read columns) rows))
    → (header : Option C) → under header ≡ Ok lines → AreInRange lines
header_by read under rows lines ranges none some (Some columns) e =
    let same : map (read columns) rows ≡ lines = cc (sym (some columns) ∙ e) in
    subst AreInRange same (all_read read columns (ranges columns) rows)
header_by read under rows lines ranges none some None e = cc (sym none ∙ e)

rows_by : (rows : List (List (List ℕ))) (lines : List Line) → lines_of rows ≡ Ok lines → AreInRange lines
rows_by [] lines e = cc e
rows_by (first ∷ later) lines e = header_by read_line (λ header. lines_under header later) later lines
    (λ columns row. fields_in_range (fields_under columns row)) refl (λ columns. refl) (columns_of first) e

file_by : (b : Bool) (rows : List (List (List ℕ))) (lines : List Line)
    → (if b then Err TooLarge else lines_of rows) ≡ Ok lines → AreInRange lines
file_by true rows lines e = cc e
file_by false rows lines e = rows_by rows lines e

-- the lines that bytes are read as have their notes in range
pub file_in_range : (bytes : List ℕ) (lines : List Line) → audit_lines bytes ≡ Ok lines → AreInRange lines
file_in_range bytes lines e = file_by (nat_lt AUDIT_BYTES (length bytes)) (file_records bytes) lines e

pub prefix_in_range : (prefix rest : List Line) → AreInRange (prefix ++ rest) → AreInRange prefix
prefix_in_range [] rest a = tt
prefix_in_range (l ∷ prefix) rest a = (a.0, prefix_in_range prefix rest a.1)

-- so have the commands that the lines are
pub commands_in_range : (lines : List Line) → AreInRange lines → All IsCommand (commands_of lines)
commands_in_range [] a = All-nil IsCommand
commands_in_range (line.Note note ∷ lines) a =
    All-cons IsCommand (command.Reported note) (commands_of lines) a.0 (commands_in_range lines a.1)
commands_in_range (line.Unread cause ∷ lines) a = commands_in_range lines a.1
