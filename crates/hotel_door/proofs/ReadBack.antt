-- What is read of a lock's file.
use Rattle.std.proofs.Common.{◌≡◌, ◌∙◌, ℕ, ◌+◌, ◌-◌, ◌^◌, ◌<◌, ◌≤◌, List, [], ◌∷◌, ◌++◌, Some, Ok, length, refl, sym}
use Rattle.std.proofs.Common.{ap, subst, add-one, append_assoc, append-nil, arith, drop-cons, get_or, length-append}
use Rattle.std.proofs.Common.{map, suc, take, drop, Bool, true, not}
use Rattle.std.specs.Str.{bytes_eq}
use Rattle.std.proofs.lemmas.Bool.{le-leb}
use Rattle.std.proofs.lemmas.Slice.Eq.{bytes_eq-Decides}
use Rattle.std.proofs.lemmas.List.{drop_all, length-drop, map-append, take_all}
use Rattle.keycard_rules.specs.{Note.Note, Numerals.code_text, Numerals.fixed_text, Numerals.is_numeral}
use Rattle.keycard_rules.specs.{Numerals.number_up_to, Numerals.read_code, Numbers.IsNumberUpTo}
use Rattle.keycard_rules.specs.declared.numbers.TheConstants.{LAST_FIT, LAST_ROOM}
use Rattle.keycard_rules.proofs.NumeralLemmas.{IsNumeral-fixed_text, is_numeral-true, length-fixed_text}
use Rattle.keycard_rules.proofs.NumeralLemmas.{number_of-fixed_text, numeral-fixed_text}
use Rattle.hotel_lock.specs.{AuditFile.audit_lines, NoteLine.notes_text}
use Rattle.hotel_lock.specs.{declared.line.Cause.Cause, declared.line.Line.Line}
use Rattle.hotel_lock.specs.declared.line.Line.TheVariants as line
use Rattle.hotel_lock.proofs.LogRead.{notes_read_back}
use Rattle.hotel_lock.specs.{Door.Lock, Door.fitted, Logged.IsLogOf, Logged.Logged}
use Rattle.hotel_lock.proofs.Logs.{ends_once}
use Rattle.hotel_door.specs.LockFile.{IsFileOf, head_in, head_text, lock_text}

-- ---- the parts of a lock's file

pub head_length : (l : Logged) → length (head_text l) ≡ 69
unfolding fixed_text
head_length l = refl

pub text_is_long : (l : Logged) → 69 ≤ length (lock_text l)
text_is_long l = omega (arith, length-append (head_text l) (notes_text l.notes), head_length l)

pub rest_is : (l : Logged) → drop 69 (lock_text l) ≡ notes_text l.notes
unfolding fixed_text
rest_is l = refl

number_read : (most width n : ℕ) → 0 < width → width ≤ 9 → n < 10 ^ width → IsNumberUpTo most n
    → number_up_to most (fixed_text 10 width n) ≡ Some n
number_read most width n some few below is =
    let text = fixed_text 10 width n in
    let digits = IsNumeral-fixed_text 10 width n (omega arith) (omega arith) some in
    let tested : is_numeral 10 9 text ≡ true =
    is_numeral-true 10 9 text (digits.0, omega (arith, length-fixed_text 10 width n), digits.2) in
    let number = number_of-fixed_text 10 width n (omega arith) (omega arith) below in
    rw (tested, number, le-leb 1 n is.0, le-leb n most is.1) refl

pub head_read : (l : Logged) → IsFileOf l
    → head_in (take 69 (lock_text l)) ≡ Some (l.lock.room, l.lock.fit, l.first)
unfolding fixed_text
head_read l f =
    let room = f.room in
    let fit = f.fit in
    let r : number_up_to LAST_ROOM (fixed_text 10 4 l.lock.room) ≡ Some l.lock.room =
    number_read LAST_ROOM 4 l.lock.room (omega arith) (omega arith) (omega arith) room in
    let n : number_up_to LAST_FIT (fixed_text 10 2 l.lock.fit) ≡ Some l.lock.fit =
    number_read LAST_FIT 2 l.lock.fit (omega arith) (omega arith) (omega arith) fit in
    let c : read_code (code_text l.first) ≡ Some l.first =
    numeral-fixed_text 16 12 l.first (omega arith) (omega arith) (omega arith) f.first in
    rw (r, n, c) refl

-- ---- its notes

notes_once : (a b : List Note) → map line.Note a ≡ map line.Note b → a ≡ b
notes_once [] [] same = refl
notes_once [] (note ∷ b) same = cc
notes_once (note ∷ a) [] same = cc
notes_once (note ∷ a) (other ∷ b) same =
    let heads : line.Note note ≡ line.Note other = cc in
    let first : note ≡ other = cc in
    let rest : map line.Note a ≡ map line.Note b = cc in
    let later = notes_once a b rest in
    cc

-- the notes of the file are read of the text behind the first line
pub lines_read : (l : Logged) → IsFileOf l → audit_lines (drop 69 (lock_text l)) ≡ Ok (map line.Note l.notes)
lines_read l f = ap audit_lines (rest_is l) ∙ notes_read_back l.notes f.notes f.few

pub notes_read : (l : Logged) (bytes : List ℕ) (notes : List Note) → IsFileOf l → bytes ≡ lock_text l
    → audit_lines (drop 69 bytes) ≡ Ok (map line.Note notes) → notes ≡ l.notes
notes_read l bytes notes f same read =
    let wanted = lines_read l f in
    let both : audit_lines (drop 69 bytes) ≡ audit_lines (drop 69 (lock_text l)) =
    ap (λ text. audit_lines (drop 69 text)) same in
    let lines : map line.Note notes ≡ map line.Note l.notes = cc in
    notes_once notes l.notes lines

-- ---- the lock

-- the lock of a log is one
pub lock_read : (l found : Logged) → IsFileOf l → found.first ≡ l.first → found.notes ≡ l.notes
    → IsLogOf l.lock.room l.lock.fit l.first l.notes found.lock → found ≡ l
lock_read l found f first notes log =
    let lock = ends_once (fitted l.lock.room l.lock.fit l.first) [] l.notes found.lock l.lock log f.log in
    let made : ℕ → Lock → List Note → Logged =
    λ first lock notes. record { first = first; lock = lock; notes = notes } in
    ap (λ x. made x found.lock found.notes) first ∙ ap (λ x. made l.first x found.notes) lock
    ∙ ap (λ x. made l.first l.lock x) notes

-- ---- the lines that are read

-- one more line is a note
pub one_note_more : (lines : List Line) (i : ℕ) (notes items : List Note) (note : Note) → i < length lines
    → line.Note note ≡ get_or lines i (line.Note note) → items ≡ notes ++ (note ∷ [])
    → lines ≡ map line.Note notes ++ drop i lines → lines ≡ map line.Note items ++ drop (i + 1) lines
one_note_more lines i notes items note below is pushed so_far =
    let cut = drop-cons lines i (line.Note note) below in
    let next : drop i lines ≡ line.Note note ∷ drop (i + 1) lines =
    rw add-one (cut ∙ ap (λ l. l ∷ drop (suc i) lines) (sym is)) in
    let front : map line.Note items ≡ map line.Note notes ++ (line.Note note ∷ []) =
    ap (map line.Note) pushed ∙ map-append line.Note notes (note ∷ []) in
    so_far ∙ ap (λ rest. map line.Note notes ++ rest) next
    ∙ sym (append_assoc (map line.Note notes) (line.Note note ∷ []) (drop (i + 1) lines))
    ∙ ap (λ lines_read. lines_read ++ drop (i + 1) lines) (sym front)

-- lines with an unread one aren't all notes
pub not_all_notes : (notes wanted : List Note) (cause : Cause) (later : List Line)
    → map line.Note notes ++ (line.Unread cause ∷ later) ≡ map line.Note wanted → ⊥
not_all_notes [] [] cause later same = cc
not_all_notes [] (note ∷ wanted) cause later same = cc
not_all_notes (note ∷ notes) [] cause later same = cc
not_all_notes (note ∷ notes) (other ∷ wanted) cause later same =
    let rest : map line.Note notes ++ (line.Unread cause ∷ later) ≡ map line.Note wanted = cc in
    not_all_notes notes wanted cause later rest

-- the same at a place of the lines
pub unread_at : (lines : List Line) (i : ℕ) (notes wanted : List Note) (cause : Cause) → i < length lines
    → line.Unread cause ≡ get_or lines i (line.Unread cause) → lines ≡ map line.Note notes ++ drop i lines
    → lines ≡ map line.Note wanted → ⊥
unread_at lines i notes wanted cause below is so_far same =
    let cut = drop-cons lines i (line.Unread cause) below in
    let next : drop i lines ≡ line.Unread cause ∷ drop (suc i) lines =
    cut ∙ ap (λ l. l ∷ drop (suc i) lines) (sym is) in
    not_all_notes notes wanted cause (drop (suc i) lines)
    (sym (so_far ∙ ap (λ rest. map line.Note notes ++ rest) next) ∙ same)

-- all lines are the notes
pub all_are_notes : (lines : List Line) (i : ℕ) (notes : List Note) → length lines ≤ i
    → lines ≡ map line.Note notes ++ drop i lines → lines ≡ map line.Note notes
all_are_notes lines i notes all so_far =
    so_far ∙ ap (λ rest. map line.Note notes ++ rest) (drop_all i lines all) ∙ append-nil (map line.Note notes)

-- ---- what is read of the text of a lock

pub too_short : (l : Logged) (bytes : List ℕ) → bytes ≡ lock_text l → length bytes < 69 → ⊥
too_short l bytes same short =
    let long = text_is_long l in
    let e : length bytes ≡ length (lock_text l) = ap length same in
    omega arith

pub head_of : (l : Logged) (bytes : List ℕ) → IsFileOf l → bytes ≡ lock_text l
    → head_in (take 69 bytes) ≡ Some (l.lock.room, l.lock.fit, l.first)
head_of l bytes f same = ap (λ text. head_in (take 69 text)) same ∙ head_read l f

-- what is read of some bytes: the first line, and the notes behind it
abbrev pub ReadIn : List ℕ → ℕ × ℕ × ℕ → List Note → Type 0
ReadIn bytes head notes =
    (Some head ≡ head_in (take 69 bytes))
    × (audit_lines (take (length bytes - 69) (drop 69 bytes)) ≡ Ok (map line.Note notes))

rest_whole : (bytes : List ℕ) → take (length bytes - 69) (drop 69 bytes) ≡ drop 69 bytes
rest_whole bytes = take_all (length bytes - 69) (drop 69 bytes) (omega (arith, length-drop 69 bytes))

pub lines_of : (l : Logged) (bytes : List ℕ) → IsFileOf l → bytes ≡ lock_text l
    → audit_lines (take (length bytes - 69) (drop 69 bytes)) ≡ Ok (map line.Note l.notes)
lines_of l bytes f same =
    ap audit_lines (rest_whole bytes) ∙ ap (λ text. audit_lines (drop 69 text)) same ∙ lines_read l f

-- it is what the lock has
head_once : (l : Logged) (bytes : List ℕ) (head : ℕ × ℕ × ℕ) (notes : List Note) → IsFileOf l → bytes ≡ lock_text l
    → ReadIn bytes head notes → head ≡ (l.lock.room, l.lock.fit, l.first)
head_once l bytes head notes f same read =
    let wanted : ℕ × ℕ × ℕ = (l.lock.room, l.lock.fit, l.first) in
    let both : Some head ≡ Some wanted = read.0 ∙ head_of l bytes f same in
    cc

notes_of : (l : Logged) (bytes : List ℕ) (head : ℕ × ℕ × ℕ) (notes : List Note) → IsFileOf l → bytes ≡ lock_text l
    → ReadIn bytes head notes → notes ≡ l.notes
notes_of l bytes head notes f same read =
    notes_read l bytes notes f same (ap audit_lines (sym (rest_whole bytes)) ∙ read.1)

-- a lock of a first line that made notes, and then stands so
abbrev IsOf : ℕ × ℕ × ℕ → List Note → Lock → Type 0
IsOf head notes lock = IsLogOf head.0 head.1 head.2 notes lock

-- so a lock is found
pub is_found : (l : Logged) (bytes : List ℕ) (head : ℕ × ℕ × ℕ) (notes items : List Note) → IsFileOf l
    → bytes ≡ lock_text l → ReadIn bytes head notes → items ≡ notes
    → IsLogOf head.0 head.1 head.2 items l.lock
is_found l bytes head notes items f same read value =
    let log : IsOf (l.lock.room, l.lock.fit, l.first) l.notes l.lock = f.log in
    let all = value ∙ notes_of l bytes head notes f same read in
    subst (λ h. IsOf h items l.lock) (sym (head_once l bytes head notes f same read))
    (subst (λ n. IsOf (l.lock.room, l.lock.fit, l.first) n l.lock) (sym all) log)

-- it is this one
pub is_lock : (l found : Logged) (bytes : List ℕ) (head : ℕ × ℕ × ℕ) (notes items : List Note) → IsFileOf l
    → bytes ≡ lock_text l → ReadIn bytes head notes → items ≡ notes
    → (found.first ≡ head.2) × (found.notes ≡ items) × IsLogOf head.0 head.1 head.2 items found.lock → found ≡ l
is_lock l found bytes head notes items f same read value is =
    let once = head_once l bytes head notes f same read in
    let all = value ∙ notes_of l bytes head notes f same read in
    let log : IsOf head items found.lock = is.2 in
    let moved = subst (λ n. IsOf (l.lock.room, l.lock.fit, l.first) n found.lock) all
    (subst (λ h. IsOf h items found.lock) once log) in
    let first = is.0 ∙ ap (λ (h : ℕ × ℕ × ℕ). h.2) once in
    lock_read l found f first (is.1 ∙ all) moved

-- and it has these bytes
pub is_text : (l found : Logged) (bytes text : List ℕ) (head : ℕ × ℕ × ℕ) (notes items : List Note) → IsFileOf l
    → bytes ≡ lock_text l → ReadIn bytes head notes → items ≡ notes
    → (found.first ≡ head.2) × (found.notes ≡ items) × IsLogOf head.0 head.1 head.2 items found.lock
    → text ≡ lock_text found → text ≡ bytes
is_text l found bytes text head notes items f same read value is written =
    written ∙ ap lock_text (is_lock l found bytes head notes items f same read value is) ∙ sym same

-- a test of two texts says so
pub not_unlike : (text bytes : List ℕ) (b : Bool) → b ≡ not (bytes_eq text bytes) → b ≡ true → text ≡ bytes → ⊥
not_unlike text bytes b is unlike same =
    let equal : bytes_eq text bytes ≡ true = (bytes_eq-Decides text bytes).1 same in
    let like = rw equal at is in
    cc
