-- The list of a room's notes, sent as an audit file: it is read as these notes, and each is seen.
use Rattle.std.proofs.Common.{◌≡◌, ◌∙◌, ◌+◌, ◌-◌, ◌<◌, ◌≤◌, ℕ, zero, suc, Bool, true, false, cond, List, [], ◌∷◌, ◌++◌}
use Rattle.std.proofs.Common.{All, Ok, Err, length, drop, filter, map, refl, ap, sym, subst, arith, ◌==◌}
use Rattle.std.proofs.Common.{nat_lt, slice_index_or}
use Rattle.std.proofs.lemmas.List.Elements.{All-cons, All-head, All-nil, All-tail, All-weaker}
use Rattle.hotel_books.proofs.Names.{History, Note, Reached, is_fit, is_room, notes}
use Rattle.hotel_books.proofs.Names.{notes_at, notes_of, range_with_len, rows_of}
use Rattle.hotel_model.proofs.{Lifted.LiftEasy.room_is_there, OfTables.NotesListed.notes_are_listed}
use Rattle.hotel_model.proofs.OfTables.Tests.{eq_self, not_both, not_lt_from}
use Rattle.hotel_model.proofs.SoundRows.SoundKinds.{begun_with_room}
use Rattle.hotel_lock.specs.NoteLine.{audit_header, note_line}
use Rattle.hotel_lists.specs.Listings.{Listing}
use Rattle.hotel_lists.specs.Listings.{in_full, listing, of_room}
use Rattle.hotel_lock.specs.AuditFile.{audit_lines}
use Rattle.hotel_lock.specs.declared.audit_file.AuditFault.TheVariants.{NoHeader}
use Rattle.hotel_lock.specs.declared.audit_file.TheConstants.{AUDIT_BYTES}
use Rattle.hotel_lock.specs.declared.line.Line.{Line}
use Rattle.hotel_lock.specs.declared.line.Line.TheVariants as line
use Rattle.hotel_lock.specs.{ReadBack.IsNote, NoteLine.notes_text}
use Rattle.hotel_audit.specs.ListSent.{ListIsSeen, ListReadsBack, list_text}
use Rattle.hotel_lock.proofs.LogRead.{no_bytes, notes_read_back}
use Rattle.hotel_audit.proofs.{CountsOfFits.notes_counted, NotesSound.IsOf}
use Rattle.hotel_audit.proofs.{NotesKnown.BeginsWith, NotesKnown.Knows, NotesKnown.same_note_itself}
use Rattle.hotel_audit.proofs.{NotesSound.notes_are_of, SentAgain.KnowsLines, SentAgain.knows_lines_along}
use Rattle.hotel_audit.proofs.SentAgain.{seen_lines}

-- ---- the list is that of the room's notes, and is read as these

-- the list of a room that is there
abbrev its_listing : History → ℕ → Listing
its_listing h room = listing audit_header note_line (notes_at (rows_of h).notes room)

list_is : (h : History) → Reached h → (room : ℕ) → is_room h room ≡ true → list_text h room ≡ notes_text (notes h room)
list_is h ok room there =
    ap (λ b. in_full [] (of_room b (its_listing h room))) (room_is_there h room ∙ there)
    ∙ ap notes_text (notes_are_listed h ok room)

none_without : (h : History) (room : ℕ) → is_room h room ≡ false → list_text h room ≡ []
none_without h room none = ap (λ b. in_full [] (of_room b (its_listing h room))) (room_is_there h room ∙ none)

pub list_reads_back : ListReadsBack
list_reads_back h room ok there few =
    let same = list_is h ok room there in
    let values = All-weaker (IsOf h room) IsNote (λ note is. is.values) (notes h room) (notes_are_of h ok room) in
    ap audit_lines same ∙ notes_read_back (notes h room) values (subst (λ text. length text ≤ AUDIT_BYTES) same few)

too_long : (text : List ℕ) (lines : List Line) → nat_lt AUDIT_BYTES (length text) ≡ true
    → audit_lines text ≡ Ok lines → ⊥
too_long text lines long e = let t = rw long at e in cc t

-- lines that the list is read as are its notes
lines_are : (h : History) → Reached h → (room : ℕ) (lines : List Line) → audit_lines (list_text h room) ≡ Ok lines
    → lines ≡ map line.Note (notes h room)
lines_are h ok room lines e =
    by (is_room h room) (nat_lt AUDIT_BYTES (length (list_text h room))) refl refl
  where
    by : (there long : Bool) → is_room h room ≡ there → nat_lt AUDIT_BYTES (length (list_text h room)) ≡ long
        → lines ≡ map line.Note (notes h room)
    by false long t l =
        let none : Err NoHeader ≡ Ok lines = sym (ap audit_lines (none_without h room t) ∙ no_bytes) ∙ e in cc none
    by true true t l = absurd (too_long (list_text h room) lines l e)
    by true false t l =
        let read : Ok (map line.Note (notes h room)) ≡ Ok lines =
        sym (list_reads_back h room ok t (not_lt_from AUDIT_BYTES (length (list_text h room)) l)) ∙ e in
        cc read

-- ---- each note of a room is known

-- notes that are counted up have each its place
begins_at : (xs : List Note) (k n : ℕ) (d : Note) → map (λ (x : Note). x.count) xs ≡ range_with_len n (length xs)
    → k < length xs
    → ((slice_index_or xs k d).count ≡ n + k) × BeginsWith (drop k xs) (slice_index_or xs k d)
begins_at [] k n d e l = absurd (omega arith)
begins_at (x ∷ xs) zero n d e l = let first : x.count ≡ n = cc in (omega arith, same_note_itself x)
begins_at (x ∷ xs) (suc k) n d e l =
    let rest : map (λ (y : Note). y.count) xs ≡ range_with_len (n + 1) (length xs) = cc in
    let later = begins_at xs k (n + 1) d rest (omega arith) in
    let its = later.0 in
    (omega arith, later.1)

-- what holds of all that pass a test
all_unfiltered : (t : Note → Bool) (P : Note → Type 0) (xs : List Note) → All P (filter t xs)
    → All (λ x. t x ≡ true → P x) xs
all_unfiltered t P [] all = All-nil (λ x. t x ≡ true → P x)
all_unfiltered t P (x ∷ xs) all = by (t x) refl all (all_unfiltered t P xs)
  where
    by : (b : Bool) → t x ≡ b → All P (cond b (x ∷ filter t xs) (filter t xs))
        → (All P (filter t xs) → All (λ y. t y ≡ true → P y) xs) → All (λ y. t y ≡ true → P y) (x ∷ xs)
    by true s a later = All-cons (λ y. t y ≡ true → P y) x xs (λ passes. All-head P x (filter t xs) a)
        (later (All-tail P x (filter t xs) a))
    by false s a later = All-cons (λ y. t y ≡ true → P y) x xs (λ passes. not_both (t x) passes s) (later a)

-- the notes of a fit from a note's count on begin with it
abbrev IsAtCount : History → ℕ → ℕ → Note → Type 0
IsAtCount h r fit note = BeginsWith (drop (note.count - 1) (notes_of h r fit)) note

at_counts : (h : History) → Reached h → (r fit : ℕ) → All (IsAtCount h r fit) (notes_of h r fit)
at_counts h ok r fit k d l =
    let its = notes_of h r fit in
    let here = begins_at its k 1 d (notes_counted h ok r fit).0 l in
    let counted = here.0 in
    let place : k ≡ (slice_index_or its k d).count - 1 = omega arith in
    subst (λ z. BeginsWith (drop z its) (slice_index_or its k d)) place here.1

known : (h : History) → Reached h → (r : ℕ) → All (Knows h) (notes h r)
known h ok r k d l =
    let note = slice_index_or (notes h r) k d in
    let is = notes_are_of h ok r k d l in
    let back = sym is.same in
    let kept = all_unfiltered (λ (n : Note). n.fit == note.fit) (IsAtCount h r note.fit) (notes h r)
    (at_counts h ok r note.fit) k d l (eq_self note.fit) in
    record {
      begun = begun_with_room h ok r is.there;
      room = subst (λ z. is_room h z ≡ true) back is.there;
      fit = subst (λ z. is_fit h z note.fit ≡ true) back is.fit;
      kept = subst (λ z. IsAtCount h z note.fit note) back kept;
    }

lines_known : (h : History) (taken : List Note) → All (Knows h) taken → KnowsLines h (map line.Note taken)
lines_known h [] all = tt
lines_known h (note ∷ taken) all =
    (All-head (Knows h) note taken all, lines_known h taken (All-tail (Knows h) note taken all))

prefix_known : (h : History) (prefix rest : List Line) → KnowsLines h (prefix ++ rest) → KnowsLines h prefix
prefix_known h [] rest k = tt
prefix_known h (line.Note note ∷ prefix) rest k = (k.0, prefix_known h prefix rest k.1)
prefix_known h (line.Unread cause ∷ prefix) rest k = absurd k

pub list_is_seen : ListIsSeen
list_is_seen h later end s source t s' room commands replies lines rest again ok read between second =
    let all = subst (KnowsLines h) (sym (lines_are h ok room (lines ++ rest) read))
    (lines_known h (notes h room) (known h ok room)) in
    seen_lines later end t s' lines again
    (knows_lines_along h later s source commands replies lines between (prefix_known h lines rest all))
    second.0 second.1
