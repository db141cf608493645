-- Notes that would not be taken, and that they stay so.
use Rattle.std.proofs.Common.{◌≡◌, ◌∙◌, ◌<◌, ◌≤◌, ℕ, zero, suc, Bool, true, false, List, [], ◌∷◌, ◌++◌, Some, None, inl}
use Rattle.std.proofs.Common.{inr, length, drop, refl, ap, sym, subst, arith, length-append, eq-eqb, ◌==◌, ◌+◌, ◌-◌}
use Rattle.std.proofs.lemmas.Bool.Decides.{nat_tests}
use Rattle.std.proofs.lemmas.List.Elements.{filter-append}
use Rattle.hotel_books.proofs.Names.{Stream, words, Note, answer_to, reported, is_begun, is_room, is_fit, present_fit}
use Rattle.hotel_books.proofs.Names.{Event, note_of, History, ◌▷◌, notes, notes_of, same_note, standing, standing_among}
use Rattle.hotel_books.proofs.Names.{with_note, Outcome, grown, needs, Runs, StepsIf, and_last, when}
use Rattle.keycard_rules.specs.declared.note.Act.{Act}
use Rattle.keycard_rules.specs.declared.note.Act.TheVariants as act
use Rattle.hotel_model.specs.declared.command.Command.TheVariants as command
use Rattle.hotel_model.specs.{declared.reply.Reply.Reply, declared.reply.Refusal.TheVariants.NotBegun}
use Rattle.hotel_model.specs.{declared.reply.Refusal.TheVariants.NoRoom, declared.reply.Refusal.TheVariants.NoFit}
use Rattle.hotel_model.specs.declared.reply.Reply.TheVariants as reply
use Rattle.hotel_model.proofs.OfTables.Tests.{eq_from, eq_self}
use Rattle.hotel_lock.specs.declared.line.Line.{Line}
use Rattle.hotel_audit.specs.{declared.answer.LineAnswer.LineAnswer, FilesCounted.event_by}
use Rattle.hotel_audit.specs.{FilesCounted.event_of}
use Rattle.hotel_audit.specs.declared.answer.LineAnswer.TheVariants.{Taken, Seen, Unread, Refused}
use Rattle.hotel_lock.specs.declared.line.Line.TheVariants as line
use Rattle.hotel_audit.specs.{Import.AreAnswered, Import.commands_of, Import.replies_in, SentAtOnce.CountsDoNotFall}
use Rattle.hotel_audit.specs.{SentAtOnce.NoneLower}
use Rattle.hotel_audit.proofs.NotesKnown.{under}
use Rattle.hotel_audit.proofs.NoteOutcomes.{IsIdle, IsNext, idle_beside, idle_checked, note_outcome, refused_not_taken}
use Rattle.hotel_audit.proofs.NoteOutcomes.{same_words}
use Rattle.hotel_audit.proofs.OtherRooms.{answered_same, other_room}

-- what comes of a note
abbrev pub outcome_of : History → Note → Outcome Event
outcome_of h note = answer_to h [] (command.Reported note)

-- the history after a note
abbrev pub after_note : History → Note → History
after_note h note = grown h (outcome_of h note).happens

-- the history after the notes of some lines
abbrev pub after_lines : History → List Line → History
after_lines h [] = h
after_lines h (line.Note note ∷ lines) = after_lines (after_note h note) lines
after_lines h (line.Unread cause ∷ lines) = after_lines h lines

pub after_lines-append : (h : History) (prefix rest : List Line)
    → after_lines h (prefix ++ rest) ≡ after_lines (after_lines h prefix) rest
after_lines-append h [] rest = refl
after_lines-append h (line.Note note ∷ prefix) rest = after_lines-append (after_note h note) prefix rest
after_lines-append h (line.Unread cause ∷ prefix) rest = after_lines-append h prefix rest

stepped : (h : History) (s : Stream) (note : Note) (given : Reply) (h' : History) (s' : Stream)
    → StepsIf false h s (command.Reported note) given h' s' → h' ≡ after_note h note
stepped h s note given h' s' d = d.1 ∙ ap (λ (o : Outcome Event). grown h o.happens) (same_words h (words 64 s) note)

-- lines lead to the history after their notes
pub lead_to : (h h' : History) (s s' : Stream) (lines : List Line) (answers : List LineAnswer)
    → AreAnswered lines answers → Runs h s (commands_of lines) (replies_in answers) h' s' → h' ≡ after_lines h lines
lead_to h h' s s' [] [] each r = r.0
lead_to h h' s s' (line.Note note ∷ lines) (Taken ∷ answers) each r =
    lead_to r.0 h' r.1 s' lines answers each.1 r.3
    ∙ ap (λ z. after_lines z lines) (stepped h s note reply.Taken r.0 r.1 r.2)
lead_to h h' s s' (line.Note note ∷ lines) (Seen ∷ answers) each r =
    lead_to r.0 h' r.1 s' lines answers each.1 r.3
    ∙ ap (λ z. after_lines z lines) (stepped h s note reply.Seen r.0 r.1 r.2)
lead_to h h' s s' (line.Note note ∷ lines) (Unread cause ∷ answers) each r = absurd each.0
lead_to h h' s s' (line.Note note ∷ lines) (Refused why ∷ answers) each r =
    let step = subst (λ b. StepsIf b h s (command.Reported note) (reply.Refused why) r.0 r.1) each.0 r.2 in
    lead_to r.0 h' r.1 s' lines answers each.1 r.3
    ∙ ap (λ z. after_lines z lines) (stepped h s note (reply.Refused why) r.0 r.1 step)
lead_to h h' s s' (line.Unread cause ∷ lines) (a ∷ answers) each r =
    lead_to h h' s s' lines answers each.1
    (subst (λ x. Runs h s (commands_of lines) (replies_in (x ∷ answers)) h' s') each.0 r)
lead_to h h' s s' [] (a ∷ answers) each r = absurd each
lead_to h h' s s' (line.Note note ∷ lines) [] each r = absurd each
lead_to h h' s s' (line.Unread cause ∷ lines) [] each r = absurd each

-- the note would not be taken
abbrev pub Idle : History → Note → Type 0
Idle h note = (outcome_of h note).happens ≡ None

below : (present : Bool) (k taken : ℕ) (h : History) (note : Note) (xs : List Note) → k < length xs
    → IsIdle (reported h note (standing_among present taken note (drop k xs)))
below present k taken h note [] l = absurd (omega (arith, l))
below present zero taken h note (x ∷ xs) l = idle_beside (same_note x note) h note
below present (suc k) taken h note (x ∷ xs) l = below present k taken h note xs (omega (arith, l))

-- a note that is idle by its standing would not be taken
idle_standing : (h : History) (note : Note) → IsIdle (reported h note (standing h note)) → Idle h note
unfolding answer_to
idle_standing h note i =
    let fits = needs (is_fit h note.room note.fit) NoFit in
    let checks = needs (is_begun h) NotBegun ∷ needs (is_room h note.room) NoRoom ∷ fits ∷ [] in
    (idle_checked checks (reported h note (standing h note)) i).0

-- a note whose count is one that its fit has would not be taken
idle_below : (h : History) (note : Note) → note.count - 1 < length (notes_of h note.room note.fit) → Idle h note
idle_below h note l =
    let its = notes_of h note.room note.fit in
    idle_standing h note (below (note.fit == present_fit h note.room) (note.count - 1) (length its) h note its l)

old_idle : (taken : ℕ) (h : History) (note : Note) (later : List Note)
    → IsIdle (reported h note (standing_among false taken note later))
old_idle taken h note [] = (refl, refused_not_taken _)
old_idle taken h note (kept ∷ later) = idle_beside (same_note kept note) h note

-- nor would one of another fit than the present one
idle_elsewhere : (h : History) (note : Note) → (note.fit == present_fit h note.room) ≡ false → Idle h note
idle_elsewhere h note other =
    let its = notes_of h note.room note.fit in
    let later = drop (note.count - 1) its in
    let idle = old_idle (length its) h note later in
    idle_standing h note
    (subst (λ b. IsIdle (reported h note (standing_among b (length its) note later))) (sym other) idle)

noted_by : (note : Note) (what : Act) → what ≡ note.act → note_of (event_by note what) ≡ Some note
noted_by note (act.Entered number link) w = ap (λ a. Some (record note { act = a })) w
noted_by note (act.Left number link) w = ap (λ a. Some (record note { act = a })) w
noted_by note (act.Recoded from to) w = ap (λ a. Some (record note { act = a })) w

-- the event of a note takes that note
pub noted : (note : Note) → note_of (event_of note) ≡ Some note
noted note = noted_by note note.act refl

-- the notes of a fit, with one more of it
under_more : (taken : List Note) (later : Note) (fit : ℕ) → later.fit ≡ fit
    → length (under fit (taken ++ later ∷ [])) ≡ length (under fit taken) + 1
under_more taken later fit same =
    let this : under fit (later ∷ []) ≡ later ∷ [] = rw (eq-eqb later.fit fit same) refl in
    let parts = filter-append (λ (x : Note). x.fit == fit) taken (later ∷ []) ∙ ap (λ zs. under fit taken ++ zs) this in
    ap (λ (zs : List Note). length zs) parts ∙ length-append (under fit taken) (later ∷ [])

-- after the next note of its fit was taken, a note of no higher count would not be
idle_here : (h : History) (later note : Note) → later.room ≡ note.room → later.fit ≡ note.fit → note.count ≤ later.count
    → later.count ≡ length (notes_of h later.room later.fit) + 1 → Idle (h ▷ event_of later) note
idle_here h later note same fit low next = idle_below (h ▷ event_of later) note long
  where
    now : notes (h ▷ event_of later) note.room ≡ notes h note.room ++ later ∷ []
    now = ap (λ o. with_note note.room o (notes h note.room)) (noted later)
        ∙ ap (λ b. when b (and_last later) (notes h note.room)) (ap (λ z. z == note.room) same ∙ eq_self note.room)

    more : length (notes_of (h ▷ event_of later) note.room note.fit) ≡ length (notes_of h note.room note.fit) + 1
    more = ap (λ (zs : List Note). length (under note.fit zs)) now ∙ under_more (notes h note.room) later note.fit fit

    counted : later.count ≡ length (notes_of h note.room note.fit) + 1
    counted =
        next ∙ ap (λ z. length (notes_of h z later.fit) + 1) same ∙ ap (λ z. length (notes_of h note.room z) + 1) fit

    long : note.count - 1 < length (notes_of (h ▷ event_of later) note.room note.fit)
    long = omega (arith, more, low, counted)

present_by : (h : History) (note : Note) (what : Act) (r : ℕ) → present_fit (h ▷ event_by note what) r ≡ present_fit h r
present_by h note (act.Entered number link) r = refl
present_by h note (act.Left number link) r = refl
present_by h note (act.Recoded from to) r = refl

-- after a note of the present fit was taken, one of another fit would not be
idle_apart : (h : History) (later note : Note) → later.room ≡ note.room → (later.fit == note.fit) ≡ false
    → later.fit ≡ present_fit h later.room → Idle (h ▷ event_of later) note
idle_apart h later note same other present =
    let stays = present_by h later later.act note.room in
    let now : later.fit ≡ present_fit (h ▷ event_of later) note.room = present ∙ ap (present_fit h) same ∙ sym stays in
    idle_elsewhere (h ▷ event_of later) note (ap (λ z. note.fit == z) (sym now) ∙ eq_turned note.fit later.fit ∙ other)
  where
    eq_turned : (a b : ℕ) → (a == b) ≡ (b == a)
    eq_turned a b = grind (arith, nat_tests)

idle_in_room : (h : History) (later note : Note) → later.room ≡ note.room
    → (later.fit ≡ note.fit → note.count ≤ later.count) → later.fit ≡ present_fit h later.room
    → later.count ≡ length (notes_of h later.room later.fit) + 1 → Idle (h ▷ event_of later) note
idle_in_room h later note same low present next = by (later.fit == note.fit) refl
  where
    by : (b : Bool) → (later.fit == note.fit) ≡ b → Idle (h ▷ event_of later) note
    by true q = let fit = eq_from later.fit note.fit q in idle_here h later note same fit (low fit) next
    by false q = idle_apart h later note same q present

idle_after : (h : History) (later note : Note)
    → (later.room ≡ note.room → later.fit ≡ note.fit → note.count ≤ later.count)
    → IsNext (present_fit h later.room) (length (notes_of h later.room later.fit)) later → Idle h note
    → Idle (h ▷ event_of later) note
idle_after h later note low next i = by (later.room == note.room) refl
  where
    by : (b : Bool) → (later.room == note.room) ≡ b → Idle (h ▷ event_of later) note
    by true q = let same = eq_from later.room note.room q in idle_in_room h later note same (low same) next.0 next.1
    by false q = ap (λ (o : Outcome Event). o.happens)
        (answered_same h (h ▷ event_of later) [] note (other_room h later note.room q)) ∙ i

idle_step : (h : History) (later note : Note)
    → (later.room ≡ note.room → later.fit ≡ note.fit → note.count ≤ later.count) → Idle h note
    → Idle (after_note h later) note
idle_step h later note low i =
    elim (note_outcome h [] later) [
      | inl t ↦ subst (λ o. Idle (grown h o) note) (sym t.1) (idle_after h later note low t.2 i)
      | inr n ↦ subst (λ o. Idle (grown h o) note) (sym n.0) i
    ]

-- after its own step a note would not be taken
idle_own : (h : History) (note : Note) → Idle (after_note h note) note
idle_own h note =
    elim (note_outcome h [] note) [
      | inl t ↦ subst (λ o. Idle (grown h o) note) (sym t.1) (idle_here h note note refl refl (omega arith) t.2.1)
      | inr n ↦ subst (λ o. Idle (grown h o) note) (sym n.0) n.0
    ]

idle_along : (h : History) (note : Note) (lines : List Line)
    → NoneLower note lines → Idle h note → Idle (after_lines h lines) note
idle_along h note [] low i = i
idle_along h note (line.Note later ∷ lines) low i =
    idle_along (after_note h later) note lines low.1 (idle_step h later note low.0 i)
idle_along h note (line.Unread cause ∷ lines) low i = idle_along h note lines low i

-- no note of the lines would be taken
abbrev pub AreIdle : History → List Line → Type 0
AreIdle h [] = Unit {0}
AreIdle h (line.Note note ∷ lines) = Idle h note × AreIdle h lines
AreIdle h (line.Unread cause ∷ lines) = AreIdle h lines

-- after lines in which no lock's counts fall, no note of them would be taken
pub all_idle : (h : History) (lines : List Line) → CountsDoNotFall lines → AreIdle (after_lines h lines) lines
all_idle h [] c = tt
all_idle h (line.Note note ∷ lines) c =
    (idle_along (after_note h note) note lines c.0 (idle_own h note), all_idle (after_note h note) lines c.1)
all_idle h (line.Unread cause ∷ lines) c = all_idle h lines c

-- such lines change nothing
pub still : (h : History) (lines : List Line) → AreIdle h lines → after_lines h lines ≡ h
still h [] i = refl
still h (line.Note note ∷ lines) i =
    let same : after_note h note ≡ h = ap (grown h) i.0 in ap (λ z. after_lines z lines) same ∙ still h lines i.1
still h (line.Unread cause ∷ lines) i = still h lines i
