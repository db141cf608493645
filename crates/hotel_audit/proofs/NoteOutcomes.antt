-- A note is taken as the next one of its room's present fit, or nothing happens.
use Rattle.std.proofs.Common.{◌≡◌, ℕ, Bool, true, false, List, [], ◌∷◌, Option, Some, None, ◌⊎◌, inl, inr, length, drop}
use Rattle.std.proofs.Common.{refl, ap, ◌==◌, ◌+◌, ◌-◌, if◌then◌else◌}
use Rattle.hotel_books.proofs.Names.{is_fit, present_fit, notes_of, Note, answer_to, told, reported, is_begun, is_card}
use Rattle.hotel_books.proofs.Names.{is_room, has_link, opens, Event, inside, History, awaited, Copy, Conflicting, Next}
use Rattle.hotel_books.proofs.Names.{After, same_note, standing_among, Outcome, accepted, needs, unless, is_one_of}
use Rattle.std.proofs.lemmas.Bool.{eqb-true}
use Rattle.keycard_rules.specs.declared.note.Act.{Act}
use Rattle.keycard_rules.specs.declared.note.Act.TheVariants as act
use Rattle.hotel_model.specs.declared.command.Command.TheVariants as command
use Rattle.hotel_model.specs.declared.reply.Reply.TheVariants as reply
use Rattle.hotel_model.specs.{declared.reply.Refusal.Refusal, Cases.holds}
use Rattle.hotel_model.specs.declared.reply.Refusal.TheVariants.{NotBegun, NoRoom, NoFit, NoCard, CardDiffers, LockShut}
use Rattle.hotel_model.specs.declared.reply.Refusal.TheVariants.{NotInside, HeldDiffers, NotAwaited}
use Rattle.hotel_audit.specs.FilesCounted.{event_by, event_of}

-- the note is of the room's present fit, and the one after so many
abbrev pub IsNext : ℕ → ℕ → Note → Type 0
IsNext present taken note = (note.fit ≡ present) × (note.count ≡ taken + 1)

-- the note is taken
abbrev pub IsTakenBy : ℕ → ℕ → Note → Outcome Event → Type 0
IsTakenBy present taken note o =
    (o.reply ≡ reply.Taken) × (o.happens ≡ Some (event_of note)) × IsNext present taken note

-- nothing happens, and the reply isn't Taken
abbrev pub IsIdle : Outcome Event → Type 0
IsIdle o = (o.happens ≡ None) × (o.reply ≡ reply.Taken → ⊥)

-- the note is taken as the one after so many of the present fit, or nothing happens
abbrev pub TakesOrNot : ℕ → ℕ → Note → Outcome Event → Type 0
TakesOrNot present taken note o = IsTakenBy present taken note o ⊎ IsIdle o

pub refused_not_taken : (why : Refusal) → reply.Refused why ≡ reply.Taken → ⊥
refused_not_taken why e = cc e

seen_not_taken : reply.Seen ≡ reply.Taken → ⊥
seen_not_taken e = cc e

pub idle_checked : (checks : List (Option Refusal)) (o : Outcome Event) → IsIdle o → IsIdle (unless checks o)
idle_checked [] o i = i
idle_checked (Some why ∷ checks) o i = (refl, refused_not_taken why)
idle_checked (None ∷ checks) o i = idle_checked checks o i

checked : (present taken : ℕ) (note : Note) (checks : List (Option Refusal)) (o : Outcome Event)
    → TakesOrNot present taken note o → TakesOrNot present taken note (unless checks o)
checked present taken note [] o t = t
checked present taken note (Some why ∷ checks) o t = inr (refl, refused_not_taken why)
checked present taken note (None ∷ checks) o t = checked present taken note checks o t

by_act : (h : History) (present taken : ℕ) (note : Note) (what : Act) → what ≡ note.act → IsNext present taken note
    → TakesOrNot present taken note (told h note what)
by_act h present taken note (act.Entered number link) w next =
    checked present taken note
    (needs (is_card h number) NoCard ∷ needs (has_link h number link) CardDiffers
    ∷ needs (opens h note.room link) LockShut ∷ [])
    (accepted reply.Taken (event_by note (act.Entered number link)))
    (inl (refl, ap (λ a. Some (event_by note a)) w, next))
by_act h present taken note (act.Left number link) w next =
    checked present taken note
    (needs (is_card h number) NoCard ∷ needs (has_link h number link) CardDiffers
    ∷ needs (is_one_of number (inside h note.room)) NotInside ∷ [])
    (accepted reply.Taken (event_by note (act.Left number link))) (inl (refl, ap (λ a. Some (event_by note a)) w, next))
by_act h present taken note (act.Recoded from to) w next =
    checked present taken note
    (needs (holds h note.room from) HeldDiffers ∷ needs (is_one_of to (awaited h note.room)) NotAwaited ∷ [])
    (accepted reply.Taken (event_by note (act.Recoded from to))) (inl (refl, ap (λ a. Some (event_by note a)) w, next))

-- a note that stands beside one that was kept is none to be taken
pub idle_beside : (b : Bool) (h : History) (note : Note) → IsIdle (reported h note (if b then Copy else Conflicting))
idle_beside true h note = (refl, seen_not_taken)
idle_beside false h note = (refl, refused_not_taken _)

by_next : (b : Bool) (h : History) (present taken : ℕ) (note : Note) → note.fit ≡ present
    → (note.count == taken + 1) ≡ b
    → TakesOrNot present taken note (reported h note (if b then Next else After (taken + 1)))
by_next true h present taken note fit q =
    by_act h present taken note note.act refl (fit, eqb-true note.count (taken + 1) q)
by_next false h present taken note fit q = inr (refl, refused_not_taken _)

-- of an earlier fit no further note is taken
by_fit : (b : Bool) (h : History) (present taken : ℕ) (note : Note) → (note.fit == present) ≡ b
    → TakesOrNot present taken note (reported h note (standing_among b taken note []))
by_fit true h present taken note q =
    by_next (note.count == taken + 1) h present taken note (eqb-true note.fit present q) refl
by_fit false h present taken note q = inr (refl, refused_not_taken _)

by_standing : (h : History) (present taken : ℕ) (note : Note) (later : List Note)
    → TakesOrNot present taken note (reported h note (standing_among (note.fit == present) taken note later))
by_standing h present taken note (kept ∷ later) = inr (idle_beside (same_note kept note) h note)
by_standing h present taken note [] = by_fit (note.fit == present) h present taken note refl

-- what comes of a note
pub note_outcome : (h : History) (ahead : List ℕ) (note : Note)
    → TakesOrNot (present_fit h note.room) (length (notes_of h note.room note.fit)) note
    (answer_to h ahead (command.Reported note))
unfolding answer_to
note_outcome h ahead note =
    let present = present_fit h note.room in
    let its = notes_of h note.room note.fit in
    let later = drop (note.count - 1) its in
    checked present (length its) note
    (needs (is_begun h) NotBegun ∷ needs (is_room h note.room) NoRoom ∷ needs (is_fit h note.room note.fit) NoFit ∷ [])
    (reported h note (standing_among (note.fit == present) (length its) note later))
    (by_standing h present (length its) note later)

-- the words of the source play no part
pub same_words : (h : History) (ahead : List ℕ) (note : Note)
    → answer_to h ahead (command.Reported note) ≡ answer_to h [] (command.Reported note)
unfolding answer_to
same_words h ahead note = refl
