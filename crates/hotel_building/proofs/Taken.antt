-- A note that may follow is taken.
use Rattle.std.proofs.Common.{ℕ, ◌≡◌, ◌+◌, ◌-◌, true, List, [], ◌∷◌, drop, cond}
use Rattle.std.proofs.Common.{length, ap, sym, ◌∙◌, arith, ◌==◌, nat_le}
use Rattle.std.proofs.lemmas.List.{drop_all}
use Rattle.hotel_model.proofs.Names.{Note, Act, Event, History, ◌▷◌, notes_of, present_fit, is_room}
use Rattle.hotel_model.proofs.Names.{Reached, InRange, Outcome}
use Rattle.hotel_model.proofs.Names.{accepted, needs, unless, told, reported, standing, standing_among, Next, After}
use Rattle.hotel_model.proofs.Names.{IsTimed}
use Rattle.hotel_model.specs.declared.reply.Refusal.TheVariants.{NoCard, CardDiffers, LockShut, NotInside}
use Rattle.hotel_model.specs.declared.reply.Refusal.TheVariants.{HeldDiffers, NotAwaited, NotBegun, NoRoom, NoFit}
unfoldable use Rattle.hotel_model.specs.Answer.{answer_to}
use Rattle.hotel_model.specs.Ranges.{IsCount, IsFit}
use Rattle.hotel_model.specs.declared.command.Command.TheVariants as command
use Rattle.hotel_model.specs.declared.reply.Reply.TheVariants as reply
use Rattle.keycard_rules.specs.declared.note.Act.TheVariants as act
use Rattle.hotel_model.proofs.Facts.Follow.{MayFollow}
use Rattle.hotel_model.proofs.OfTables.Tests.{eq_self, le_self}
use Rattle.hotel_model.proofs.SoundRows.SoundKinds.{begun_with_room}
use Rattle.hotel_model.specs.Refits.{is_fit}
use Rattle.hotel_building.specs.Building.{event_by, event_of}

-- what each note needs: its room is there, its lock is the present one, and it is the next of this lock
pub note_needs : (h : History) (note : Note) (a : Act) → MayFollow h (event_by note a)
    → (note.count ≡ length (notes_of h note.room note.fit) + 1) × (is_room h note.room ≡ true)
    × (note.fit ≡ present_fit h note.room)
note_needs h note (act.Entered number link) m = (m.0, m.1, m.5)
note_needs h note (act.Left number link) m = (m.0, m.1, m.5)
note_needs h note (act.Recoded from to) m = (m.0, m.1, m.4)

-- the note is the next one
is_next : (h : History) (note : Note) → note.count ≡ length (notes_of h note.room note.fit) + 1
    → note.fit ≡ present_fit h note.room → standing h note ≡ Next
is_next h note n f =
    let taken = notes_of h note.room note.fit in
    let none : drop (note.count - 1) taken ≡ [] = drop_all (note.count - 1) taken (omega (arith, n)) in
    ap (λ b. standing_among b (length taken) note (drop (note.count - 1) taken))
    (ap (λ z. note.fit == z) (sym f) ∙ eq_self note.fit)
    ∙ ap (standing_among true (length taken) note) none
    ∙ ap (λ b. cond b Next (After (length taken + 1)))
    (ap (λ z. note.count == z) (sym n) ∙ eq_self note.count)

-- what it says is so
told_so : (h : History) (note : Note) (a : Act) → MayFollow h (event_by note a)
    → told h note a ≡ accepted reply.Taken (event_by note a)
told_so h note (act.Entered number link) m =
    λ i. unless (needs (m.2 i) NoCard ∷ needs (m.3 i) CardDiffers ∷ needs (m.4 i) LockShut ∷ [])
    (accepted reply.Taken (event_by note (act.Entered number link)))
told_so h note (act.Left number link) m =
    λ i. unless (needs (m.2 i) NoCard ∷ needs (m.3 i) CardDiffers ∷ needs (m.4 i) NotInside ∷ [])
    (accepted reply.Taken (event_by note (act.Left number link)))
told_so h note (act.Recoded from to) m =
    λ i. unless (needs (m.2 i) HeldDiffers ∷ needs (m.3 i) NotAwaited ∷ [])
    (accepted reply.Taken (event_by note (act.Recoded from to)))

-- A note that may follow is taken.
pub taken : (h : History) → Reached h → (note : Note) → MayFollow h (event_of note) → (ahead : List ℕ)
    → answer_to h ahead (command.Reported note) ≡ accepted reply.Taken (event_of note)
unfolding answer_to
taken h ok note m ahead =
    let p = note_needs h note note.act m in
    let begun = begun_with_room h ok note.room p.1 in
    let fits : is_fit h note.room note.fit ≡ true =
    ap (λ z. nat_le note.fit z) (sym p.2) ∙ le_self note.fit in
    let so : reported h note (standing h note) ≡ accepted reply.Taken (event_of note) =
    ap (reported h note) (is_next h note p.0 p.2) ∙ told_so h note note.act m in
    λ i. unless (needs (begun i) NotBegun ∷ needs (p.1 i) NoRoom ∷ needs (fits i) NoFit ∷ []) (so i)

-- a history with it can be reached
pub reached_noted : (h : History) → Reached h → (note : Note) → MayFollow h (event_of note) → InRange (event_of note)
    → Reached (h ▷ event_of note)
reached_noted h ok note m range =
    (ok, [], command.Reported note, ap (λ (o : Outcome Event). o.happens) (taken h ok note m []), range)

-- its values are in their ranges
pub note_in_range : (note : Note) (a : Act) → IsCount note.count → IsTimed note.day note.second → IsFit note.fit
    → InRange (event_by note a)
note_in_range note (act.Entered number link) c t f = (c, t, f)
note_in_range note (act.Left number link) c t f = (c, t, f)
note_in_range note (act.Recoded from to) c t f = (c, t, f)
