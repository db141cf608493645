-- In a run a room's notes grow by those that were answered Taken.
use Rattle.std.proofs.Common.{◌≡◌, ◌∙◌, ℕ, Bool, true, false, List, [], ◌∷◌, ◌++◌, Option, Some, None, inl, inr, refl}
use Rattle.std.proofs.Common.{ap, sym, subst, append_assoc, append-nil, ◌==◌}
use Rattle.hotel_books.proofs.Names.{Stream, draw_from, words, Note, answer_to, checks, effect, next_card, next_fit}
use Rattle.hotel_books.proofs.Names.{own_room, Event, note_of, History, issued_codes, notes, with_note, grown, Steps}
use Rattle.hotel_books.proofs.Names.{StepsIf, answered, is_failed, and_last, when}
use Rattle.hotel_model.specs.{declared.command.Command.Command, declared.reply.Reply.Reply}
use Rattle.hotel_model.specs.declared.command.Command.TheVariants as command
use Rattle.hotel_model.specs.declared.reply.Reply.TheVariants as reply
use Rattle.hotel_model.specs.Event as event
use Rattle.hotel_model.proofs.Invariants.Following.{from_draw, passed_all, same_event}
use Rattle.hotel_audit.specs.FilesCounted.{RunsTake, and_before, note_taken, notes_taken}
use Rattle.hotel_audit.proofs.{IdleNotes.noted, NoteOutcomes.note_outcome}

-- the command reports no note
abbrev IsOther : Command → Type 0
IsOther (command.Reported note) = ⊥
IsOther _ = Unit {0}

-- what happened, if anything, took no note
abbrev TookNone : Option Event → Type 0
TookNone (Some e) = note_of e ≡ None
TookNone None = Unit {0}

is_event : (e its : Event) → its ≡ e → note_of its ≡ None → note_of e ≡ None
is_event e its same none = subst (λ x. note_of x ≡ None) same none

effect_took_none : (h : History) (ahead : List ℕ) (c : Command) (e : Event)
    → IsOther c → (effect h ahead c).happens ≡ Some e → note_of e ≡ None
effect_took_none h ahead (command.Begin day) e o q = is_event e _ (same_event q) refl
effect_took_none h ahead (command.AddKind kind) e o q = is_event e _ (same_event q) refl
effect_took_none h ahead (command.AddRoom room kind) e o q =
    let d = from_draw (draw_from (issued_codes h) ahead).code (λ code. event.Install room kind code) e q in
    is_event e _ d.2 refl
effect_took_none h ahead (command.Reserve guest kind arrive nights) e o q = is_event e _ (same_event q) refl
effect_took_none h ahead (command.Cancel party) e o q = is_event e _ (same_event q) refl
effect_took_none h ahead (command.CheckIn party room) e o q =
    let d = from_draw (draw_from (issued_codes h) ahead).code (λ code. event.Issue party room (next_card h) code) e q in
    is_event e _ d.2 refl
effect_took_none h ahead (command.Spare party) e o q = is_event e _ (same_event q) refl
effect_took_none h ahead (command.Reissue party) e o q =
    let d = from_draw (draw_from (issued_codes h) ahead).code
    (λ code. event.Issue party (own_room h party) (next_card h) code) e q in
    is_event e _ d.2 refl
effect_took_none h ahead (command.Transfer party room) e o q =
    let d = from_draw (draw_from (issued_codes h) ahead).code (λ code. event.Issue party room (next_card h) code) e q in
    is_event e _ d.2 refl
effect_took_none h ahead (command.CheckOut party) e o q = is_event e _ (same_event q) refl
effect_took_none h ahead (command.Refit room) e o q =
    let drawn = (draw_from (issued_codes h) ahead).code in
    let d = from_draw drawn (λ code. event.Refitted room (next_fit h room) code) e q in
    is_event e _ d.2 refl
effect_took_none h ahead command.NextDay e o q = is_event e _ (same_event q) refl
effect_took_none h ahead (command.Reported note) e o q = absurd o

answer_took_none : (h : History) (ahead : List ℕ) (c : Command) (e : Event)
    → IsOther c → (answer_to h ahead c).happens ≡ Some e → note_of e ≡ None
unfolding answer_to
answer_took_none h ahead c e o q = effect_took_none h ahead c e o (passed_all (checks h c) (effect h ahead c) e q).1

notes_stay : (h : History) (o : Option Event) (r : ℕ) → TookNone o → notes (grown h o) r ≡ notes h r
notes_stay h (Some e) r none = ap (λ n. with_note r n (notes h r)) none
notes_stay h None r none = refl

took_none : (h : History) (ahead : List ℕ) (c : Command) (o : Option Event)
    → IsOther c → (answer_to h ahead c).happens ≡ o → TookNone o
took_none h ahead c (Some e) other q = answer_took_none h ahead c e other q
took_none h ahead c None other q = tt

other_stays : (b : Bool) (h : History) (s : Stream) (c : Command) (p : Reply) (h' : History) (s' : Stream) (r : ℕ)
    → IsOther c → StepsIf b h s c p h' s' → notes h' r ≡ notes h r
other_stays true h s c p h' s' r other d = ap (λ z. notes z r) d.0
other_stays false h s c p h' s' r other d =
    ap (λ z. notes z r) d.1
    ∙ notes_stay h (answered h s c).happens r (took_none h (words 64 s) c (answered h s c).happens other refl)

not_taken : (note : Note) (p : Reply) → (p ≡ reply.Taken → ⊥) → note_taken (command.Reported note) p ≡ None
not_taken note reply.Taken f = absurd (f refl)
not_taken note _ f = refl

failed_not_taken : (p : Reply) → is_failed p ≡ true → p ≡ reply.Taken → ⊥
failed_not_taken p f e = let w = ap is_failed (sym e) ∙ f in cc w

note_step : (b : Bool) (h : History) (s : Stream) (note : Note) (p : Reply) (h' : History) (s' : Stream) (r : ℕ)
    → is_failed p ≡ b → StepsIf b h s (command.Reported note) p h' s'
    → notes h' r ≡ with_note r (note_taken (command.Reported note) p) (notes h r)
note_step true h s note p h' s' r f d =
    ap (λ z. notes z r) d.0 ∙ ap (λ o. with_note r o (notes h r)) (sym (not_taken note p (failed_not_taken p f)))
note_step false h s note p h' s' r f d =
    elim (note_outcome h (words 64 s) note) [
      | inl t ↦
          let took : note_taken (command.Reported note) p ≡ Some note =
          ap (note_taken (command.Reported note)) (d.0 ∙ t.0) in
          ap (λ z. notes z r) (d.1 ∙ ap (grown h) t.1) ∙ ap (λ o. with_note r o (notes h r)) (noted note ∙ sym took)
      | inr n ↦
          ap (λ z. notes z r) (d.1 ∙ ap (grown h) n.0)
          ∙ ap (λ o. with_note r o (notes h r)) (sym (not_taken note p (λ e. n.1 (sym d.0 ∙ e))))
    ]

-- a step's notes
step_takes : (h : History) (s : Stream) (c : Command) (p : Reply) (h' : History) (s' : Stream) (r : ℕ)
    → Steps h s c p h' s' → notes h' r ≡ with_note r (note_taken c p) (notes h r)
step_takes h s (command.Reported note) p h' s' r d = note_step (is_failed p) h s note p h' s' r refl d
step_takes h s (command.Begin day) p h' s' r d = other_stays (is_failed p) h s (command.Begin day) p h' s' r tt d
step_takes h s (command.AddKind kind) p h' s' r d = other_stays (is_failed p) h s (command.AddKind kind) p h' s' r tt d
step_takes h s (command.AddRoom room kind) p h' s' r d =
    other_stays (is_failed p) h s (command.AddRoom room kind) p h' s' r tt d
step_takes h s (command.Reserve guest kind arrive nights) p h' s' r d =
    other_stays (is_failed p) h s (command.Reserve guest kind arrive nights) p h' s' r tt d
step_takes h s (command.Cancel party) p h' s' r d = other_stays (is_failed p) h s (command.Cancel party) p h' s' r tt d
step_takes h s (command.CheckIn party room) p h' s' r d =
    other_stays (is_failed p) h s (command.CheckIn party room) p h' s' r tt d
step_takes h s (command.Spare party) p h' s' r d = other_stays (is_failed p) h s (command.Spare party) p h' s' r tt d
step_takes h s (command.Reissue party) p h' s' r d =
    other_stays (is_failed p) h s (command.Reissue party) p h' s' r tt d
step_takes h s (command.Transfer party room) p h' s' r d =
    other_stays (is_failed p) h s (command.Transfer party room) p h' s' r tt d
step_takes h s (command.CheckOut party) p h' s' r d =
    other_stays (is_failed p) h s (command.CheckOut party) p h' s' r tt d
step_takes h s (command.Refit room) p h' s' r d = other_stays (is_failed p) h s (command.Refit room) p h' s' r tt d
step_takes h s command.NextDay p h' s' r d = other_stays (is_failed p) h s command.NextDay p h' s' r tt d

note_moved : (b : Bool) (note : Note) (taken later : List Note)
    → when b (and_last note) taken ++ later ≡ taken ++ when b (λ ns. note ∷ ns) later
note_moved true note taken later = append_assoc taken (note ∷ []) later
note_moved false note taken later = refl

moved : (r : ℕ) (o : Option Note) (taken later : List Note)
    → with_note r o taken ++ later ≡ taken ++ and_before r o later
moved r (Some note) taken later = note_moved (note.room == r) note taken later
moved r None taken later = refl

pub runs_take : RunsTake
runs_take h h' s s' [] [] r run = ap (λ z. notes z r) run.0 ∙ sym (append-nil (notes h r))
runs_take h h' s s' (c ∷ commands) (p ∷ replies) r run =
    runs_take run.0 h' run.1 s' commands replies r run.3
    ∙ ap (λ ns. ns ++ notes_taken r commands replies) (step_takes h s c p run.0 run.1 r run.2)
    ∙ moved r (note_taken c p) (notes h r) (notes_taken r commands replies)
runs_take h h' s s' [] (p ∷ replies) r run = absurd run
runs_take h h' s s' (c ∷ commands) [] r run = absurd run
