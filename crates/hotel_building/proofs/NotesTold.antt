-- Notes one after the other, at a desk in a building whose doors may fail: each that may be told at first may be told
-- in its turn.
use Rattle.std.proofs.Common.{ℕ, suc, ◌≡◌, Bool, true, false, not, ◌||◌, ◌==◌, Option, Some, None, List, [], ◌∷◌}
use Rattle.std.proofs.Common.{refl, ap, sym, ◌∙◌, subst, inl, inr, Contains, arith}
use Rattle.std.specs.Prelude.{All}
use Rattle.std.proofs.lemmas.List.Elements.{All-head, All-tail}
use Rattle.keycard_rules.specs.declared.note.Act.TheVariants as act
use Rattle.hotel_model.proofs.Names.{Note, Act, Event, History, start, ◌▷◌, note_of, notes, when, grown, is_failed}
use Rattle.hotel_model.proofs.Names.{Steps, StepsIf, Stream, words}
use Rattle.hotel_model.specs.Run.{answered}
use Rattle.keycard_rules.specs.declared.draw.TheConstants.{MOST_WORDS}
use Rattle.hotel_model.specs.declared.command.Command.{Command}
use Rattle.hotel_model.specs.declared.command.Command.TheVariants as command
use Rattle.hotel_model.specs.declared.reply.Reply.{Reply}
use Rattle.hotel_building.specs.Building.{Building, Step, Accepted, Told, Forged, ◌▸◌, door, desk, event_by, event_of}
use Rattle.hotel_building.specs.Building.{after_first}
use Rattle.hotel_building.specs.Promises.{IsOfStaff}
use Rattle.hotel_building.specs.Faults.{is_bad, room_at_once, ReachableBut}
use Rattle.hotel_building.specs.Calls.{MayAskBut, IsOfDesk, GoesOn, MayRun, but_for_faults, NotesMayBeAsked}
use Rattle.hotel_building.proofs.{RunsStay.still_noted, TrueNotes.event_taken}

-- ---- what a step leaves of the notes

after_one : (h : History) (xs : List Note) (r : ℕ) (n : Note) → Contains (notes h r) n
    → Contains (notes (after_first h xs) r) n
after_one h [] r n c = c
after_one h (x ∷ xs) r n c = still_noted r (note_of (event_of x)) (notes h r) n c

when_after : (b : Bool) (h : History) (xs : List Note) (r : ℕ) (n : Note) → Contains (notes h r) n
    → Contains (notes (when b (λ h. after_first h xs) h) r) n
when_after true h xs r n c = after_one h xs r n c
when_after false h xs r n c = c

or_false : (a b : Bool) → (a || b) ≡ false → b ≡ false
or_false true b e = cc
or_false false b e = e

after_told : (b : Building) (r : ℕ) (n : Note) → MayAskBut b (command.Reported n)
    → MayAskBut (b ▸ Told r) (command.Reported n)
after_told b r n may = λ good.
    when_after (not (r == n.room)) (room_at_once b n.room) (door b r).unread n.room n (may good)

after_forged : (b : Building) (x n : Note) → MayAskBut b (command.Reported n)
    → MayAskBut (b ▸ Forged x) (command.Reported n)
after_forged b x n may = λ good. still_noted n.room (note_of (event_of x)) (notes (room_at_once b n.room) n.room) n
    (may (or_false (x.room == n.room) (is_bad b n.room) good))

-- ---- a note makes no other step

size : History → ℕ
size (start t) = 0
size (h ▷ e) = suc (size h)

grows : (h : History) (e : Event) → h ▷ e ≡ h → ⊥
unfolding size
grows h e q = let s : suc (size h) ≡ size h = ap size q in absurd (omega arith)

last_of : Event → History → Event
last_of other (start t) = other
last_of other (h ▷ e) = e

same_last : (h : History) (a e : Event) → h ▷ a ≡ h ▷ e → a ≡ e
unfolding last_of
same_last h a e q = ap (last_of a) q

is_note : (x : Note) (a : Act) → note_of (event_by x a) ≡ None → ⊥
is_note x (act.Entered number link) q = cc
is_note x (act.Left number link) q = cc
is_note x (act.Recoded from to) q = cc

no_event : (h : History) (ahead : List ℕ) (x : Note) (a : Event) (o : Option Event)
    → (answered_at : (e : Event) → o ≡ Some e → event_of x ≡ e) → note_of a ≡ None → h ▷ a ≡ grown h o → ⊥
no_event h ahead x a None taken none q = grows h a q
no_event h ahead x a (Some e) taken none q =
    is_note x x.act (ap note_of (taken e refl ∙ sym (same_last h a e q)) ∙ none)

not_accepted : (failed : Bool) (h : History) (source left : Stream) (x : Note) (reply : Reply) (a : Event)
    → note_of a ≡ None → StepsIf failed h source (command.Reported x) reply (h ▷ a) left → ⊥
not_accepted true h source left x reply a none p = grows h a p.0
not_accepted false h source left x reply a none p =
    no_event h (words MOST_WORDS source) x a (answered h source (command.Reported x)).happens
    (λ e q. event_taken h (words MOST_WORDS source) x e q) none p.1

-- ---- notes in their turn

stays_told : (b : Building) (source left : Stream) (x : Note) (reply : Reply) (step : Step) → IsOfDesk step
    → ReachableBut (b ▸ step) → Steps (desk b) source (command.Reported x) reply (desk (b ▸ step)) left
    → (n : Note) → MayAskBut b (command.Reported n) → MayAskBut (b ▸ step) (command.Reported n)
stays_told b source left x reply (Accepted a) d ok steps n may =
    absurd (not_accepted (is_failed reply) (desk b) source left x reply a ok.1.0.0 steps)
stays_told b source left x reply (Told r) d ok steps n may = after_told b r n may
stays_told b source left x reply (Forged y) d ok steps n may = after_forged b y n may
stays_told b source left x reply step d ok steps n may = absurd d

goes_told : (b next : Building) (source left : Stream) (x : Note) (reply : Reply) → GoesOn b next → ReachableBut next
    → Steps (desk b) source (command.Reported x) reply (desk next) left
    → (n : Note) → MayAskBut b (command.Reported n) → MayAskBut next (command.Reported n)
goes_told b next source left x reply (inl e) ok steps n may = subst (λ z. MayAskBut z (command.Reported n)) (sym e) may
goes_told b next source left x reply (inr (step, d, e)) ok steps n may =
    subst (λ z. MayAskBut z (command.Reported n)) (sym e)
    (stays_told b source left x reply step d (subst ReachableBut e ok)
    (subst (λ z. Steps (desk b) source (command.Reported x) reply (desk z) left) e steps) n may)

-- one of the commands is a note that may be told
abbrev IsTold : Building → Command → Type 0
IsTold b c = (IsOfStaff c → ⊥) × MayAskBut b c

told_later : (b next : Building) (source left : Stream) (x : Note) (reply : Reply) → GoesOn b next
    → ReachableBut next → Steps (desk b) source (command.Reported x) reply (desk next) left
    → (c : Command) → IsTold b c → IsTold next c
told_later b next source left x reply on ok steps (command.Reported n) told =
    (told.0, goes_told b next source left x reply on ok steps n told.1)
told_later b next source left x reply on ok steps c told = absurd (told.0 tt)

first_may : (b : Building) (source : Stream) (c : Command) (cs : List Command) → IsTold b c
    → ((next : Building) (left : Stream) → All (IsTold next) cs → MayRun but_for_faults next left cs)
    → All (IsTold b) cs → MayRun but_for_faults b source (c ∷ cs)
first_may b source (command.Reported x) cs told rest all = (
  λ e q. told.1,
  λ next reply left ok on steps.
      rest next left (λ k d l. told_later b next source left x reply on ok steps _ (all k d l)),
)
first_may b source c cs told rest all = absurd (told.0 tt)

pub notes_may_be_asked : NotesMayBeAsked
notes_may_be_asked b source [] all = tt
notes_may_be_asked b source (c ∷ cs) all = first_may b source c cs (All-head (IsTold b) c cs all)
    (λ next left more. notes_may_be_asked next left cs more) (All-tail (IsTold b) c cs all)
