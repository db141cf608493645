-- A call of a desk that stands in a building.
use Rattle.std.proofs.Common.{ℕ, ◌≡◌, Bool, true, false, Option, Some, None, List, refl, ap, sym, ◌∙◌}
use Rattle.std.proofs.Common.{subst, inl, inr, option_map}
use Rattle.hotel_model.proofs.Names.{Note, Event, History, ◌▷◌, note_of, issued_codes, draw_from, next_card, next_fit}
use Rattle.hotel_model.proofs.Names.{own_room, Outcome, grown, checks, effect, is_failed}
use Rattle.hotel_model.proofs.Names.{Reached, Steps, StepsIf, Stream, words, rows_of}
unfoldable use Rattle.hotel_model.specs.Answer.{answer_to}
use Rattle.hotel_model.specs.Event as event
use Rattle.hotel_model.specs.declared.command.Command.{Command}
use Rattle.hotel_model.specs.declared.command.Command.TheVariants as command
use Rattle.hotel_model.specs.declared.reply.Reply.{Reply}
use Rattle.keycard_rules.specs.declared.draw.TheConstants.{MOST_WORDS}
use Rattle.hotel_model.proofs.Invariants.Following.{passed_all, same_event, from_draw}
use Rattle.hotel_model.proofs.{Invariants.EventRanges.last_in_range, Lifted.Runs.step_reaches}
use Rattle.hotel_building.specs.Building.{Building, Accepted, Told, ◌▸◌, desk, at_once, event_of, after_first}
use Rattle.hotel_building.specs.Building.{LeavesNothing, Reachable}
use Rattle.hotel_building.specs.Promises.{IsOfStaff}
use Rattle.hotel_building.specs.Calls.{MayAsk, IfAccepted, GoesOn, CallsStayInBuildings, BooksStayInBuildings}
use Rattle.hotel_building.proofs.Whole.{room_of, whole}
use Rattle.hotel_building.proofs.TrueNotes.{true_is_next}
use Rattle.hotel_building.proofs.Promise.{true_notes}

-- the event is no note, and a refit leaves nothing
abbrev pub IsCommands : Building → Event → Type 0
IsCommands b e = (note_of e ≡ None) × LeavesNothing b e

made_by : (b : Building) (a e : Event) → Some a ≡ Some e → IsCommands b a → IsCommands b e
made_by b a e q p = subst (IsCommands b) (same_event q) p

drawn_by : (b : Building) (ahead : List ℕ) (f : ℕ → Event) (e : Event) → ((code : ℕ) → IsCommands b (f code))
    → option_map f (draw_from (issued_codes (desk b)) ahead).code ≡ Some e → IsCommands b e
drawn_by b ahead f e p q =
    let d = from_draw (draw_from (issued_codes (desk b)) ahead).code f e q in subst (IsCommands b) d.2 (p d.0)

by_effect : (b : Building) (ahead : List ℕ) (c : Command) (e : Event) → IsOfStaff c → MayAsk b c
    → (effect (desk b) ahead c).happens ≡ Some e → IsCommands b e
by_effect b ahead (command.Begin day) e staff may q = made_by b (event.Begun day) e q (refl, tt)
by_effect b ahead (command.AddKind kind) e staff may q = made_by b (event.Kind kind) e q (refl, tt)
by_effect b ahead (command.AddRoom room kind) e staff may q =
    drawn_by b ahead (λ code. event.Install room kind code) e (λ code. (refl, tt)) q
by_effect b ahead (command.Reserve guest kind arrive nights) e staff may q = made_by b _ e q (refl, tt)
by_effect b ahead (command.Cancel party) e staff may q = made_by b (event.Cancelled party) e q (refl, tt)
by_effect b ahead (command.CheckIn party room) e staff may q =
    drawn_by b ahead (λ code. event.Issue party room (next_card (desk b)) code) e (λ code. (refl, tt)) q
by_effect b ahead (command.Spare party) e staff may q =
    made_by b (event.Spare party (next_card (desk b))) e q (refl, tt)
by_effect b ahead (command.Reissue party) e staff may q =
    drawn_by b ahead (λ code. event.Issue party (own_room (desk b) party) (next_card (desk b)) code) e
    (λ code. (refl, tt)) q
by_effect b ahead (command.Transfer party room) e staff may q =
    drawn_by b ahead (λ code. event.Issue party room (next_card (desk b)) code) e (λ code. (refl, tt)) q
by_effect b ahead (command.CheckOut party) e staff may q = made_by b (event.CheckOut party) e q (refl, tt)
by_effect b ahead (command.Refit room) e staff may q =
    drawn_by b ahead (λ code. event.Refitted room (next_fit (desk b) room) code) e (λ code. (refl, may)) q
by_effect b ahead command.NextDay e staff may q = made_by b event.NextDay e q (refl, tt)
by_effect b ahead (command.Reported note) e staff may q = elim staff [ ]

-- what an accepted command of the staff does
pub staff_does : (b : Building) (ahead : List ℕ) (c : Command) (e : Event) → IsOfStaff c → MayAsk b c
    → (answer_to (desk b) ahead c).happens ≡ Some e → IsCommands b e
unfolding answer_to
staff_does b ahead c e staff may q =
    by_effect b ahead c e staff may (passed_all (checks (desk b) c) (effect (desk b) ahead c) e q).1

-- what a call leads to
abbrev pub LeadsTo : Building → History → Type 0
LeadsTo b later = (b' : Building) × Reachable b' × GoesOn b b' × (desk b' ≡ later)

-- an answer of the staff's command
staff_leads : (b : Building) (ahead : List ℕ) (c : Command) (o : Option Event) → Reachable b → IsOfStaff c
    → ((e : Event) → (answer_to (desk b) ahead c).happens ≡ Some e → MayAsk b c) → Reached (grown (desk b) o)
    → (answer_to (desk b) ahead c).happens ≡ o → LeadsTo b (grown (desk b) o)
staff_leads b ahead c None ok staff may reached q = (b, ok, inl refl, refl)
staff_leads b ahead c (Some e) ok staff may reached q =
    let does = staff_does b ahead c e staff (may e q) q in (
      b ▸ Accepted e,
      (ok, ((does.0, ahead, c, q, last_in_range (desk b) e reached), does.1)),
      inr (Accepted e, tt, refl),
      refl,
    )

leads_along : (b : Building) (h later : History) → later ≡ h → LeadsTo b h → LeadsTo b later
leads_along b h later e p = subst (LeadsTo b) (sym e) p

staff_calls : (failed : Bool) (b : Building) (source left : Stream) (c : Command) (reply : Reply) (later : History)
    → Reachable b → IsOfStaff c → IfAccepted MayAsk b source c → Reached later
    → StepsIf failed (desk b) source c reply later left → LeadsTo b later
staff_calls true b source left c reply later ok staff may reached p = (b, ok, inl refl, sym p.0)
staff_calls false b source left c reply later ok staff may reached p =
    leads_along b _ later p.1
    (staff_leads b (words MOST_WORDS source) c _ ok staff may (subst Reached p.1 reached) refl)

-- an answer to a note that a lock made
note_leads : (b : Building) (ahead : List ℕ) (note : Note) (o : Option Event) → Reachable b
    → ((e : Event) → (answer_to (desk b) ahead (command.Reported note)).happens ≡ Some e
    → MayAsk b (command.Reported note)) → (answer_to (desk b) ahead (command.Reported note)).happens ≡ o
    → LeadsTo b (grown (desk b) o)
note_leads b ahead note None ok may q = (b, ok, inl refl, refl)
note_leads b ahead note (Some e) ok may q =
    let w = room_of b (whole b ok) note.room in
    let next = true_is_next b (at_once b) note w ahead e (may e q) q in
    let taken = true_notes b (at_once b) note.room w note next.0 ahead next.1 in
    let same : event_of note ≡ e = same_event (sym (ap (λ (o : Outcome Event). o.happens) taken) ∙ q) in (
      b ▸ Told note.room,
      (ok, tt),
      inr (Told note.room, tt, refl),
      ap (after_first (desk b)) next.1 ∙ ap (λ x. desk b ▷ x) same,
    )

note_calls : (failed : Bool) (b : Building) (source left : Stream) (note : Note) (reply : Reply) (later : History)
    → Reachable b → IfAccepted MayAsk b source (command.Reported note)
    → StepsIf failed (desk b) source (command.Reported note) reply later left → LeadsTo b later
note_calls true b source left note reply later ok may p = (b, ok, inl refl, sym p.0)
note_calls false b source left note reply later ok may p =
    leads_along b _ later p.1 (note_leads b (words MOST_WORDS source) note _ ok may refl)

pub call_stays : (b : Building) (source left : Stream) (c : Command) (reply : Reply) (later : History)
    → Reachable b → IfAccepted MayAsk b source c → Reached later → Steps (desk b) source c reply later left
    → LeadsTo b later
call_stays b source left (command.Reported note) reply later ok may reached p =
    note_calls (is_failed reply) b source left note reply later ok may p
call_stays b source left c reply later ok may reached p =
    staff_calls (is_failed reply) b source left c reply later ok tt may reached p

pub calls_stay : CallsStayInBuildings
calls_stay b source left c reply later ok may fits range p =
    call_stays b source left c reply later ok may
    (step_reaches (is_failed reply) (desk b) source c reply later left (whole b ok).desk_ok fits range p) p

pub books_stay : BooksStayInBuildings
books_stay b source left c reply rows later ok stand may fits range leads =
    let w = whole b ok in
    let led = leads (desk b) (w.desk_ok, stand) in
    let to = calls_stay b source left c reply led.0 ok may fits range led.2 in
    (to.0, to.1, to.2, led.1.1 ∙ ap rows_of (sym to.3))
