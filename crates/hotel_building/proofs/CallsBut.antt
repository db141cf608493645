-- A call of a desk that stands in a building whose doors may fail.
use Rattle.std.proofs.Common.{ℕ, ◌≡◌, Bool, true, false, Option, Some, None, List, refl, ap, sym, ◌∙◌, subst, inl, inr}
use Rattle.std.proofs.Common.{◌==◌, ◌||◌}
use Rattle.hotel_model.proofs.Names.{Note, Event, History, ◌▷◌, grown, is_failed, Reached, Steps, StepsIf, Stream}
use Rattle.hotel_model.proofs.Names.{words, InRange}
use Rattle.hotel_model.specs.Answer.{answer_to}
use Rattle.hotel_model.specs.declared.command.Command.{Command}
use Rattle.hotel_model.specs.declared.command.Command.TheVariants as command
use Rattle.hotel_model.specs.declared.reply.Reply.{Reply}
use Rattle.keycard_rules.specs.declared.draw.TheConstants.{MOST_WORDS}
use Rattle.hotel_model.proofs.OfTables.Tests.{eq_from, not_both, either_way}
use Rattle.hotel_model.proofs.{Invariants.EventRanges.last_in_range, Lifted.Runs.step_reaches}
use Rattle.hotel_building.specs.Building.{Building, Accepted, Told, Forged, ◌▸◌, desk, after_first}
use Rattle.hotel_building.specs.Promises.{IsOfStaff}
use Rattle.hotel_building.specs.Faults.{is_bad, room_at_once, ReachableBut}
use Rattle.hotel_building.specs.Calls.{MayAsk, MayAskBut, IfAccepted, GoesOn, NoMoreBad}
use Rattle.hotel_building.specs.Calls.{CallsStayButForFaults}
use Rattle.hotel_building.proofs.TrueNotes.{true_is_next, event_taken}
use Rattle.hotel_building.proofs.Calls.{staff_does}
use Rattle.hotel_building.proofs.Faults.{faults_harm_their_doors, room_but, not_bad}

-- what a call leads to
abbrev pub LeadsTo : Building → History → Type 0
LeadsTo b later = (b' : Building) × ReachableBut b' × GoesOn b b' × (desk b' ≡ later)
    × NoMoreBad b b'

stays : (b : Building) → ReachableBut b → LeadsTo b (desk b)
stays b ok = (b, ok, inl refl, refl, λ r q. q)

staff_leads : (b : Building) (ahead : List ℕ) (c : Command) (o : Option Event) → ReachableBut b → IsOfStaff c
    → ((e : Event) → (answer_to (desk b) ahead c).happens ≡ Some e → MayAsk b c) → Reached (grown (desk b) o)
    → (answer_to (desk b) ahead c).happens ≡ o → LeadsTo b (grown (desk b) o)
staff_leads b ahead c None ok staff may reached q = stays b ok
staff_leads b ahead c (Some e) ok staff may reached q =
    let does = staff_does b ahead c e staff (may e q) q in (
      b ▸ Accepted e,
      (ok, ((does.0, ahead, c, q, last_in_range (desk b) e reached), does.1)),
      inr (Accepted e, tt, refl),
      refl,
      not_bad b e,
    )

-- a bad room stays the only one
no_more : (b : Building) (note : Note) → is_bad b note.room ≡ true → (r : ℕ) → is_bad b r ≡ false
    → is_bad (b ▸ Forged note) r ≡ false
no_more b note bad r q = elim (either_way (note.room == r)) [
  | inl m ↦ not_both (is_bad b note.room) bad (ap (is_bad b) (eq_from note.room r m) ∙ q)
  | inr f ↦ ap (λ z. z || is_bad b r) f ∙ q
]

note_leads : (b : Building) (ahead : List ℕ) (note : Note) (o : Option Event) → ReachableBut b
    → ((e : Event) → (answer_to (desk b) ahead (command.Reported note)).happens ≡ Some e
    → MayAskBut b (command.Reported note)) → Reached (grown (desk b) o)
    → (answer_to (desk b) ahead (command.Reported note)).happens ≡ o → LeadsTo b (grown (desk b) o)
note_leads b ahead note None ok may reached q = stays b ok
note_leads b ahead note (Some e) ok may reached q =
    let same = event_taken (desk b) ahead note e q in
    elim (either_way (is_bad b note.room)) [
      | inl bad ↦ (
        b ▸ Forged note,
        (
          ok,
          (
            ahead,
            q ∙ ap (λ x. Some x) (sym same),
            subst (λ x. InRange x) (sym same) (last_in_range (desk b) e reached),
          ),
        ),
        inr (Forged note, tt, refl),
        ap (λ x. desk b ▷ x) same,
        no_more b note bad,
      )
      | inr good ↦
          let w = room_but b ok note.room good in
          let next = true_is_next b (room_at_once b note.room) note w ahead e (may e q good) q in (
            b ▸ Told note.room,
            (ok, good),
            inr (Told note.room, tt, refl),
            ap (after_first (desk b)) next.1 ∙ ap (λ x. desk b ▷ x) same,
            λ r z. z,
          )
    ]

leads_along : (b : Building) (h later : History) → later ≡ h → LeadsTo b h → LeadsTo b later
leads_along b h later e p = subst (LeadsTo b) (sym e) p

staff_calls : (failed : Bool) (b : Building) (source left : Stream) (c : Command) (reply : Reply) (later : History)
    → ReachableBut b → IsOfStaff c → IfAccepted MayAsk b source c → Reached later
    → StepsIf failed (desk b) source c reply later left → LeadsTo b later
staff_calls true b source left c reply later ok staff may reached p =
    leads_along b (desk b) later p.0 (stays b ok)
staff_calls false b source left c reply later ok staff may reached p =
    leads_along b _ later p.1
    (staff_leads b (words MOST_WORDS source) c _ ok staff may (subst Reached p.1 reached) refl)

note_calls : (failed : Bool) (b : Building) (source left : Stream) (note : Note) (reply : Reply) (later : History)
    → ReachableBut b → IfAccepted MayAskBut b source (command.Reported note) → Reached later
    → StepsIf failed (desk b) source (command.Reported note) reply later left → LeadsTo b later
note_calls true b source left note reply later ok may reached p = leads_along b (desk b) later p.0 (stays b ok)
note_calls false b source left note reply later ok may reached p =
    leads_along b _ later p.1
    (note_leads b (words MOST_WORDS source) note _ ok may (subst Reached p.1 reached) refl)

pub call_stays_but : (b : Building) (source left : Stream) (c : Command) (reply : Reply) (later : History)
    → ReachableBut b → IfAccepted MayAskBut b source c → Reached later → Steps (desk b) source c reply later left
    → LeadsTo b later
call_stays_but b source left (command.Reported note) reply later ok may reached p =
    note_calls (is_failed reply) b source left note reply later ok may reached p
call_stays_but b source left c reply later ok may reached p =
    staff_calls (is_failed reply) b source left c reply later ok tt may reached p

pub calls_stay_but : CallsStayButForFaults
calls_stay_but b source left c reply later ok may fits range p =
    call_stays_but b source left c reply later ok may
    (step_reaches (is_failed reply) (desk b) source c reply later left (faults_harm_their_doors b ok).0 fits range p) p
