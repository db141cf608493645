-- Calls one after the other, of a desk that stands in a building.
use Rattle.std.proofs.Common.{ℕ, ◌≡◌, Bool, true, false, Option, Some, None, List, [], ◌∷◌, refl, sym}
use Rattle.std.proofs.Common.{subst, inl, inr, Contains, ◌==◌}
use Rattle.std.specs.Prelude.{All}
use Rattle.std.proofs.lemmas.List.Elements.{All-head, All-tail, Contains-append_left}
use Rattle.hotel_model.proofs.Names.{Note, Event, Install, Refitted, note_of, notes, with_note, when, and_last}
use Rattle.hotel_model.proofs.Names.{History, Reached, Steps, StepsIf, Stream, grown, is_failed}
use Rattle.hotel_model.specs.Run.{Runs}
use Rattle.hotel_model.specs.declared.command.Command.{Command}
use Rattle.hotel_model.specs.declared.command.Command.TheVariants as command
use Rattle.hotel_model.specs.declared.reply.Reply.{Reply}
use Rattle.hotel_building.specs.Building.{Building, Step, Accepted, Told, Forged, ◌▸◌, Door, door, desk}
use Rattle.hotel_building.specs.Building.{at_once, heard, new_door, refitted}
use Rattle.hotel_building.specs.Calls.{MayAsk, IfAccepted, IsOfDesk, GoesOn, NoMoreBad, Houses, faultless}
use Rattle.hotel_building.specs.Calls.{but_for_faults, LedBy, LedOn, RunsStay, MayAllBeAsked}
use Rattle.hotel_building.proofs.{Calls.call_stays, CallsBut.call_stays_but, Faults.no_fault_is_one}

-- a note that was there is
pub still_noted : (r : ℕ) (o : Option Note) (ns : List Note) (n : Note) → Contains ns n → Contains (with_note r o ns) n
still_noted r None ns n c = c
still_noted r (Some x) ns n c = by (x.room == r)
  where
    by : (b : Bool) → Contains (when b (and_last x) ns) n
    by true = Contains-append_left ns (x ∷ []) n c
    by false = c

none_in : (b : Bool) (f : Door → Door) (d : Door) → (f d).inside ≡ [] → d.inside ≡ [] → (when b f d).inside ≡ []
none_in true f d e q = e
none_in false f d e q = q

still_out : (b : Building) (e : Event) (r : ℕ) → (door b r).inside ≡ [] → (door (b ▸ Accepted e) r).inside ≡ []
still_out b (Install room kind code) r q = none_in (room == r) (λ _. new_door room code) (door b r) refl q
still_out b (Refitted room fit code) r q = none_in (room == r) (refitted room fit code) (door b r) q q
still_out b e r q = q

may_stay : (b : Building) (step : Step) → IsOfDesk step → (c : Command) → MayAsk b c → MayAsk (b ▸ step) c
may_stay b (Accepted e) d (command.Reported note) m =
    still_noted note.room (note_of e) (notes (at_once b) note.room) note m
may_stay b (Accepted e) d (command.Refit room) m = still_out b e room m
may_stay b (Accepted e) d c m = tt
may_stay b (Told r) d (command.Reported note) m = m
may_stay b (Told r) d (command.Refit room) m = none_in (r == room) heard (door b room) m m
may_stay b (Told r) d c m = tt
may_stay b (Forged note) d (command.Reported x) m = m
may_stay b (Forged note) d (command.Refit room) m = m
may_stay b (Forged note) d c m = tt
may_stay b step d c m = elim d [ ]

goes_on : (b b' : Building) → GoesOn b b' → (c : Command) → MayAsk b c → MayAsk b' c
goes_on b b' (inl e) c m = subst (λ z. MayAsk z c) (sym e) m
goes_on b b' (inr (step, d, e)) c m = subst (λ z. MayAsk z c) (sym e) (may_stay b step d c m)

all_go_on : (b b' : Building) → GoesOn b b' → (cs : List Command) → All (MayAsk b) cs → All (MayAsk b') cs
all_go_on b b' g cs a = λ k d l. goes_on b b' g _ (a k d l)

pub may_all_be_asked : MayAllBeAsked
may_all_be_asked b source [] may = tt
may_all_be_asked b source (c ∷ cs) may = (
  λ e q. All-head (MayAsk b) c cs may,
  λ next reply left ok g step. may_all_be_asked next left cs (all_go_on b next g cs (All-tail (MayAsk b) c cs may)),
)

-- ---- runs

before_growing : (h : History) (o : Option Event) → Reached (grown h o) → Reached h
before_growing h None ok = ok
before_growing h (Some e) ok = ok.0

before_step : (failed : Bool) (h : History) (s : Stream) (c : Command) (reply : Reply) (later : History) (left : Stream)
    → StepsIf failed h s c reply later left → Reached later → Reached h
before_step true h s c reply later left p ok = subst Reached p.0 ok
before_step false h s c reply later left p ok = before_growing h _ (subst Reached p.1 ok)

-- where the end of a run can be reached, so can its beginning
before_run : (h : History) (s : Stream) (cs : List Command) (rs : List Reply) (later : History) (left : Stream)
    → Runs h s cs rs later left → Reached later → Reached h
before_run h s [] [] later left runs ok = subst Reached runs.0 ok
before_run h s (c ∷ cs) (r ∷ rs) later left (mid, t, step, runs) ok =
    before_step (is_failed r) h s c r mid t step (before_run mid t cs rs later left runs ok)
before_run h s [] (r ∷ rs) later left runs ok = elim runs [ ]
before_run h s (c ∷ cs) [] later left runs ok = elim runs [ ]

-- one call stays
abbrev CallStays : Houses → Type 0
CallStays houses = (b : Building) (source left : Stream) (c : Command) (reply : Reply) (later : History)
    → houses.can_be b → IfAccepted houses.may_ask b source c → Reached later → Steps (desk b) source c reply later left
    → (b' : Building) × houses.can_be b' × GoesOn b b' × (desk b' ≡ later) × NoMoreBad b b'

led_first : (b mid b' : Building) → GoesOn b mid → LedOn mid b' → LedOn b b'
led_first b mid b' (inl e) led = subst (λ z. LedOn z b') e led
led_first b mid b' (inr (step, d, e)) led = (step ∷ led.0, (d, subst (λ z. LedBy z led.0 b') e led.1))

-- so do calls one after the other
runs_by : (houses : Houses) → CallStays houses → RunsStay houses
runs_by houses call b source left [] [] later ok may reached runs =
    (b, ok, ([], refl), λ r good. good, sym runs.0)
runs_by houses call b source left (c ∷ cs) (r ∷ rs) later ok may reached (mid, s, step, runs) =
    let one = call b source s c r mid ok may.0 (before_run mid s cs rs later left runs reached) step in
    let b' = one.0 in
    let step' : Steps (desk b) source c r (desk b') s =
    subst (λ h. Steps (desk b) source c r h s) (sym one.3) step in
    let rest = runs_by houses call b' s left cs rs later one.1 (may.1 b' r s one.1 one.2 step') reached
    (subst (λ h. Runs h s cs rs later left) (sym one.3) runs) in
    (rest.0, rest.1, led_first b b' rest.0 one.2 rest.2, λ r good. rest.3 r (one.4 r good), rest.4)
runs_by houses call b source left [] (r ∷ rs) later ok may reached runs = elim runs [ ]
runs_by houses call b source left (c ∷ cs) [] later ok may reached runs = elim runs [ ]

pub runs_stay : RunsStay faultless
runs_stay = runs_by faultless (λ b source left c reply later ok may reached step.
    let one = call_stays b source left c reply later ok may reached step in
    (one.0, one.1, one.2, one.3, λ r good. (no_fault_is_one one.0 one.1).1 r))

pub runs_stay_but : RunsStay but_for_faults
runs_stay_but = runs_by but_for_faults call_stays_but
