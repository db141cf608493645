-- The event of an answer to a command in range, with a reply in range, is in range.
use Rattle.std.proofs.Common.{ℕ, ◌≡◌, ◌≤◌, ◌+◌, false, Option, Some, None, List, [], ◌∷◌, refl, sym, subst, arith}
use Rattle.std.proofs.Common.{nat_lt}
use Rattle.hotel_model.proofs.Names.{Act, Note, draw_from, Command, Reply, Refusal, NoCard, CardDiffers, LockShut}
use Rattle.hotel_model.proofs.Names.{NotInside, HeldDiffers, NotAwaited, is_one_of, Event, History, ◌▷◌, IsCommand}
use Rattle.hotel_model.proofs.Names.{IsReply, InRange, issued_codes, card_of, link_to, inside, awaited, Standing, Next}
use Rattle.hotel_model.proofs.Names.{standing, is_card, has_link, opens, next_card, next_fit, own_room, Outcome, unless}
use Rattle.hotel_model.proofs.Names.{needs, by_draw, accepted, grown, answer_to, checks, effect, reported, told}
use Rattle.hotel_model.proofs.Names.{moment_of, Reached}
use Rattle.std.proofs.lemmas.Bool.{ltb-false}
use Rattle.keycard_rules.specs.declared.note.Act.TheVariants as act
use Rattle.hotel_model.specs.declared.command.Command.TheVariants as command
use Rattle.hotel_model.specs.declared.reply.Reply.TheVariants as reply
use Rattle.hotel_model.specs.Event as event
use Rattle.hotel_model.specs.Cases.{holds}
use Rattle.hotel_model.proofs.Invariants.Following.{AllPass, passed_all, same_event, barred}

-- where something happens, the reply is that of what comes after the checks
passed_reply : (checks : List (Option Refusal)) (o : Outcome Event) (e : Event)
    → (unless checks o).happens ≡ Some e → (unless checks o).reply ≡ o.reply
passed_reply [] o e h = refl
passed_reply (Some refusal ∷ checks) o e h = cc
passed_reply (None ∷ checks) o e h = passed_reply checks o e h

-- an event with a drawn code is in range where the reply that names the code is
drawn_in_range : (found : Option ℕ) (examined : ℕ) (r : ℕ → Reply) (f : ℕ → Event) (e : Event)
    → ((code : ℕ) → IsReply (r code) → InRange (f code))
    → (by_draw (record { code = found; examined = examined }) r f).happens ≡ Some e
    → IsReply (by_draw (record { code = found; examined = examined }) r f).reply → InRange e
drawn_in_range (Some code) examined r f e fits q s = subst (λ x. InRange x) (same_event q) (fits code s)
drawn_in_range None examined r f e fits q s = cc

by_act : (h : History) (note : Note) (its_act : Act) (e : Event)
    → IsCommand (command.Reported note) → (told h note its_act).happens ≡ Some e → InRange e
by_act h note (act.Entered number link) e n q =
    let p = passed_all (needs (is_card h number) NoCard ∷ needs (has_link h number link) CardDiffers
    ∷ needs (opens h note.room link) LockShut ∷ [])
    (accepted reply.Taken (event.Entered note.room note.fit note.count number link (moment_of note))) e q in
    subst (λ x. InRange x) (same_event p.1) n
by_act h note (act.Left number link) e n q =
    let p = passed_all (needs (is_card h number) NoCard ∷ needs (has_link h number link) CardDiffers
    ∷ needs (is_one_of number (inside h note.room)) NotInside ∷ [])
    (accepted reply.Taken (event.Left note.room note.fit note.count number link (moment_of note))) e q in
    subst (λ x. InRange x) (same_event p.1) n
by_act h note (act.Recoded from to) e n q =
    let p =
    passed_all (needs (holds h note.room from) HeldDiffers ∷ needs (is_one_of to (awaited h note.room)) NotAwaited ∷ [])
    (accepted reply.Taken (event.Recoded note.room note.fit note.count from to (moment_of note))) e q in
    subst (λ x. InRange x) (same_event p.1) n

by_standing : (h : History) (note : Note) (s : Standing) (e : Event)
    → IsCommand (command.Reported note) → (reported h note s).happens ≡ Some e → InRange e
by_standing h note Next e n q = by_act h note note.act e n q
by_standing h note _ e n q = cc

before_end : (depart : ℕ) → nat_lt 36524 depart ≡ false → depart ≤ 36524
before_end depart f = ltb-false 36524 depart f

range_if : (h : History) (ahead : List ℕ) (command : Command) (e : Event)
    → IsCommand command → AllPass (checks h command) → IsReply (effect h ahead command).reply
    → (effect h ahead command).happens ≡ Some e → InRange e
range_if h ahead (command.Begin day) e n p r q = subst (λ x. InRange x) (same_event q) n
range_if h ahead (command.AddKind kind) e n p r q = subst (λ x. InRange x) (same_event q) n
range_if h ahead (command.AddRoom room kind) e n p r q =
    let d = draw_from (issued_codes h) ahead in
    drawn_in_range d.code d.examined (λ code. reply.RoomAdded code)
    (λ code. event.Install room kind code) e (λ code s. (n, s)) q r
range_if h ahead (command.Reserve guest kind arrive nights) e n p r q =
    let last : arrive + nights ≤ 36524 =
    before_end (arrive + nights) (barred (nat_lt 36524 (arrive + nights)) _ p.1.1.1.0) in
    subst (λ x. InRange x) (same_event q) (n.0, omega arith, omega arith, last)
range_if h ahead (command.Cancel party) e n p r q = subst (λ x. InRange x) (same_event q) tt
range_if h ahead (command.CheckIn party room) e n p r q =
    let d = draw_from (issued_codes h) ahead in
    drawn_in_range d.code d.examined (λ code. reply.Issued (card_of (next_card h) party (link_to h room code)))
    (λ code. event.Issue party room (next_card h) code) e (λ code s. s) q r
range_if h ahead (command.Spare party) e n p r q = subst (λ x. InRange x) (same_event q) tt
range_if h ahead (command.Reissue party) e n p r q =
    let d = draw_from (issued_codes h) ahead in
    drawn_in_range d.code d.examined
    (λ code. reply.Issued (card_of (next_card h) party (link_to h (own_room h party) code)))
    (λ code. event.Issue party (own_room h party) (next_card h) code) e (λ code s. s) q r
range_if h ahead (command.Transfer party room) e n p r q =
    let d = draw_from (issued_codes h) ahead in
    drawn_in_range d.code d.examined (λ code. reply.Issued (card_of (next_card h) party (link_to h room code)))
    (λ code. event.Issue party room (next_card h) code) e (λ code s. s) q r
range_if h ahead (command.CheckOut party) e n p r q = subst (λ x. InRange x) (same_event q) tt
range_if h ahead (command.Refit room) e n p r q =
    let d = draw_from (issued_codes h) ahead in
    drawn_in_range d.code d.examined (λ code. reply.Refitted code (next_fit h room))
    (λ code. event.Refitted room (next_fit h room) code) e (λ code s. s) q r
range_if h ahead command.NextDay e n p r q = subst (λ x. InRange x) (same_event q) tt
range_if h ahead (command.Reported note) e n p r q = by_standing h note (standing h note) e n q

-- the event of an answer to a command in range, whose reply is in range, is in range
pub event_in_range : (h : History) (ahead : List ℕ) (command : Command) (e : Event) → IsCommand command
    → IsReply (answer_to h ahead command).reply → (answer_to h ahead command).happens ≡ Some e → InRange e
unfolding answer_to
event_in_range h ahead command e n r eq =
    let p = passed_all (checks h command) (effect h ahead command) e eq in
    range_if h ahead command e n p.0
    (subst IsReply (passed_reply (checks h command) (effect h ahead command) e eq) r) p.1

keeps : (h : History) (ahead : List ℕ) (command : Command) (o : Option Event)
    → IsCommand command → IsReply (answer_to h ahead command).reply → (answer_to h ahead command).happens ≡ o
    → Reached h → Reached (grown h o)
keeps h ahead command None n r e ok = ok
keeps h ahead command (Some event) n r e ok = (ok, ahead, command, e, event_in_range h ahead command event n r e)

-- A step after a history that can be reached makes one that can be reached.
pub step_keeps : (h : History) (ahead : List ℕ) (command : Command) (reply : Reply)
    → IsCommand command → (answer_to h ahead command).reply ≡ reply → IsReply reply → Reached h
    → Reached (grown h (answer_to h ahead command).happens)
step_keeps h ahead command reply n e r ok = keeps h ahead command _ n (subst IsReply (sym e) r) refl ok

-- the last event's values are in their ranges
pub last_in_range : (h : History) (event : Event) → Reached (h ▷ event) → InRange event
last_in_range h event ok = ok.4
