-- What holds of each building that can be: the desk and the history of all notes can be reached, by the same commands,
-- and at each door what AtDoor says.
use Rattle.std.proofs.Common.{ℕ, ◌≡◌, Bool, true, false, Option, Some, None, List, [], ◌∷◌, ◌⊎◌, refl, ap, sym, ◌∙◌}
use Rattle.std.proofs.Common.{subst, ◌==◌, ◌||◌, ◌+◌, filter, inl, inr, is_some, Contains}
use Rattle.hotel_model.proofs.Names.{when, is_one_of, keys_of, at_number, turn, Card, Note, Act, Event}
use Rattle.hotel_model.proofs.Names.{Entered, Install, Issue, Left, Moment, Recoded, Refitted}
use Rattle.hotel_model.proofs.Names.{History, start, ◌▷◌, note_of, cards, is_room, moment_of}
use Rattle.hotel_model.proofs.Names.{Reached, InRange, Outcome, accepted, needs, checks, effect, reported, told}
use Rattle.hotel_model.proofs.Names.{standing, Standing, Next, is_card, has_link, opens, inside, awaited}
use Rattle.hotel_model.proofs.Names.{notes, notes_of, present_fit, issued, and_last}
use Rattle.hotel_model.proofs.Invariants.NoRooms.{nothing_noted}
use Rattle.hotel_model.proofs.Invariants.NotesOfFits.{none_later, notes_for}
unfoldable use Rattle.hotel_model.specs.Answer.{answer_to}
use Rattle.hotel_model.specs.Cases.{holds}
use Rattle.hotel_model.specs.Event as event
use Rattle.hotel_model.specs.declared.command.Command.{Command}
use Rattle.hotel_model.specs.declared.command.Command.TheVariants as command
use Rattle.hotel_model.specs.declared.reply.Reply.TheVariants as reply
use Rattle.hotel_model.specs.declared.reply.Refusal.TheVariants.{NoCard, CardDiffers, LockShut, NotInside}
use Rattle.hotel_model.specs.declared.reply.Refusal.TheVariants.{HeldDiffers, NotAwaited}
use Rattle.keycard_rules.specs.declared.note.Act.TheVariants as act
use Rattle.hotel_lock.specs.Door.{Noted, acts, enters, leaves, is_set}
use Rattle.hotel_model.proofs.OfTables.Tests.{eq_from, eq_self, not_both, either_way}
use Rattle.hotel_model.proofs.OfTables.RowTests.{or_first, or_later}
use Rattle.hotel_model.proofs.OfTables.Grown.{may_follow}
use Rattle.hotel_model.proofs.OfTables.Insiders.{insiders_in_order}
use Rattle.hotel_model.proofs.Invariants.Following.{passed_all, same_event}
use Rattle.hotel_model.proofs.Invariants.InsideRooms.{one_of_these}
use Rattle.hotel_building.specs.Building.{Building, opened, ◌▸◌, Accepted, Shown, GoesOut, SlipsOut, SetTo, Told}
use Rattle.hotel_building.specs.Building.{Fails, Forged, Door}
use Rattle.hotel_building.specs.Building.{new_door, refitted, shown, gone_out, slipped_out, was_set, heard, door}
use Rattle.hotel_building.specs.Building.{event_of}
use Rattle.hotel_building.specs.Building.{after_first, after_act, desk, at_once, LeavesNothing, CanNote, Reachable}
use Rattle.hotel_building.specs.Promises.{IsOfStaff}
use Rattle.hotel_building.proofs.Quiet.{SameCommands, same_books, noted_quiet}
use Rattle.hotel_building.proofs.Answers.{same_answer}
use Rattle.hotel_building.proofs.Taken.{note_needs, reached_noted}
use Rattle.hotel_building.proofs.Grows.{grows_event, grows_same}
use Rattle.hotel_building.proofs.Alike.{Alike, alike_self, cleared, Ordered, ordered_more, after_all}
use Rattle.hotel_building.proofs.Replays.{Replays, touches_by}
use Rattle.hotel_building.proofs.Agrees.{Agrees, agrees_first, agrees_installed, agrees_refitted, agrees_slipped}
use Rattle.hotel_building.proofs.AtDoor.{AtDoor, CanMake, card_given, did, elsewhere_at_both}
use Rattle.hotel_building.proofs.AtDoor.{elsewhere_at_desk, elsewhere_at_doors, told_here, slipped_here, shown_here}
use Rattle.hotel_building.proofs.AtDoor.{left_here, set_here, set_by, may_enter, may_leave, may_be_set, MayMake}

-- What holds at one room: the desk and a history of all the room's notes can be reached, by the same commands, and what
-- AtDoor says.
pub record RoomIs (b : Building) (t : History) (r : ℕ) : Type 0 where
  pub desk_ok : Reached (desk b)
  pub all_ok : Reached t
  pub same : SameCommands (desk b) t
  pub here : AtDoor r (desk b) t (door b r)

-- At each room it is so by the notes of all rooms.
pub record Whole (b : Building) : Type 0 where
  pub desk_ok : Reached (desk b)
  pub all_ok : Reached (at_once b)
  pub same : SameCommands (desk b) (at_once b)
  pub doors : (r : ℕ) → AtDoor r (desk b) (at_once b) (door b r)

pub room_of : (b : Building) → Whole b → (r : ℕ) → RoomIs b (at_once b) r
room_of b w r = record { desk_ok = w.desk_ok; all_ok = w.all_ok; same = w.same; here = w.doors r }

-- what holds of a door that changed, and of each other one
at_door : (P : ℕ → Door → Type 0) (doors : ℕ → Door) (f : Door → Door) (room r : ℕ)
    → P room (f (doors room)) → ((room == r) ≡ false → P r (doors r)) → P r (when (room == r) f (doors r))
at_door P doors f room r here other = elim (either_way (room == r)) [
  | inl t ↦
      subst (P r) (sym (ap (λ b. when b f (doors r)) t)) (subst (λ z. P z (f (doors z))) (eq_from room r t) here)
  | inr q ↦ subst (P r) (sym (ap (λ b. when b f (doors r)) q)) (other q)
]

-- ---- commands

no_note_by : (h : History) (note : Note) (a : Act) (e : Event) → (told h note a).happens ≡ Some e → note_of e ≡ None → ⊥
no_note_by h note (act.Entered number link) e q n =
    let p = passed_all (needs (is_card h number) NoCard ∷ needs (has_link h number link) CardDiffers
    ∷ needs (opens h note.room link) LockShut ∷ [])
    (accepted reply.Taken (event.Entered note.room note.fit note.count number link (moment_of note))) e q in
    let w = ap note_of (same_event p.1) ∙ n in cc
no_note_by h note (act.Left number link) e q n =
    let p = passed_all (needs (is_card h number) NoCard ∷ needs (has_link h number link) CardDiffers
    ∷ needs (is_one_of number (inside h note.room)) NotInside ∷ [])
    (accepted reply.Taken (event.Left note.room note.fit note.count number link (moment_of note))) e q in
    let w = ap note_of (same_event p.1) ∙ n in cc
no_note_by h note (act.Recoded from to) e q n =
    let p =
    passed_all (needs (holds h note.room from) HeldDiffers ∷ needs (is_one_of to (awaited h note.room)) NotAwaited ∷ [])
    (accepted reply.Taken (event.Recoded note.room note.fit note.count from to (moment_of note))) e q in
    let w = ap note_of (same_event p.1) ∙ n in cc

no_note : (h : History) (note : Note) (s : Standing) (e : Event) → (reported h note s).happens ≡ Some e
    → note_of e ≡ None → ⊥
no_note h note Next e q n = no_note_by h note note.act e q n
no_note h note _ e q n = cc

-- an event that is no note comes of a command of the staff
staff_only : (h : History) (ahead : List ℕ) (c : Command) (e : Event) → (answer_to h ahead c).happens ≡ Some e
    → note_of e ≡ None → IsOfStaff c
unfolding answer_to
staff_only h ahead (command.Reported note) e q n =
    let p = passed_all (checks h (command.Reported note)) (effect h ahead (command.Reported note)) e q in
    no_note h note (standing h note) e p.1 n
staff_only h ahead _ e q n = tt

-- it is accepted after the history of all notes too
pub all_accept : (d t : History) (e : Event) → SameCommands d t → Reached t → note_of e ≡ None → (ahead : List ℕ)
    (c : Command) → (answer_to d ahead c).happens ≡ Some e → InRange e → Reached (t ▷ e)
all_accept d t e q ok n ahead c happens range = (
  ok,
  ahead,
  c,
  ap (λ (o : Outcome Event). o.happens)
      (sym (same_answer d t (same_books d t q) ahead c (staff_only d ahead c e happens n)))
      ∙ happens,
  range,
)

-- and makes the same commands
pub more_commands : (d t : History) (e : Event) → SameCommands d t → note_of e ≡ None → SameCommands (d ▷ e) (t ▷ e)
more_commands d t (Entered room fit count number link at) q n = absurd (let m = n in cc)
more_commands d t (Left room fit count number link at) q n = absurd (let m = n in cc)
more_commands d t (Recoded room fit count from to at) q n = absurd (let m = n in cc)
more_commands d t e q n = ap (λ h. h ▷ e) q

-- a room that isn't there has no unread notes
nothing_unread : (room : ℕ) (d t : History) (xs : List Note) → is_room d room ≡ false → Replays room d xs
    → Alike room (after_all d xs) t → Alike room d t
nothing_unread room d t [] f p a = a
nothing_unread room d t (x ∷ xs) f p a =
    not_both (is_room d room) (ap (is_room d) (sym p.0) ∙ (note_needs d x x.act p.1).1) f

-- a room's new lock has no notes
pub none_yet : (h : History) (room fit code : ℕ) → Reached (h ▷ Refitted room fit code)
    → notes_of (h ▷ Refitted room fit code) room (present_fit (h ▷ Refitted room fit code) room) ≡ []
none_yet h room fit code ok =
    let next = (may_follow h (Refitted room fit code) ok).2 in
    let its : present_fit (h ▷ Refitted room fit code) room ≡ present_fit h room + 1 = rw (eq_self room) next in
    ap (λ f. filter (λ (x : Note). x.fit == f) (notes h room)) its
    ∙ none_later (present_fit h room) (notes h room) (notes_for h ok.0 room).0

pub alike_anew : (d t : History) (room fit code : ℕ) → issued d room ≡ issued t room
    → notes_of (d ▷ Refitted room fit code) room (present_fit (d ▷ Refitted room fit code) room) ≡ []
    → notes_of (t ▷ Refitted room fit code) room (present_fit (t ▷ Refitted room fit code) room) ≡ []
    → Alike room (d ▷ Refitted room fit code) (t ▷ Refitted room fit code)
alike_anew d t room fit code codes p q = record {
  same_held = rw (eq_self room) refl;
  same_awaited = rw (eq_self room) refl;
  same_secured = rw (eq_self room) refl;
  same_inside = λ n. ap (is_one_of n) (cleared d room room (eq_self room) ∙ sym (cleared t room room (eq_self room)));
  same_notes = p ∙ sym q;
  same_codes = ap (when (room == room) (and_last code)) codes;
  same_lock = rw (eq_self room) refl;
}

pub alike_new : (d t : History) (room : ℕ) (kind : List ℕ) (code : ℕ) → notes d room ≡ [] → notes t room ≡ []
    → Alike room d t → Alike room (d ▷ Install room kind code) (t ▷ Install room kind code)
alike_new d t room kind code p q a = record {
  same_held = ap (when (room == room) (λ _. code)) a.same_held;
  same_awaited = a.same_awaited;
  same_secured = ap (when (room == room) (λ _. false)) a.same_secured;
  same_inside = a.same_inside;
  same_notes = (λ i. filter (λ (x : Note). x.fit == present_fit (d ▷ Install room kind code) room) (p i))
      ∙ sym (λ i. filter (λ (x : Note). x.fit == present_fit (t ▷ Install room kind code) room) (q i));
  same_codes = ap (when (room == room) (and_last code)) a.same_codes;
  same_lock = ap (when (room == room) (λ _. 1)) a.same_lock;
}

-- a door after the desk accepted a command
accepted_at : (b : Building) (e : Event) → Whole b → note_of e ≡ None → Reached (desk b ▷ e) → Reached (at_once b ▷ e)
    → LeavesNothing b e → (r : ℕ) → AtDoor r (desk b ▷ e) (at_once b ▷ e) (door (b ▸ Accepted e) r)
accepted_at b (Install room kind code) w n dok tok leaves r =
    let e : Event = Install room kind code in
    let s = insiders_in_order (desk b) dok.0 in
    let s' = insiders_in_order (at_once b) tok.0 in
    let i = w.doors room in
    at_door (λ z o. AtDoor z (desk b ▷ e) (at_once b ▷ e) o) (door b) (λ _. new_door room code) room r
    (record {
      replays = tt;
      alike = alike_new (desk b) (at_once b) room kind code
          (nothing_noted (desk b) dok.0 room (may_follow (desk b) e dok).1)
          (nothing_noted (at_once b) tok.0 room (may_follow (at_once b) e tok).1)
          (nothing_unread room (desk b) (at_once b) (door b room).unread (may_follow (desk b) e dok).1
          i.replays i.alike);
      agrees = agrees_installed (at_once b) room kind code tok;
    })
    (λ q. elsewhere_at_both r (desk b) (at_once b) (door b r) e s s' q (grows_event (desk b) e dok)
    (ordered_more (desk b) e s) (w.doors r))
accepted_at b (Refitted room fit code) w n dok tok leaves r =
    let e : Event = Refitted room fit code in
    let s = insiders_in_order (desk b) dok.0 in
    let s' = insiders_in_order (at_once b) tok.0 in
    at_door (λ z o. AtDoor z (desk b ▷ e) (at_once b ▷ e) o) (door b) (refitted room fit code) room r
    (record {
      replays = tt;
      alike = alike_anew (desk b) (at_once b) room fit code
          ((same_books (desk b) (at_once b) w.same).same_issued room) (none_yet (desk b) room fit code dok)
          (none_yet (at_once b) room fit code tok);
      agrees = agrees_refitted (at_once b) room fit code (door b room) tok leaves;
    })
    (λ q. elsewhere_at_both r (desk b) (at_once b) (door b r) e s s' q (grows_event (desk b) e dok)
    (ordered_more (desk b) e s) (w.doors r))
accepted_at b (Issue party room number code) w n dok tok leaves r =
    let e : Event = Issue party room number code in
    let s = insiders_in_order (desk b) dok.0 in
    let s' = insiders_in_order (at_once b) tok.0 in
    let needs = may_follow (desk b) e dok in
    elim (either_way (room == r)) [
      | inl t ↦ subst (λ z. AtDoor r (desk b ▷ Issue party z number code) (at_once b ▷ Issue party z number code)
          (door b r)) (sym (eq_from room r t))
          (card_given r (desk b) (at_once b) (door b r) party number code dok.0 s s'
          needs.6 needs.5 (w.doors r))
      | inr q ↦ elsewhere_at_both r (desk b) (at_once b) (door b r) e s s' q (grows_event (desk b) e dok)
          (ordered_more (desk b) e s) (w.doors r)
    ]
accepted_at b (Entered room fit count number link at) w n dok tok leaves r = absurd (let m = n in cc)
accepted_at b (Left room fit count number link at) w n dok tok leaves r = absurd (let m = n in cc)
accepted_at b (Recoded room fit count from to at) w n dok tok leaves r = absurd (let m = n in cc)
accepted_at b e w n dok tok leaves r =
    let s = insiders_in_order (desk b) dok.0 in
    let s' = insiders_in_order (at_once b) tok.0 in
    elsewhere_at_both r (desk b) (at_once b) (door b r) e s s' refl (grows_event (desk b) e dok)
    (ordered_more (desk b) e s) (w.doors r)

-- ---- doors

-- what the lock of another door did
elsewhere_act : (r : ℕ) (d t : History) (here there : Door) (card : Card) (at : Moment) (o : Option ℕ) → Ordered t
    → (there.lock.room == r) ≡ false → AtDoor r d t here → AtDoor r d (after_act t (did there card at o)) here
elsewhere_act r d t here there card at None s q i = i
elsewhere_act r d t here there card at (Some code) s q i =
    elsewhere_at_doors r d t here (event_of (acts there.lock (act.Entered card.number card.link) code at).note) s q i

-- the history of all notes after a card was shown
pub reached_act : (r : ℕ) (d t : History) (o : Door) (card : Card) (at : Moment) (turned : Option ℕ)
    → turn o.lock.held card.link ≡ turned → Reached t → SameCommands d t → CanMake t r o at
    → at_number (cards t) card.number ≡ Some card → Agrees t r o
    → Reached (after_act t (did o card at turned)) × SameCommands d (after_act t (did o card at turned))
reached_act r d t o card at None e ok q can known g = (ok, q)
reached_act r d t o card at (Some code) e ok q can known g =
    let it : Noted = acts o.lock (act.Entered card.number card.link) code at in
    let may = may_enter r t o card at code can known (ap is_some e) g in
    (reached_noted t ok it.note may.0 may.1, q ∙ sym (noted_quiet t it.note))

-- so it is of another lock that was set
elsewhere_set : (r : ℕ) (d t : History) (here there : Door) (code : ℕ) (at : Moment) (same : Bool) → Ordered t
    → (there.lock.room == r) ≡ false → AtDoor r d t here → AtDoor r d (after_act t (set_by there code at same)) here
elsewhere_set r d t here there code at true s q i = i
elsewhere_set r d t here there code at false s q i =
    elsewhere_at_doors r d t here (event_of (acts there.lock (act.Recoded there.lock.held code) code at).note) s q i

-- the history of all notes after a lock was set
pub reached_set : (d t : History) (o : Door) (code : ℕ) (at : Moment) (same : Bool) → Reached t → SameCommands d t
    → (same ≡ false → MayMake t (acts o.lock (act.Recoded o.lock.held code) code at))
    → Reached (after_act t (set_by o code at same)) × SameCommands d (after_act t (set_by o code at same))
reached_set d t o code at true ok q may = (ok, q)
reached_set d t o code at false ok q may =
    let it : Noted = acts o.lock (act.Recoded o.lock.held code) code at in
    (reached_noted t ok it.note (may refl).0 (may refl).1, q ∙ sym (noted_quiet t it.note))

-- the lock can make a note
pub can_make : (b : Building) (t : History) (room : ℕ) (at : Moment) → Reached t → SameCommands (desk b) t
    → CanNote b room at → CanMake t room (door b room) at
can_make b t room at ok same can = record {
  can_reach = ok;
  has_room = ap (λ rs. is_one_of room (keys_of rs)) (sym (same_books (desk b) t same).same_rooms) ∙ can.0;
  few = can.1;
  timed = can.2;
}

pub known_to_all : (b : Building) (t : History) (card : Card) → SameCommands (desk b) t
    → at_number (cards (desk b)) card.number ≡ Some card → at_number (cards t) card.number ≡ Some card
known_to_all b t card same e = ap (λ cs. at_number cs card.number) (sym (same_books (desk b) t same).same_cards) ∙ e

-- the notes of a lock have the card inside
pub counted : (number : ℕ) (o : Door) → (Contains o.inside number ⊎ Contains o.slipped number)
    → (is_one_of number o.inside || is_one_of number o.slipped) ≡ true
counted number o (inl c) = or_first _ _ (one_of_these o.inside number c)
counted number o (inr c) = or_later (is_one_of number o.inside) _ (one_of_these o.slipped number c)

-- another lock's room
pub other_lock : (room r : ℕ) (lock_room : ℕ) → lock_room ≡ room → (room == r) ≡ false → (lock_room == r) ≡ false
other_lock room r lock_room e q = ap (λ z. z == r) e ∙ q

-- the desk after the first of a door's unread notes
pub told_whole : (room : ℕ) (d : History) (xs : List Note) → Reached d → Replays room d xs
    → Reached (after_first d xs) × SameCommands (after_first d xs) d
told_whole room d [] ok p = (ok, refl)
told_whole room d (x ∷ xs) ok p = (reached_noted d ok x p.1 p.2, noted_quiet d x)

-- another door, after the desk heard it
told_elsewhere : (room r : ℕ) (d t : History) (o : Door) (xs : List Note) → Ordered d → (room == r) ≡ false
    → Replays room d xs → AtDoor r d t o → AtDoor r (after_first d xs) t o
told_elsewhere room r d t o [] s q p i = i
told_elsewhere room r d t o (x ∷ xs) s q p i =
    elsewhere_at_desk r d t o (event_of x) s (touches_by x x.act r ∙ other_lock room r x.room p.0 q)
    (grows_same d (d ▷ event_of x) (sym (noted_quiet d x))) (ordered_more d (event_of x) s) i

-- ---- all steps

pub whole : (b : Building) → Reachable b → Whole b
whole (opened t) ok = record {
  desk_ok = ok;
  all_ok = ok;
  same = refl;
  doors = λ r. record { replays = tt; alike = alike_self r (start t); agrees = agrees_first (start t) r };
}
whole (b ▸ Accepted e) ok =
    let w = whole b ok.0 in
    let may = ok.1.0 in
    let desk_ok : Reached (desk b ▷ e) = (w.desk_ok, may.1, may.2, may.3, may.4) in
    let all_ok = all_accept (desk b) (at_once b) e w.same w.all_ok may.0 may.1 may.2 may.3 may.4 in
    record {
      desk_ok = desk_ok;
      all_ok = all_ok;
      same = more_commands (desk b) (at_once b) e w.same may.0;
      doors = accepted_at b e w may.0 desk_ok all_ok ok.1.1;
    }
whole (b ▸ Shown room card at) ok =
    let w = whole b ok.0 in
    let o = door b room in
    let can = can_make b (at_once b) room at w.all_ok w.same ok.1.1 in
    let known = known_to_all b (at_once b) card w.same ok.1.0 in
    let s = insiders_in_order (desk b) w.desk_ok in
    let s' = insiders_in_order (at_once b) w.all_ok in
    let turned = turn o.lock.held card.link in
    let g = (w.doors room).agrees in
    let after = reached_act room (desk b) (at_once b) o card at turned refl w.all_ok w.same can known g in
    record {
      desk_ok = w.desk_ok;
      all_ok = after.0;
      same = after.1;
      doors = λ r. at_door (λ z d. AtDoor z (desk b) (at_once (b ▸ Shown room card at)) d) (door b)
          (λ d. shown (enters d.lock card.number card.link at) card.number d) room r
          (shown_here room (desk b) (at_once b) o card at turned refl s s' w.same can known (w.doors room))
          (λ q. elsewhere_act r (desk b) (at_once b) (door b r) o card at turned s'
          (other_lock room r o.lock.room g.its_room q) (w.doors r));
    }
whole (b ▸ GoesOut room card at) ok =
    let w = whole b ok.0 in
    let o = door b room in
    let can = can_make b (at_once b) room at w.all_ok w.same ok.1.1 in
    let known = known_to_all b (at_once b) card w.same ok.1.0 in
    let s = insiders_in_order (desk b) w.desk_ok in
    let s' = insiders_in_order (at_once b) w.all_ok in
    let g = (w.doors room).agrees in
    let it = leaves o.lock card.number card.link at in
    let may = may_leave room (at_once b) o card at can known (counted card.number o ok.1.2) g in
    record {
      desk_ok = w.desk_ok;
      all_ok = reached_noted (at_once b) w.all_ok it.note may.0 may.1;
      same = w.same ∙ sym (noted_quiet (at_once b) it.note);
      doors = λ r. at_door (λ z d. AtDoor z (desk b) (at_once b ▷ event_of it.note) d) (door b)
          (λ d. gone_out (leaves d.lock card.number card.link at) card.number d) room r
          (left_here room (desk b) (at_once b) o card at s s' w.same may (w.doors room))
          (λ q. elsewhere_at_doors r (desk b) (at_once b) (door b r) (event_of it.note) s'
          (other_lock room r o.lock.room g.its_room q) (w.doors r));
    }
whole (b ▸ SlipsOut room number) ok =
    let w = whole b ok.0 in
    record {
      desk_ok = w.desk_ok;
      all_ok = w.all_ok;
      same = w.same;
      doors = λ r. at_door (λ z d. AtDoor z (desk b) (at_once b) d) (door b) (slipped_out number) room r
          (slipped_here room (desk b) (at_once b) (door b room) number (w.doors room)
          (agrees_slipped (at_once b) room number (door b room) (one_of_these (door b room).inside number ok.1)
          (w.doors room).agrees))
          (λ q. w.doors r);
    }
whole (b ▸ SetTo room code at) ok =
    let w = whole b ok.0 in
    let o = door b room in
    let can = can_make b (at_once b) room at w.all_ok w.same ok.1.0 in
    let s = insiders_in_order (desk b) w.desk_ok in
    let s' = insiders_in_order (at_once b) w.all_ok in
    let g = (w.doors room).agrees in
    let may = may_be_set room (at_once b) o code at can ok.1.1 g in
    let after = reached_set (desk b) (at_once b) o code at (o.lock.held == code) w.all_ok w.same may in
    record {
      desk_ok = w.desk_ok;
      all_ok = after.0;
      same = after.1;
      doors = λ r. at_door (λ z d. AtDoor z (desk b) (at_once (b ▸ SetTo room code at)) d) (door b)
          (λ d. was_set (is_set d.lock code at) d) room r
          (set_here room (desk b) (at_once b) o code at (o.lock.held == code) s s' w.same may (w.doors room))
          (λ q. elsewhere_set r (desk b) (at_once b) (door b r) o code at (o.lock.held == code) s'
          (other_lock room r o.lock.room g.its_room q) (w.doors r));
    }
whole (b ▸ Told room) ok =
    let w = whole b ok.0 in
    let s = insiders_in_order (desk b) w.desk_ok in
    let xs = (door b room).unread in
    let p = (w.doors room).replays in
    let after = told_whole room (desk b) xs w.desk_ok p in
    record {
      desk_ok = after.0;
      all_ok = w.all_ok;
      same = after.1 ∙ w.same;
      doors = λ r. at_door (λ z d. AtDoor z (after_first (desk b) xs) (at_once b) d) (door b) heard room r
          (told_here room (desk b) (at_once b) (door b room) (w.doors room))
          (λ q. told_elsewhere room r (desk b) (at_once b) (door b r) xs s q p (w.doors r));
    }
whole (b ▸ Fails room after) ok = elim ok.1 [ ]
whole (b ▸ Forged note) ok = elim ok.1 [ ]
