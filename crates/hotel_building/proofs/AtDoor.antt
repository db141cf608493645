-- What holds at each door of a building that can be, and how a step keeps it.
use Rattle.std.proofs.Common.{ℕ, ◌≡◌, ◌<◌, ◌+◌, Bool, true, false, Option, Some, None, List, [], ◌∷◌}
use Rattle.std.specs.Prelude.{if◌then◌else◌}
use Rattle.std.proofs.Common.{length, filter, drop, ap, sym, ◌∙◌, subst, arith, ◌==◌, ◌||◌, is_some, option_map, refl}
use Rattle.std.proofs.Common.{inl, inr}
use Rattle.hotel_model.proofs.Names.{when, and_last, is_one_of, said_of, at_number, same_link, turn, Card, Note, Act}
use Rattle.hotel_model.proofs.Names.{Event, Issue, Moment, History, ◌▷◌, held, awaited, inside, notes, notes_of}
use Rattle.hotel_model.proofs.Names.{present_fit}
use Rattle.hotel_model.proofs.Names.{cards, is_room, is_card, has_link, is_fresh, next_card, Reached, InRange, IsTimed}
use Rattle.hotel_model.specs.Ranges.{IsFit}
use Rattle.keycard_rules.specs.declared.note.Act.TheVariants as act
use Rattle.hotel_lock.specs.Door.{Lock, Noted, acts, leaves}
use Rattle.hotel_model.proofs.Facts.Follow.{MayFollow}
use Rattle.hotel_model.proofs.OfTables.Tests.{eq_self, not_both}
use Rattle.hotel_model.proofs.OfTables.RowTests.{both}
use Rattle.hotel_model.proofs.OfTables.TableKeys.{is_key}
use Rattle.hotel_model.proofs.Invariants.{FitsOf.fits_of, InsideRooms.one_of_these}
use Rattle.hotel_building.specs.Building.{Door, but, shown, gone_out, slipped_out, heard, after_first, after_act}
use Rattle.hotel_building.specs.Building.{MaySet, was_set, event_by, event_of}
use Rattle.hotel_building.proofs.Quiet.{SameCommands}
use Rattle.hotel_building.proofs.Taken.{note_in_range}
use Rattle.hotel_building.proofs.Grows.{Grows, grows_same}
use Rattle.hotel_building.proofs.Alike.{Alike, alike_on, alike_back, alike_more, keeps_by, alike_all, Ordered}
use Rattle.hotel_building.proofs.Alike.{ordered_all}
use Rattle.hotel_building.proofs.Alike.{after_all, touches, untouched}
use Rattle.hotel_building.proofs.Replays.{Replays, may_along, replays_along, replays_more, after_more}
use Rattle.hotel_building.proofs.Replays.{quiet_all}
use Rattle.hotel_building.proofs.Past.{notes_past}
use Rattle.hotel_building.proofs.Agrees.{Agrees, agrees_along, agrees_issue, agrees_noted, those_entered, those_left}

-- The unread notes may follow what the desk has, after them it is alike at the room to the history of all notes, and
-- the door is as that history says.
pub record AtDoor (r : ℕ) (desk all : History) (door : Door) : Type 0 where
  pub replays : Replays r desk door.unread
  pub alike : Alike r (after_all desk door.unread) all
  pub agrees : Agrees all r door

-- ---- at the desk

-- an event that is none of the door, at both
pub elsewhere_at_both : (r : ℕ) (desk all : History) (door : Door) (e : Event) → Ordered desk → Ordered all
    → touches e r ≡ false → Grows desk (desk ▷ e) → Ordered (desk ▷ e) → AtDoor r desk all door
    → AtDoor r (desk ▷ e) (all ▷ e) door
elsewhere_at_both r desk all door e s s' q g s'' i =
    let here = untouched desk e r s q in
    let there = untouched all e r s' q in
    record {
      replays = replays_along r desk (desk ▷ e) door.unread s s'' (alike_back r _ _ here) g i.replays;
      alike = alike_on r _ _ _ (alike_all (desk ▷ e) desk door.unread r s'' s here)
          (alike_on r _ _ _ i.alike (alike_back r _ _ there));
      agrees = agrees_along r (all ▷ e) all door there i.agrees;
    }

-- an event that is none of the door, which the desk hears
pub elsewhere_at_desk : (r : ℕ) (desk all : History) (door : Door) (e : Event) → Ordered desk
    → touches e r ≡ false → Grows desk (desk ▷ e) → Ordered (desk ▷ e) → AtDoor r desk all door
    → AtDoor r (desk ▷ e) all door
elsewhere_at_desk r desk all door e s q g s'' i =
    let here = untouched desk e r s q in
    record {
      replays = replays_along r desk (desk ▷ e) door.unread s s'' (alike_back r _ _ here) g i.replays;
      alike = alike_on r _ _ _ (alike_all (desk ▷ e) desk door.unread r s'' s here) i.alike;
      agrees = i.agrees;
    }

-- an event that is none of the door, of which the desk has not heard
pub elsewhere_at_doors : (r : ℕ) (desk all : History) (door : Door) (e : Event) → Ordered all
    → touches e r ≡ false → AtDoor r desk all door → AtDoor r desk (all ▷ e) door
elsewhere_at_doors r desk all door e s q i =
    let there = untouched all e r s q in
    record {
      replays = i.replays;
      alike = alike_on r _ _ _ i.alike (alike_back r _ _ there);
      agrees = agrees_along r (all ▷ e) all door there i.agrees;
    }

-- a card with a new code of the room
pub card_given : (r : ℕ) (desk all : History) (door : Door) (party number code : ℕ) → Reached desk → Ordered desk
    → Ordered all → is_fresh desk code ≡ true → number ≡ next_card desk → AtDoor r desk all door
    → AtDoor r (desk ▷ Issue party r number code) (all ▷ Issue party r number code) door
card_given r desk all door party number code ok s s' fresh next i =
    let past = notes_past desk ok s party r number code door.unread fresh next i.replays in
    record {
      replays = past.0;
      alike = alike_on r _ _ _ past.1 (alike_more (after_all desk door.unread) all (Issue party r number code) r tt
          (ordered_all desk door.unread s) s' i.alike);
      agrees = agrees_issue all party r number code door i.agrees;
    }

-- the desk hears a note of the door
pub told_here : (r : ℕ) (desk all : History) (door : Door) → AtDoor r desk all door
    → AtDoor r (after_first desk door.unread) all (heard door)
told_here r desk all door i =
    let p = by door.unread i.replays i.alike in
    record {
      replays = p.0;
      alike = p.1;
      agrees = record {
        its_room = i.agrees.its_room;
        its_fit = i.agrees.its_fit;
        its_held = i.agrees.its_held;
        its_made = i.agrees.its_made;
        its_inside = i.agrees.its_inside;
      };
    }
  where
    by : (xs : List Note) → Replays r desk xs → Alike r (after_all desk xs) all
        → Replays r (after_first desk xs) (drop 1 xs) × Alike r (after_all (after_first desk xs) (drop 1 xs)) all
    by [] p a = (tt, a)
    by (x ∷ xs) p a = (p.3, a)

-- ---- at the door

-- the door's lock makes a note
pub noted_here : (r : ℕ) (desk all : History) (door : Door) (x : Note) (lock : Lock) (ins slips : List ℕ)
    → Ordered desk → Ordered all → SameCommands desk all → x.room ≡ r → InRange (event_of x)
    → MayFollow all (event_of x) → AtDoor r desk all door
    → (let after : Door = record { lock = lock; unread = and_last x door.unread; inside = ins; slipped = slips } in
    Agrees (all ▷ event_of x) r after → AtDoor r desk (all ▷ event_of x) after)
noted_here r desk all door x lock ins slips s s' q e range m i g =
    let heard_all = after_all desk door.unread in
    let same : SameCommands all heard_all = sym (quiet_all desk door.unread ∙ q) in
    let may = may_along r all heard_all x e (alike_back r heard_all all i.alike) (grows_same all heard_all same) m in
    record {
      replays = replays_more r desk door.unread x e range may i.replays;
      alike = subst (λ z. Alike r z (all ▷ event_of x)) (sym (after_more desk door.unread x))
          (alike_more heard_all all (event_of x) r (keeps_by x x.act) (ordered_all desk door.unread s) s' i.alike);
      agrees = g;
    }

-- a card slips out
pub slipped_here : (r : ℕ) (desk all : History) (door : Door) (number : ℕ) → AtDoor r desk all door
    → Agrees all r (slipped_out number door) → AtDoor r desk all (slipped_out number door)
slipped_here r desk all door number i g = record { replays = i.replays; alike = i.alike; agrees = g }

-- ---- what a lock does

-- the present lock of a room has a number of a lock
pub fit_in_range : (h : History) → Reached h → (r : ℕ) → is_room h r ≡ true → IsFit (present_fit h r)
fit_in_range h ok r there =
    let f = fits_of h ok r there in
    let many = f.many in
    let least = f.least in
    let most = f.most in
    (omega arith, omega arith)

-- the lock can make a note
pub record CanMake (all : History) (r : ℕ) (door : Door) (at : Moment) : Type 0 where
  pub can_reach : Reached all
  pub has_room : is_room all r ≡ true
  pub few : door.lock.made < 9999999
  pub timed : IsTimed at.0 at.1

-- the count of the next note
next_count : (all : History) (r : ℕ) (door : Door) → Agrees all r door
    → door.lock.made + 1 ≡ length (notes_of all door.lock.room door.lock.fit) + 1
next_count all r door g = ap (λ n. n + 1)
    (g.its_made ∙ sym (λ i. length (filter (λ (x : Note). x.fit == g.its_fit i) (notes all (g.its_room i)))))

at_its_fit : (all : History) (r : ℕ) (door : Door) → Agrees all r door → door.lock.fit ≡ present_fit all door.lock.room
at_its_fit all r door g = g.its_fit ∙ ap (present_fit all) (sym g.its_room)

its_range : (all : History) (r : ℕ) (door : Door) (at : Moment) (a : Act) (code : ℕ) → Agrees all r door
    → CanMake all r door at → InRange (event_by (acts door.lock a code at).note a)
its_range all r door at a code g can =
    let few = can.few in
    note_in_range (acts door.lock a code at).note a (omega arith, omega arith) can.timed
    (subst IsFit (sym g.its_fit) (fit_in_range all can.can_reach r can.has_room))

-- a card that was issued
pub card_known : (h : History) (card : Card) → at_number (cards h) card.number ≡ Some card
    → (is_card h card.number ≡ true) × (has_link h card.number card.link ≡ true)
card_known h card e = (
  is_key (cards h) card.number ∙ ap is_some e,
  ap (λ o. said_of o false (λ (k : Card). same_link k.link card.link)) e
      ∙ both _ _ (eq_self card.link.old_code) (eq_self card.link.new_code),
)

here_itself : (r : ℕ) (all : History) (door : Door) → Agrees all r door → (door.lock.room == r) ≡ true
here_itself r all door g = ap (λ z. z == r) g.its_room ∙ eq_self r

held_there : (r : ℕ) (all : History) (door : Door) → Agrees all r door → held all door.lock.room ≡ door.lock.held
held_there r all door g = ap (held all) g.its_room ∙ sym g.its_held

room_there : (r : ℕ) (all : History) (door : Door) → Agrees all r door → is_room all r ≡ true
    → is_room all door.lock.room ≡ true
room_there r all door g t = ap (is_room all) g.its_room ∙ t

-- the note that a lock makes may follow, and is in range
abbrev pub MayMake : History → Noted → Type 0
MayMake all it = MayFollow all (event_of it.note) × InRange (event_of it.note)

pub may_enter : (r : ℕ) (all : History) (door : Door) (card : Card) (at : Moment) (code : ℕ) → CanMake all r door at
    → at_number (cards all) card.number ≡ Some card → is_some (turn door.lock.held card.link) ≡ true → Agrees all r door
    → MayMake all (acts door.lock (act.Entered card.number card.link) code at)
may_enter r all door card at code can known opens g =
    let k = card_known all card known in (
      (
        next_count all r door g,
        room_there r all door g can.has_room,
        k.0,
        k.1,
        ap (λ z. is_some (turn z card.link)) (held_there r all door g) ∙ opens,
        at_its_fit all r door g,
      ),
      its_range all r door at (act.Entered card.number card.link) code g can,
    )

pub may_leave : (r : ℕ) (all : History) (door : Door) (card : Card) (at : Moment) → CanMake all r door at
    → at_number (cards all) card.number ≡ Some card
    → (is_one_of card.number door.inside || is_one_of card.number door.slipped) ≡ true → Agrees all r door
    → MayMake all (leaves door.lock card.number card.link at)
may_leave r all door card at can known ins g =
    let k = card_known all card known in (
      (
        next_count all r door g,
        room_there r all door g can.has_room,
        k.0,
        k.1,
        ap (λ z. is_one_of card.number (inside all z)) g.its_room ∙ g.its_inside card.number ∙ ins,
        at_its_fit all r door g,
      ),
      its_range all r door at (act.Left card.number card.link) door.lock.held g can,
    )

recoded : (r : ℕ) (all : History) (door : Door) (code : ℕ) (at : Moment) → CanMake all r door at
    → is_one_of code (awaited all r) ≡ true → Agrees all r door
    → MayMake all (acts door.lock (act.Recoded door.lock.held code) code at)
recoded r all door code at can awaits g = (
  (
    next_count all r door g,
    room_there r all door g can.has_room,
    ap (λ z. z == door.lock.held) (held_there r all door g) ∙ eq_self door.lock.held,
    ap (λ z. is_one_of code (awaited all z)) g.its_room ∙ awaits,
    at_its_fit all r door g,
  ),
  its_range all r door at (act.Recoded door.lock.held code) code g can,
)

-- a lock that doesn't hold the code may be set to it
pub may_be_set : (r : ℕ) (all : History) (door : Door) (code : ℕ) (at : Moment) → CanMake all r door at
    → MaySet all door r code → Agrees all r door → (door.lock.held == code) ≡ false
    → MayMake all (acts door.lock (act.Recoded door.lock.held code) code at)
may_be_set r all door code at can (inl e) g q =
    not_both _ (ap (λ z. z == code) e ∙ eq_self code) q
may_be_set r all door code at can (inr c) g q = recoded r all door code at can (one_of_these (awaited all r) code c) g

took_new : (a : Bool) (code new : ℕ) → (if a then Some new else None) ≡ Some code → code ≡ new
took_new true code new e = cc
took_new false code new e = cc

-- what the lock does with a card, by the code that it turns to
abbrev pub did : Door → Card → Moment → Option ℕ → Option Noted
did door card at o = option_map (λ code. acts door.lock (act.Entered card.number card.link) code at) o

-- a card is shown
pub shown_here : (r : ℕ) (desk all : History) (door : Door) (card : Card) (at : Moment) (o : Option ℕ)
    → turn door.lock.held card.link ≡ o → Ordered desk → Ordered all → SameCommands desk all → CanMake all r door at
    → at_number (cards all) card.number ≡ Some card → AtDoor r desk all door
    → AtDoor r desk (after_act all (did door card at o)) (shown (did door card at o) card.number door)
shown_here r desk all door card at None e s s' q can known i = i
shown_here r desk all door card at (Some code) e s s' q can known i =
    let a : Act = act.Entered card.number card.link in
    let it : Noted = acts door.lock a code at in
    let g = i.agrees in
    let t = here_itself r all door g in
    let new = took_new ((door.lock.held == card.link.new_code) || (door.lock.held == card.link.old_code)) code
    card.link.new_code e in
    let may = may_enter r all door card at code can known (ap is_some e) g in
    noted_here r desk all door it.note it.lock (card.number ∷ but card.number door.inside)
    (but card.number door.slipped) s s' q g.its_room may.1 may.0 i
    (agrees_noted all r door it.note a code _ _ g g.its_room g.its_fit
    (new ∙ sym (ap (λ b. when b (λ _. card.link.new_code) (held all r)) t))
    (those_entered all r door.lock.room door.lock.fit (door.lock.made + 1) card.number card.link at door t g) _)

-- a card goes out, and the lock notes it
pub left_here : (r : ℕ) (desk all : History) (door : Door) (card : Card) (at : Moment)
    → Ordered desk → Ordered all → SameCommands desk all → MayMake all (leaves door.lock card.number card.link at)
    → AtDoor r desk all door
    → AtDoor r desk (all ▷ event_of (leaves door.lock card.number card.link at).note)
    (gone_out (leaves door.lock card.number card.link at) card.number door)
left_here r desk all door card at s s' q may i =
    let a : Act = act.Left card.number card.link in
    let it : Noted = acts door.lock a door.lock.held at in
    let g = i.agrees in
    let t = here_itself r all door g in
    noted_here r desk all door it.note it.lock (but card.number door.inside)
    (but card.number door.slipped) s s' q g.its_room may.1 may.0 i
    (agrees_noted all r door it.note a door.lock.held _ _ g g.its_room g.its_fit g.its_held
    (those_left all r door.lock.room door.lock.fit (door.lock.made + 1) card.number card.link at door t s' g) _)

-- what the lock does when it is set, by whether it holds the code
abbrev pub set_by : Door → ℕ → Moment → Bool → Option Noted
set_by door code at same = if same then None else Some (acts door.lock (act.Recoded door.lock.held code) code at)

-- staff set the lock
pub set_here : (r : ℕ) (desk all : History) (door : Door) (code : ℕ) (at : Moment) (same : Bool)
    → Ordered desk → Ordered all → SameCommands desk all
    → (same ≡ false → MayMake all (acts door.lock (act.Recoded door.lock.held code) code at))
    → AtDoor r desk all door
    → AtDoor r desk (after_act all (set_by door code at same)) (was_set (set_by door code at same) door)
set_here r desk all door code at true s s' q may i = i
set_here r desk all door code at false s s' q may i =
    let a : Act = act.Recoded door.lock.held code in
    let it : Noted = acts door.lock a code at in
    let g = i.agrees in
    let t = here_itself r all door g in
    noted_here r desk all door it.note it.lock door.inside door.slipped s s' q g.its_room (may refl).1 (may refl).0 i
    (agrees_noted all r door it.note a code _ _ g g.its_room g.its_fit
    (sym (ap (λ b. when b (λ _. code) (held all r)) t)) g.its_inside _)
