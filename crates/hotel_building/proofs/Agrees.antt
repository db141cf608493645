-- A door is as the notes of all its acts say.
use Rattle.std.proofs.Common.{ℕ, ◌≡◌, ◌+◌, Bool, true, false, cond, List, [], ◌∷◌, ◌++◌, length}
use Rattle.std.proofs.Common.{filter, refl, ap, sym, ◌∙◌, arith, ◌==◌, ◌&&◌, ◌||◌, not, inl, inr}
use Rattle.hotel_model.proofs.Names.{when, and_last, is_one_of, Note, Act}
use Rattle.hotel_model.proofs.Names.{Link, Moment, Entered, Left, Install, Issue, Refitted, History, ◌▷◌, held, inside}
use Rattle.hotel_model.proofs.Names.{insiders, notes}
use Rattle.hotel_model.proofs.Names.{notes_of, present_fit, is_room, Reached}
use Rattle.keycard_rules.specs.declared.note.Act.TheVariants as act
use Rattle.hotel_model.proofs.OfTables.Tests.{eq_from, eq_self, not_both, either_way}
use Rattle.hotel_model.proofs.OfTables.Grown.{may_follow}
use Rattle.hotel_model.proofs.Invariants.NoRooms.{nothing_noted}
use Rattle.hotel_model.proofs.Invariants.NotesOfFits.{none_later, notes_for}
use Rattle.hotel_model.proofs.Invariants.InsideRooms.{none_inside}
use Rattle.hotel_model.proofs.SoundRows.SoundInside.{insiders_seen}
use Rattle.hotel_building.specs.Building.{Door, but, new_door, refitted, first_door, slipped_out, event_by}
use Rattle.hotel_building.proofs.Inside.{came, went, one_but}
use Rattle.hotel_building.proofs.Alike.{Alike, Ordered}

-- A door of a room is as a history says: its lock is the present one, holds the held code and made the notes that were
-- taken, and the cards inside are those that are or slipped out.
pub record Agrees (h : History) (r : ℕ) (door : Door) : Type 0 where
  pub its_room : door.lock.room ≡ r
  pub its_fit : door.lock.fit ≡ present_fit h r
  pub its_held : door.lock.held ≡ held h r
  pub its_made : door.lock.made ≡ length (notes_of h r (present_fit h r))
  pub its_inside : (n : ℕ) → is_one_of n (inside h r) ≡ (is_one_of n door.inside || is_one_of n door.slipped)

or_none : (b : Bool) → b ≡ (b || false)
or_none true = refl
or_none false = refl

pub agrees_first : (h : History) (r : ℕ) → Agrees h r (first_door h r)
agrees_first h r = record {
  its_room = refl;
  its_fit = refl;
  its_held = refl;
  its_made = refl;
  its_inside = λ n. or_none (is_one_of n (inside h r));
}

-- so it is by each history that is alike there
pub agrees_along : (r : ℕ) (h h' : History) (door : Door) → Alike r h h' → Agrees h' r door → Agrees h r door
agrees_along r h h' door a g = record {
  its_room = g.its_room;
  its_fit = g.its_fit ∙ sym a.same_lock;
  its_held = g.its_held ∙ sym a.same_held;
  its_made = g.its_made
      ∙ ap (λ (xs : List Note). length xs) (sym a.same_notes);
  its_inside = λ n. a.same_inside n ∙ g.its_inside n;
}

-- a card with a new code changes nothing at the door
pub agrees_issue : (h : History) (party r number code : ℕ) (door : Door) → Agrees h r door
    → Agrees (h ▷ Issue party r number code) r door
agrees_issue h party r number code door g = record {
  its_room = g.its_room;
  its_fit = g.its_fit;
  its_held = g.its_held;
  its_made = g.its_made;
  its_inside = g.its_inside;
}

-- nobody is inside a room that isn't there
none_there : (h : History) → Reached h → (r n : ℕ) → is_room h r ≡ false → is_one_of n (inside h r) ≡ false
none_there h ok r n f = elim (either_way (is_one_of n (inside h r))) [
  | inl t ↦ not_both (is_room h r) (insiders_seen h ok r n t).0 f
  | inr g ↦ g
]

pub agrees_installed : (h : History) (room : ℕ) (kind : List ℕ) (code : ℕ) → Reached (h ▷ Install room kind code)
    → Agrees (h ▷ Install room kind code) room (new_door room code)
agrees_installed h room kind code ok =
    let there = (may_follow h (Install room kind code) ok).1 in
    let none = nothing_noted h ok.0 room there in
    record {
      its_room = refl;
      its_fit = rw (eq_self room) refl;
      its_held = rw (eq_self room) refl;
      its_made = λ i. length (filter (λ (x : Note). x.fit == present_fit (h ▷ Install room kind code) room)
          (sym none i));
      its_inside = λ n. none_there h ok.0 room n there;
    }

pub agrees_refitted : (h : History) (room fit code : ℕ) (door : Door) → Reached (h ▷ Refitted room fit code)
    → door.inside ≡ [] → Agrees (h ▷ Refitted room fit code) room (refitted room fit code door)
agrees_refitted h room fit code door ok out =
    let next = (may_follow h (Refitted room fit code) ok).2 in
    let none = none_later (present_fit h room) (notes h room) (notes_for h ok.0 room).0 in
    let its : present_fit (h ▷ Refitted room fit code) room ≡ present_fit h room + 1 = rw (eq_self room) next in
    record {
      its_room = refl;
      its_fit = rw (eq_self room) refl;
      its_held = rw (eq_self room) refl;
      its_made = sym (ap (λ f. length (filter (λ (x : Note). x.fit == f) (notes h room))) its
          ∙ ap (λ (xs : List Note). length xs) none);
      its_inside = λ n. ap (is_one_of n) (none_inside (insiders h) room)
          ∙ ap (λ ns. is_one_of n ns || false) (sym out);
    }

-- ---- what a lock does

kept_more : (b : Bool) (fit : ℕ) (taken : List Note) (x : Note) → b ≡ true → x.fit ≡ fit
    → length (filter (λ (y : Note). y.fit == fit) (when b (and_last x) taken))
    ≡ length (filter (λ (y : Note). y.fit == fit) taken) + 1
kept_more true fit [] x t e = ap (λ b. length (cond b (x ∷ []) [])) (ap (λ z. z == fit) e ∙ eq_self fit)
kept_more true fit (y ∷ taken) x t e = by (y.fit == fit) (kept_more true fit taken x t e)
  where
    by : (b : Bool) → length (filter (λ (y : Note). y.fit == fit) (taken ++ x ∷ []))
        ≡ length (filter (λ (y : Note). y.fit == fit) taken) + 1
        → length (cond b (y ∷ filter (λ (y : Note). y.fit == fit) (taken ++ x ∷ []))
        (filter (λ (y : Note). y.fit == fit) (taken ++ x ∷ [])))
        ≡ length (cond b (y ∷ filter (λ (y : Note). y.fit == fit) taken)
        (filter (λ (y : Note). y.fit == fit) taken)) + 1
    by true ih = omega arith
    by false ih = ih
kept_more false fit taken x t e = not_both false t refl

-- one more note of the present lock
pub made_more : (h : History) (r : ℕ) (note : Note) (a : Act) → note.room ≡ r → note.fit ≡ present_fit h r
    → length (notes_of (h ▷ event_by note a) r (present_fit (h ▷ event_by note a) r))
    ≡ length (notes_of h r (present_fit h r)) + 1
made_more h r note (act.Entered number link) e f =
    kept_more (note.room == r) (present_fit h r) (notes h r) _ (ap (λ z. z == r) e ∙ eq_self r) f
made_more h r note (act.Left number link) e f =
    kept_more (note.room == r) (present_fit h r) (notes h r) _ (ap (λ z. z == r) e ∙ eq_self r) f
made_more h r note (act.Recoded from to) e f =
    kept_more (note.room == r) (present_fit h r) (notes h r) _ (ap (λ z. z == r) e ∙ eq_self r) f

pub came_so : (m i s : Bool) → (m || (i || s)) ≡ ((m || (not m && i)) || (not m && s))
came_so true i s = refl
came_so false i s = refl

pub went_so : (m i s : Bool) → (not m && (i || s)) ≡ ((not m && i) || (not m && s))
went_so true i s = refl
went_so false i s = refl

pub slipped_so : (m i s : Bool) → (m ≡ true → i ≡ true) → (i || s) ≡ ((not m && i) || (m || (not m && s)))
slipped_so true i s f = ap (λ b. b || s) (f refl)
slipped_so false i s f = refl

-- what a note of the door's lock has after an act, where the lock holds what the history then says
pub agrees_noted : (h : History) (r : ℕ) (door : Door) (note : Note) (a : Act) (code : ℕ) (ins slips : List ℕ)
    → Agrees h r door → note.room ≡ r → note.fit ≡ present_fit h r → code ≡ held (h ▷ event_by note a) r
    → ((n : ℕ) → is_one_of n (inside (h ▷ event_by note a) r) ≡ (is_one_of n ins || is_one_of n slips))
    → (unread : List Note) → Agrees (h ▷ event_by note a) r (record {
      lock = record door.lock { held = code; made = door.lock.made + 1 };
      unread = unread;
      inside = ins;
      slipped = slips;
    })
agrees_noted h r door note a code ins slips g e f holds those unread = record {
  its_room = g.its_room;
  its_fit = g.its_fit ∙ same_fit h r note a;
  its_held = holds;
  its_made = ap (λ n. n + 1) g.its_made ∙ sym (made_more h r note a e f);
  its_inside = those;
}
  where
    same_fit : (h : History) (r : ℕ) (note : Note) (a : Act) → present_fit h r ≡ present_fit (h ▷ event_by note a) r
    same_fit h r note (act.Entered number link) = refl
    same_fit h r note (act.Left number link) = refl
    same_fit h r note (act.Recoded from to) = refl

-- who is inside after an entry
pub those_entered : (h : History) (r room fit count number : ℕ) (link : Link) (at : Moment) (door : Door)
    → (room == r) ≡ true → Agrees h r door → (n : ℕ)
    → is_one_of n (inside (h ▷ Entered room fit count number link at) r)
    ≡ (is_one_of n (number ∷ but number door.inside) || is_one_of n (but number door.slipped))
those_entered h r room fit count number link at door t g n =
    came (insiders h) room number r n
    ∙ (λ i. (t i && (number == n)) || g.its_inside n i)
    ∙ came_so (number == n) (is_one_of n door.inside) (is_one_of n door.slipped)
    ∙ sym (λ i. ((number == n) || one_but number n door.inside i) || one_but number n door.slipped i)

-- and after an exit
pub those_left : (h : History) (r room fit count number : ℕ) (link : Link) (at : Moment) (door : Door)
    → (room == r) ≡ true → Ordered h → Agrees h r door → (n : ℕ)
    → is_one_of n (inside (h ▷ Left room fit count number link at) r)
    ≡ (is_one_of n (but number door.inside) || is_one_of n (but number door.slipped))
those_left h r room fit count number link at door t s g n =
    went (insiders h) room number r n s
    ∙ (λ i. not (t i && (number == n)) && g.its_inside n i)
    ∙ went_so (number == n) (is_one_of n door.inside) (is_one_of n door.slipped)
    ∙ sym (λ i. one_but number n door.inside i || one_but number n door.slipped i)

-- a card that slips out is counted as inside
pub agrees_slipped : (h : History) (r number : ℕ) (door : Door) → is_one_of number door.inside ≡ true
    → Agrees h r door → Agrees h r (slipped_out number door)
agrees_slipped h r number door t g = record {
  its_room = g.its_room;
  its_fit = g.its_fit;
  its_held = g.its_held;
  its_made = g.its_made;
  its_inside = λ n. g.its_inside n
      ∙ slipped_so (number == n) (is_one_of n door.inside) (is_one_of n door.slipped)
      (λ e. ap (λ z. is_one_of z door.inside) (sym (eq_from number n e)) ∙ t)
      ∙ sym (λ i. one_but number n door.inside i || ((number == n) || one_but number n door.slipped i));
}
