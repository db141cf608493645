-- Histories that are alike at a room: what its door is like there is the same. Each event keeps them alike.
use Rattle.std.proofs.Common.{ℕ, ◌≡◌, Bool, true, false, List, [], ◌∷◌, refl, ap, sym, ◌∙◌, subst, ◌==◌}
use Rattle.std.proofs.Common.{◌&&◌, ◌||◌, not, inl, inr, filter, ◌++◌, cond}
use Rattle.hotel_model.proofs.Names.{when, and_last, last_of, without, after, is_one_of, pair_cmp, those_in}
use Rattle.hotel_model.proofs.Names.{those_elsewhere, Note, Act, note_from, Event}
use Rattle.hotel_model.proofs.Names.{Entered, Install, Issue, Left, Recoded, Refitted}
use Rattle.hotel_model.proofs.Names.{History, ◌▷◌, held, awaited, secured, inside, insiders, notes, notes_of, issued}
use Rattle.hotel_model.proofs.Names.{present_fit}
use Rattle.keycard_rules.specs.declared.note.Act.TheVariants as act
use Rattle.hotel_model.proofs.OfTables.Tests.{eq_from, either_way, not_both}
use Rattle.hotel_model.proofs.OfTables.Pairs.{pair_cmp_total}
use Rattle.hotel_model.proofs.OfTables.KeysInOrder.{InOrder, in_order_filtered, in_order_inserted, in_order_removed}
use Rattle.hotel_model.proofs.Invariants.InsideRooms.{none_inside}
use Rattle.hotel_building.specs.Building.{event_by, event_of}
use Rattle.hotel_building.proofs.Inside.{came, went, others_stay, none_alike}

-- At a room the lock holds and awaits the same codes, the same cards are inside, it is secured or not alike, and it has
-- the same notes, codes and fit.
pub record Alike (r : ℕ) (h h' : History) : Type 0 where
  pub same_held : held h r ≡ held h' r
  pub same_awaited : awaited h r ≡ awaited h' r
  pub same_secured : secured h r ≡ secured h' r
  pub same_inside : (n : ℕ) → is_one_of n (inside h r) ≡ is_one_of n (inside h' r)
  pub same_notes : notes_of h r (present_fit h r) ≡ notes_of h' r (present_fit h' r)
  pub same_codes : issued h r ≡ issued h' r
  pub same_lock : present_fit h r ≡ present_fit h' r

pub alike_self : (r : ℕ) (h : History) → Alike r h h
alike_self r h = record {
  same_held = refl;
  same_awaited = refl;
  same_secured = refl;
  same_inside = λ n. refl;
  same_notes = refl;
  same_codes = refl;
  same_lock = refl;
}

pub alike_back : (r : ℕ) (h h' : History) → Alike r h h' → Alike r h' h
alike_back r h h' a = record {
  same_held = sym a.same_held;
  same_awaited = sym a.same_awaited;
  same_secured = sym a.same_secured;
  same_inside = λ n. sym (a.same_inside n);
  same_notes = sym a.same_notes;
  same_codes = sym a.same_codes;
  same_lock = sym a.same_lock;
}

pub alike_on : (r : ℕ) (h g h' : History) → Alike r h g → Alike r g h' → Alike r h h'
alike_on r h g h' a b = record {
  same_held = a.same_held ∙ b.same_held;
  same_awaited = a.same_awaited ∙ b.same_awaited;
  same_secured = a.same_secured ∙ b.same_secured;
  same_inside = λ n. a.same_inside n ∙ b.same_inside n;
  same_notes = a.same_notes ∙ b.same_notes;
  same_codes = a.same_codes ∙ b.same_codes;
  same_lock = a.same_lock ∙ b.same_lock;
}

-- the cards inside stand in order
abbrev pub Ordered : History → Type 0
Ordered h = InOrder pair_cmp (insiders h)

pub ordered_more : (h : History) (e : Event) → Ordered h → Ordered (h ▷ e)
ordered_more h (Refitted room fit code) s = in_order_filtered pair_cmp _ (insiders h) s
ordered_more h (Entered room fit count number link at) s =
    in_order_inserted pair_cmp pair_cmp_total (room, number) (insiders h) s
ordered_more h (Left room fit count number link at) s = in_order_removed pair_cmp (room, number) (insiders h) s
ordered_more h _ s = s

-- the event is of the room's door
abbrev pub touches : Event → ℕ → Bool
touches (Install room kind code) r = room == r
touches (Issue party room number code) r = room == r
touches (Refitted room fit code) r = room == r
touches (Entered room fit count number link at) r = room == r
touches (Left room fit count number link at) r = room == r
touches (Recoded room fit count from to at) r = room == r
touches _ r = false

-- an event that isn't changes nothing there
pub untouched : (h : History) (e : Event) (r : ℕ) → Ordered h → touches e r ≡ false → Alike r (h ▷ e) h
untouched h (Install room kind code) r s q = record {
  same_held = rw q refl;
  same_awaited = refl;
  same_secured = rw q refl;
  same_inside = λ n. refl;
  same_notes = rw q refl;
  same_codes = rw q refl;
  same_lock = rw q refl;
}
untouched h (Issue party room number code) r s q = record {
  same_held = refl;
  same_awaited = rw q refl;
  same_secured = rw q refl;
  same_inside = λ n. refl;
  same_notes = refl;
  same_codes = rw q refl;
  same_lock = refl;
}
untouched h (Refitted room fit code) r s q = record {
  same_held = rw q refl;
  same_awaited = rw q refl;
  same_secured = rw q refl;
  same_inside = λ n. ap (is_one_of n) (others_stay (insiders h) room r q);
  same_notes = rw q refl;
  same_codes = rw q refl;
  same_lock = rw q refl;
}
untouched h (Entered room fit count number link at) r s q = record {
  same_held = rw q refl;
  same_awaited = rw q refl;
  same_secured = rw q refl;
  same_inside = λ n. came (insiders h) room number r n
      ∙ ap (λ b. (b && (number == n)) || is_one_of n (inside h r)) q;
  same_notes = rw q refl;
  same_codes = refl;
  same_lock = refl;
}
untouched h (Left room fit count number link at) r s q = record {
  same_held = refl;
  same_awaited = refl;
  same_secured = refl;
  same_inside = λ n. went (insiders h) room number r n s
      ∙ ap (λ b. not (b && (number == n)) && is_one_of n (inside h r)) q;
  same_notes = rw q refl;
  same_codes = refl;
  same_lock = refl;
}
untouched h (Recoded room fit count from to at) r s q = record {
  same_held = rw q refl;
  same_awaited = rw q refl;
  same_secured = refl;
  same_inside = λ n. refl;
  same_notes = rw q refl;
  same_codes = refl;
  same_lock = refl;
}
untouched h _ r s q = record {
  same_held = refl;
  same_awaited = refl;
  same_secured = refl;
  same_inside = λ n. refl;
  same_notes = refl;
  same_codes = refl;
  same_lock = refl;
}

-- the event brings no new lock
abbrev pub KeepsLock : Event → Type 0
KeepsLock (Install room kind code) = ⊥
KeepsLock (Refitted room fit code) = ⊥
KeepsLock _ = Unit {0}

pub keeps_by : (x : Note) (a : Act) → KeepsLock (event_by x a)
keeps_by x (act.Entered number link) = tt
keeps_by x (act.Left number link) = tt
keeps_by x (act.Recoded from to) = tt

pub filter_more : (f : ℕ) (ns : List Note) (x : Note) → filter (λ (y : Note). y.fit == f) (ns ++ x ∷ [])
    ≡ filter (λ (y : Note). y.fit == f) ns ++ filter (λ (y : Note). y.fit == f) (x ∷ [])
filter_more f [] x = refl
filter_more f (y ∷ ns) x = by (y.fit == f) (filter_more f ns x)
  where
    by : (b : Bool) → filter (λ (y : Note). y.fit == f) (ns ++ x ∷ [])
        ≡ filter (λ (y : Note). y.fit == f) ns ++ filter (λ (y : Note). y.fit == f) (x ∷ [])
        → cond b (y ∷ filter (λ (y : Note). y.fit == f) (ns ++ x ∷ []))
        (filter (λ (y : Note). y.fit == f) (ns ++ x ∷ []))
        ≡ cond b (y ∷ filter (λ (y : Note). y.fit == f) ns) (filter (λ (y : Note). y.fit == f) ns)
        ++ filter (λ (y : Note). y.fit == f) (x ∷ [])
    by true e = ap (λ zs. y ∷ zs) e
    by false e = e

kept_by : (b : Bool) (f f' : ℕ) (x : Note) (ns ns' : List Note) → f ≡ f'
    → filter (λ (y : Note). y.fit == f) ns ≡ filter (λ (y : Note). y.fit == f') ns'
    → filter (λ (y : Note). y.fit == f) (when b (and_last x) ns)
    ≡ filter (λ (y : Note). y.fit == f') (when b (and_last x) ns')
kept_by false f f' x ns ns' p e = e
kept_by true f f' x ns ns' p e =
    filter_more f ns x ∙ (λ i. e i ++ filter (λ (y : Note). y.fit == p i) (x ∷ [])) ∙ sym (filter_more f' ns' x)

-- nobody is inside a room that was cleared
pub cleared : (h : History) (room r : ℕ) → (room == r) ≡ true → those_in (those_elsewhere room (insiders h)) r ≡ []
cleared h room r t =
    subst (λ z. those_in (those_elsewhere room (insiders h)) z ≡ []) (eq_from room r t) (none_inside (insiders h) room)

-- an event of the room's door keeps histories alike
touched : (h h' : History) (e : Event) (r : ℕ) → KeepsLock e → Ordered h → Ordered h' → touches e r ≡ true
    → Alike r h h' → Alike r (h ▷ e) (h' ▷ e)
touched h h' (Install room kind code) r k s s' t a = elim k [ ]
touched h h' (Issue party room number code) r k s s' t a = record {
  same_held = a.same_held;
  same_awaited = ap (when (room == r) (and_last code)) a.same_awaited;
  same_secured = ap (when (room == r) (λ _. false)) a.same_secured;
  same_inside = a.same_inside;
  same_notes = a.same_notes;
  same_codes = ap (when (room == r) (and_last code)) a.same_codes;
  same_lock = a.same_lock;
}
touched h h' (Refitted room fit code) r k s s' t a = elim k [ ]
touched h h' (Entered room fit count number link at) r k s s' t a =
    let there : Alike room h h' = subst (λ z. Alike z h h') (sym (eq_from room r t)) a in
    let none = none_alike (inside h room) (inside h' room) there.same_inside in
    record {
      same_held = ap (when (room == r) (λ _. link.new_code)) a.same_held;
      same_awaited = λ i. when ((room == r) && (there.same_held i == link.old_code)) (without link.new_code)
          (a.same_awaited i);
      same_secured = λ i. when ((room == r) && (link.new_code == last_of (there.same_codes i)) && none i) (λ _. true)
          (a.same_secured i);
      same_inside = λ n. came (insiders h) room number r n
          ∙ ap (λ b. ((room == r) && (number == n)) || b) (a.same_inside n) ∙ sym (came (insiders h') room number r n);
      same_notes = kept_by (room == r) (present_fit h r) (present_fit h' r)
          (note_from room fit count (act.Entered number link) at) (notes h r) (notes h' r) a.same_lock a.same_notes;
      same_codes = a.same_codes;
      same_lock = a.same_lock;
    }
touched h h' (Left room fit count number link at) r k s s' t a = record {
  same_held = a.same_held;
  same_awaited = a.same_awaited;
  same_secured = a.same_secured;
  same_inside = λ n. went (insiders h) room number r n s
      ∙ ap (λ b. not ((room == r) && (number == n)) && b) (a.same_inside n)
      ∙ sym (went (insiders h') room number r n s');
  same_notes = kept_by (room == r) (present_fit h r) (present_fit h' r)
      (note_from room fit count (act.Left number link) at) (notes h r) (notes h' r) a.same_lock a.same_notes;
  same_codes = a.same_codes;
  same_lock = a.same_lock;
}
touched h h' (Recoded room fit count from to at) r k s s' t a = record {
  same_held = ap (when (room == r) (λ _. to)) a.same_held;
  same_awaited = ap (when (room == r) (after to)) a.same_awaited;
  same_secured = a.same_secured;
  same_inside = a.same_inside;
  same_notes = kept_by (room == r) (present_fit h r) (present_fit h' r)
      (note_from room fit count (act.Recoded from to) at) (notes h r) (notes h' r) a.same_lock a.same_notes;
  same_codes = a.same_codes;
  same_lock = a.same_lock;
}
touched h h' _ r k s s' t a = not_both false t refl

-- each event keeps histories alike
pub alike_more : (h h' : History) (e : Event) (r : ℕ) → KeepsLock e → Ordered h → Ordered h' → Alike r h h'
    → Alike r (h ▷ e) (h' ▷ e)
alike_more h h' e r k s s' a =
    elim (either_way (touches e r)) [
      | inl t ↦ touched h h' e r k s s' t a
      | inr f ↦ alike_on r (h ▷ e) h (h' ▷ e) (untouched h e r s f)
          (alike_on r h h' (h' ▷ e) a (alike_back r (h' ▷ e) h' (untouched h' e r s' f)))
    ]

-- a history after all of some notes, in turn
abbrev pub after_all : History → List Note → History
after_all h [] = h
after_all h (note ∷ later) = after_all (h ▷ event_of note) later

pub ordered_all : (h : History) (xs : List Note) → Ordered h → Ordered (after_all h xs)
ordered_all h [] s = s
ordered_all h (x ∷ xs) s = ordered_all (h ▷ event_of x) xs (ordered_more h (event_of x) s)

-- and so do notes
pub alike_all : (h h' : History) (xs : List Note) (r : ℕ) → Ordered h → Ordered h' → Alike r h h'
    → Alike r (after_all h xs) (after_all h' xs)
alike_all h h' [] r s s' a = a
alike_all h h' (x ∷ xs) r s s' a =
    alike_all (h ▷ event_of x) (h' ▷ event_of x) xs r (ordered_more h (event_of x) s) (ordered_more h' (event_of x) s')
    (alike_more h h' (event_of x) r (keeps_by x x.act) s s' a)
