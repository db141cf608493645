-- The locks of a building, with their logs.
use Rattle.std.proofs.Common.{ℕ, ◌≡◌, ◌<◌, Bool, true, false, Option, Some, None, List, [], ◌∷◌, ◌++◌, refl, ap, sym}
use Rattle.std.proofs.Common.{◌∙◌, subst, ◌==◌, ◌&&◌, ◌||◌, not, inl, inr, is_some, filter, cond}
use Rattle.std.specs.Prelude.{if◌then◌else◌}
use Rattle.hotel_model.proofs.Names.{when, is_one_of, at_number, turn, Card, Link, Note, Event}
use Rattle.hotel_model.proofs.Names.{Install, Moment, Refitted, Act, and_last, notes, notes_of, present_fit}
use Rattle.hotel_building.specs.Building.{event_by, at_once, after_act}
use Rattle.hotel_model.proofs.Names.{note_of, Reached}
use Rattle.hotel_model.specs.Event as event
use Rattle.hotel_model.proofs.OfTables.Grown.{may_follow}
use Rattle.hotel_model.proofs.Invariants.NoRooms.{nothing_noted}
use Rattle.hotel_model.proofs.Invariants.NotesOfFits.{none_later, notes_for}
use Rattle.hotel_building.proofs.Alike.{filter_more}
use Rattle.hotel_model.proofs.Names.{History, ◌▷◌, cards, those_in}
use Rattle.hotel_model.specs.Rows.{Rows, notes_at}
use Rattle.hotel_model.specs.History.{start}
use Rattle.keycard_rules.specs.declared.note.Act.TheVariants as act
use Rattle.hotel_lock.specs.Door.{Lock, Noted, acts, enters, leaves, is_set}
use Rattle.hotel_lock.specs.Log.{has_count, inside_after, inside_behind, is_inside, is_same_card, shows, goes_out, sets}
use Rattle.hotel_lock.specs.Logged.{Logged, logged_after}
use Rattle.hotel_model.proofs.OfTables.Tests.{eq_from, eq_self, lt_tested, or_true}
use Rattle.hotel_model.proofs.Invariants.InsideRooms.{one_of_these}
use Rattle.hotel_building.specs.Building.{Building, opened, ◌▸◌, Accepted, Shown, GoesOut, SlipsOut, SetTo, Told}
use Rattle.hotel_building.specs.Building.{Fails, Forged, Door}
use Rattle.hotel_building.specs.Building.{new_door, refitted, shown, gone_out, slipped_out, was_set, heard, door}
use Rattle.hotel_building.specs.Building.{desk, after_first, LeavesNothing, Reachable}
use Rattle.hotel_building.specs.Building.{event_of}
use Rattle.hotel_building.specs.Logs.{logged, new_log, set_to, OpensEmpty, NotesExits, LogIsTold, LogsAreDoors}
use Rattle.hotel_building.proofs.Quiet.{noted_quiet}
use Rattle.hotel_building.proofs.Inside.{is_in, one_but}
use Rattle.hotel_building.proofs.Grows.{Grows, grows_event, grows_same}
use Rattle.hotel_building.proofs.Agrees.{came_so, went_so, slipped_so}
use Rattle.hotel_building.proofs.AtDoor.{did, set_by}
use Rattle.hotel_building.proofs.Whole.{counted, whole}

-- a card of the number, if there is one, has the link
abbrev Fits : History → ℕ → Link → Type 0
Fits h n link = (card : Card) → at_number (cards h) n ≡ Some card → card.link ≡ link

fits_before : (h h' : History) (n : ℕ) (link : Link) → Grows h h' → Fits h' n link → Fits h n link
fits_before h h' n link g f card e = f card (g.cards_stay n card e)

-- the notes of a door have the card inside
abbrev has_inside : Door → ℕ → Bool
has_inside d n = is_one_of n d.inside || is_one_of n d.slipped

-- A lock with its log is a door's: by its notes the same cards are inside.
record AtLog (h : History) (l : Logged) (d : Door) : Type 0 where
  its_lock : l.lock ≡ d.lock
  its_log : (n : ℕ) (link : Link) → Fits h n link → is_inside l.notes n link ≡ has_inside d n

log_goes_on : (h h' : History) (l : Logged) (d : Door) → Grows h h' → AtLog h l d → AtLog h' l d
log_goes_on h h' l d g i = record {
  its_lock = i.its_lock;
  its_log = λ n link f. i.its_log n link (fits_before h h' n link g f);
}

-- what holds of a door and its log, where both changed or neither
at_both : (h : History) (ls : ℕ → Logged) (ds : ℕ → Door) (f : Logged → Logged) (g : Door → Door) (room r : ℕ)
    → AtLog h (f (ls room)) (g (ds room)) → AtLog h (ls r) (ds r)
    → AtLog h (when (room == r) f (ls r)) (when (room == r) g (ds r))
at_both h ls ds f g room r here other = by (room == r) refl
  where
    by : (b : Bool) → (room == r) ≡ b → AtLog h (when b f (ls r)) (when b g (ds r))
    by true t = subst (λ z. AtLog h (f (ls z)) (g (ds z))) (eq_from room r t) here
    by false q = other

-- ---- notes

-- the cards inside behind one more note
inside_more : (n : ℕ) (link : Link) (was : Bool) (xs : List Note) (x : Note)
    → inside_after n link was (xs ++ x ∷ []) ≡ inside_behind n link (inside_after n link was xs) x.act
inside_more n link was [] x = refl
inside_more n link was (y ∷ xs) x = inside_more n link (inside_behind n link was y.act) xs x

same_by : (b : Bool) (a c : Link) → (b ≡ true → a ≡ c)
    → (b && (a.old_code == c.old_code) && (a.new_code == c.new_code)) ≡ b
same_by true a c e =
    let p = e refl in
    (λ i. (p i).old_code == c.old_code && (p i).new_code == c.new_code)
    ∙ (λ i. eq_self c.old_code i && eq_self c.new_code i)
same_by false a c e = refl

-- an issued card is another one by its number alone
same_card : (h : History) (n : ℕ) (link : Link) (card : Card) → Fits h n link
    → at_number (cards h) card.number ≡ Some card → is_same_card n link card.number card.link ≡ (card.number == n)
same_card h n link card f known =
    same_by (card.number == n) card.link link
    (λ t. f card (ap (at_number (cards h)) (sym (eq_from card.number n t)) ∙ known))

counts : (lock : Lock) → lock.made < 9999999 → has_count lock ≡ true
counts lock few = lt_tested lock.made 9999999 few

-- ---- what is done at a door

shown_log : (h : History) (l : Logged) (d : Door) (card : Card) (at : Moment) → d.lock.made < 9999999
    → at_number (cards h) card.number ≡ Some card → AtLog h l d
    → AtLog h (logged_after l (shows l.lock card.number card.link at))
    (shown (enters d.lock card.number card.link at) card.number d)
shown_log h l d card at few known i =
    let same : shows l.lock card.number card.link at ≡ enters d.lock card.number card.link at =
    ap (λ k. shows k card.number card.link at) i.its_lock
    ∙ ap (λ b. if b then enters d.lock card.number card.link at else None) (counts d.lock few) in
    subst (λ o. AtLog h (logged_after l o) (shown (enters d.lock card.number card.link at) card.number d)) (sym same)
    (by (turn d.lock.held card.link))
  where
    by : (o : Option ℕ) → AtLog h (logged_after l (did d card at o)) (shown (did d card at o) card.number d)
    by None = i
    by (Some code) =
        let x = (acts d.lock (act.Entered card.number card.link) code at).note in
        record {
          its_lock = refl;
          its_log = λ n link f. inside_more n link false l.notes x
              ∙ (λ j. same_card h n link card f known j || i.its_log n link f j)
              ∙ came_so (card.number == n) (is_one_of n d.inside) (is_one_of n d.slipped)
              ∙ sym (λ j. ((card.number == n) || one_but card.number n d.inside j)
              || one_but card.number n d.slipped j);
        }

left_log : (h : History) (l : Logged) (d : Door) (card : Card) (at : Moment) → d.lock.made < 9999999
    → at_number (cards h) card.number ≡ Some card → has_inside d card.number ≡ true → AtLog h l d
    → AtLog h (logged_after l (goes_out l.lock l.notes card.number card.link at))
    (gone_out (leaves d.lock card.number card.link at) card.number d)
left_log h l d card at few known ins i =
    let fits : Fits h card.number card.link = λ k e. let w : Some k ≡ Some card = sym e ∙ known in cc in
    let there = i.its_log card.number card.link fits ∙ ins in
    let same : goes_out l.lock l.notes card.number card.link at ≡ Some (leaves d.lock card.number card.link at) =
    (λ j. if has_count (i.its_lock j) && there j then Some (leaves (i.its_lock j) card.number card.link at) else None)
    ∙ ap (λ b. if b && true then Some (leaves d.lock card.number card.link at) else None) (counts d.lock few) in
    let x = (leaves d.lock card.number card.link at).note in
    subst (λ o. AtLog h (logged_after l o) (gone_out (leaves d.lock card.number card.link at) card.number d)) (sym same)
    (record {
      its_lock = refl;
      its_log = λ n link f. inside_more n link false l.notes x
          ∙ (λ j. not (same_card h n link card f known j) && i.its_log n link f j)
          ∙ went_so (card.number == n) (is_one_of n d.inside) (is_one_of n d.slipped)
          ∙ sym (λ j. one_but card.number n d.inside j || one_but card.number n d.slipped j);
    })

-- a lock that has a count for a note is set as the door's
sets_as : (lock : Lock) (d : Door) (code : ℕ) (at : Moment) → d.lock.made < 9999999 → lock ≡ d.lock
    → sets lock code at ≡ is_set d.lock code at
sets_as lock d code at few e =
    ap (λ k. sets k code at) e ∙ ap (λ b. if b then is_set d.lock code at else None) (counts d.lock few)

set_lock : (h : History) (l : Logged) (d : Door) (code : ℕ) (at : Moment) → d.lock.made < 9999999 → AtLog h l d
    → (logged_after l (sets l.lock code at)).lock ≡ (was_set (is_set d.lock code at) d).lock
set_lock h l d code at few i =
    subst (λ o. (logged_after l o).lock ≡ (was_set (is_set d.lock code at) d).lock)
    (sym (sets_as l.lock d code at few i.its_lock)) (by (d.lock.held == code))
  where
    by : (b : Bool) → (logged_after l (set_by d code at b)).lock ≡ (was_set (set_by d code at b) d).lock
    by true = i.its_lock
    by false = refl

-- a setting brings no card in or out, by the log
inside_set : (l : Logged) (code : ℕ) (at : Moment) (n : ℕ) (link : Link)
    → is_inside (logged_after l (sets l.lock code at)).notes n link ≡ is_inside l.notes n link
inside_set l code at n link = by (has_count l.lock) (l.lock.held == code)
  where
    x : Noted
    x = acts l.lock (act.Recoded l.lock.held code) code at

    by : (counted same : Bool) → is_inside (logged_after l
        (if counted then (if same then None else Some x) else None)).notes n link ≡ is_inside l.notes n link
    by false same = refl
    by true true = refl
    by true false = inside_more n link false l.notes x.note

-- so it is, whether the log has the note of the setting or lacks it
inside_stays : (l : Logged) (code : ℕ) (at : Moment) (n : ℕ) (link : Link)
    → is_inside (set_to code at l).notes n link ≡ is_inside l.notes n link
inside_stays l code at n link = search inside_set

-- and none at the door
door_stays : (d : Door) (n : ℕ) (o : Option Noted) → has_inside (was_set o d) n ≡ has_inside d n
door_stays d n None = refl
door_stays d n (Some it) = refl

set_log : (h : History) (l : Logged) (d : Door) (code : ℕ) (at : Moment) → d.lock.made < 9999999 → AtLog h l d
    → AtLog h (set_to code at l) (was_set (is_set d.lock code at) d)
set_log h l d code at few i = record {
  its_lock = set_lock h l d code at few i;
  its_log = λ n link f. inside_stays l code at n link ∙ i.its_log n link f
      ∙ sym (door_stays d n (is_set d.lock code at));
}

slipped_log : (h : History) (l : Logged) (d : Door) (number : ℕ) → is_one_of number d.inside ≡ true → AtLog h l d
    → AtLog h l (slipped_out number d)
slipped_log h l d number t i = record {
  its_lock = i.its_lock;
  its_log = λ n link f. i.its_log n link f
      ∙ slipped_so (number == n) (is_one_of n d.inside) (is_one_of n d.slipped)
      (λ e. ap (λ z. is_one_of z d.inside) (sym (eq_from number n e)) ∙ t)
      ∙ sym (λ j. one_but number n d.inside j || ((number == n) || one_but number n d.slipped j));
}

heard_log : (h : History) (l : Logged) (d : Door) → AtLog h l d → AtLog h l (heard d)
heard_log h l d i = record { its_lock = i.its_lock; its_log = i.its_log }

-- what holds of a log and a door, where the door changed or not
at_one : (h : History) (ls : ℕ → Logged) (ds : ℕ → Door) (g : Door → Door) (room r : ℕ)
    → AtLog h (ls room) (g (ds room)) → AtLog h (ls r) (ds r) → AtLog h (ls r) (when (room == r) g (ds r))
at_one h ls ds g room r here other = by (room == r) refl
  where
    by : (b : Bool) → (room == r) ≡ b → AtLog h (ls r) (when b g (ds r))
    by true t = subst (λ z. AtLog h (ls z) (g (ds z))) (eq_from room r t) here
    by false q = other

-- ---- all steps

log_accepted : (b : Building) (e : Event) → LeavesNothing b e → Grows (desk b) (desk b ▷ e)
    → ((r : ℕ) → AtLog (desk b) (logged b r) (door b r)) → (r : ℕ)
    → AtLog (desk b ▷ e) (logged (b ▸ Accepted e) r) (door (b ▸ Accepted e) r)
log_accepted b (Install room kind code) leaves g i r =
    let h : History = desk b ▷ Install room kind code in
    at_both h (logged b) (door b) (λ _. new_log room 1 code) (λ _. new_door room code) room r
    (record { its_lock = refl; its_log = λ n link f. refl })
    (log_goes_on (desk b) h (logged b r) (door b r) g (i r))
log_accepted b (Refitted room fit code) leaves g i r =
    let h : History = desk b ▷ Refitted room fit code in
    at_both h (logged b) (door b) (λ _. new_log room fit code) (refitted room fit code) room r
    (record { its_lock = refl; its_log = λ n link f. ap (λ ns. is_one_of n ns || false) (sym leaves) })
    (log_goes_on (desk b) h (logged b r) (door b r) g (i r))
log_accepted b e leaves g i r = log_goes_on (desk b) (desk b ▷ e) (logged b r) (door b r) g (i r)

told_grows : (h : History) (xs : List Note) → Grows h (after_first h xs)
told_grows h [] = record { rooms_stay = λ r t. t; cards_stay = λ n card e. e }
told_grows h (x ∷ xs) = grows_same h (h ▷ event_of x) (sym (noted_quiet h x))

logs_at : (b : Building) → Reachable b → OpensEmpty b → (r : ℕ) → AtLog (desk b) (logged b r) (door b r)
logs_at (opened t) ok empty r = record {
  its_lock = refl;
  its_log = λ n link f. ap (λ (z : Rows). is_one_of n (those_in z.inside r) || false) (sym empty);
}
logs_at (b ▸ Accepted e) ok empty r =
    log_accepted b e ok.1.1 (grows_event (desk b) e (whole (b ▸ Accepted e) ok).desk_ok) (logs_at b ok.0 empty) r
logs_at (b ▸ Shown room card at) ok empty r =
    at_both (desk b) (logged b) (door b) (λ l. logged_after l (shows l.lock card.number card.link at))
    (λ d. shown (enters d.lock card.number card.link at) card.number d) room r
    (shown_log (desk b) (logged b room) (door b room) card at ok.1.1.1 ok.1.0 (logs_at b ok.0 empty room))
    (logs_at b ok.0 empty r)
logs_at (b ▸ GoesOut room card at) ok empty r =
    at_both (desk b) (logged b) (door b) (λ l. logged_after l (goes_out l.lock l.notes card.number card.link at))
    (λ d. gone_out (leaves d.lock card.number card.link at) card.number d) room r
    (left_log (desk b) (logged b room) (door b room) card at ok.1.1.1 ok.1.0 (counted card.number (door b room) ok.1.2)
    (logs_at b ok.0 empty room)) (logs_at b ok.0 empty r)
logs_at (b ▸ SlipsOut room number) ok empty r =
    at_one (desk b) (logged b) (door b) (slipped_out number) room r
    (slipped_log (desk b) (logged b room) (door b room) number (one_of_these (door b room).inside number ok.1)
    (logs_at b ok.0 empty room)) (logs_at b ok.0 empty r)
logs_at (b ▸ SetTo room code at) ok empty r =
    at_both (desk b) (logged b) (door b) (set_to code at)
    (λ d. was_set (is_set d.lock code at) d) room r
    (set_log (desk b) (logged b room) (door b room) code at ok.1.0.1 (logs_at b ok.0 empty room))
    (logs_at b ok.0 empty r)
logs_at (b ▸ Told room) ok empty r =
    let g = told_grows (desk b) (door b room).unread in
    let h = after_first (desk b) (door b room).unread in
    at_one h (logged b) (door b) heard room r
    (heard_log h (logged b room) (door b room)
    (log_goes_on (desk b) h (logged b room) (door b room) g (logs_at b ok.0 empty room)))
    (log_goes_on (desk b) h (logged b r) (door b r) g (logs_at b ok.0 empty r))
logs_at (b ▸ Fails room after) ok empty r = elim ok.1 [ ]
logs_at (b ▸ Forged note) ok empty r = elim ok.1 [ ]

some_if : (b : Bool) (x : Noted) → is_some (if b then Some x else None) ≡ b
some_if true x = refl
some_if false x = refl

notes_exits : (b : Building) → Reachable b → OpensEmpty b → (r : ℕ) → NotesExits b r
notes_exits b ok empty r card at known can =
    let i = logs_at b ok empty r in
    let l = logged b r in
    let d = door b r in
    let n = card.number in
    let fits : Fits (desk b) n card.link = λ k e. let w : Some k ≡ Some card = sym e ∙ known in cc in
    let has : is_some (goes_out l.lock l.notes n card.link at) ≡ has_inside d n =
    some_if (has_count l.lock && is_inside l.notes n card.link) (leaves l.lock n card.link at)
    ∙ (λ j. (ap has_count i.its_lock ∙ counts d.lock can.1) j && i.its_log n card.link fits j) in (
      λ some. elim (or_true (is_one_of n d.inside) (is_one_of n d.slipped) (sym has ∙ some)) [
        | inl t ↦ inl (is_in n d.inside t)
        | inr t ↦ inr (is_in n d.slipped t)
      ],
      λ c. has ∙ counted n d c,
    )

-- ---- the log is what is told

-- one more note, at its end
end_of : (b f : Bool) → b ≡ true → f ≡ true → (ns : List Note) (x : Note) (fit : ℕ) → (x.fit == fit) ≡ f
    → filter (λ (y : Note). y.fit == fit) (when b (and_last x) ns) ≡ filter (λ (y : Note). y.fit == fit) ns ++ x ∷ []
end_of b f t u ns x fit e =
    ap (λ z. filter (λ (y : Note). y.fit == fit) (when z (and_last x) ns)) t
    ∙ filter_more fit ns x
    ∙ ap (λ z. filter (λ (y : Note). y.fit == fit) ns ++ cond z (x ∷ []) []) (e ∙ u)

one_kept : (h : History) (r : ℕ) (x : Note) (a : Act) → x.room ≡ r → x.fit ≡ present_fit h r
    → notes_of (h ▷ event_by x a) r (present_fit (h ▷ event_by x a) r)
    ≡ notes_of h r (present_fit h r) ++ record x { act = a } ∷ []
one_kept h r x (act.Entered number link) e f =
    end_of _ _ (ap (λ z. z == r) e ∙ eq_self r) refl (notes h r) (record x { act = act.Entered number link }) _
    (ap (λ z. z == present_fit h r) f ∙ eq_self (present_fit h r))
one_kept h r x (act.Left number link) e f =
    end_of _ _ (ap (λ z. z == r) e ∙ eq_self r) refl (notes h r) (record x { act = act.Left number link }) _
    (ap (λ z. z == present_fit h r) f ∙ eq_self (present_fit h r))
one_kept h r x (act.Recoded from to) e f =
    end_of _ _ (ap (λ z. z == r) e ∙ eq_self r) refl (notes h r) (record x { act = act.Recoded from to }) _
    (ap (λ z. z == present_fit h r) f ∙ eq_self (present_fit h r))

-- a note of another room
none_kept : (h : History) (r : ℕ) (x : Note) (a : Act) → (x.room == r) ≡ false
    → notes_of (h ▷ event_by x a) r (present_fit (h ▷ event_by x a) r) ≡ notes_of h r (present_fit h r)
none_kept h r x (act.Entered number link) q = rw q refl
none_kept h r x (act.Left number link) q = rw q refl
none_kept h r x (act.Recoded from to) q = rw q refl

fresh_kept : (b : Building) (room r : ℕ) (fit code : ℕ)
    → filter (λ (y : Note). y.fit == fit) (notes (at_once b) room) ≡ [] → LogIsTold b r
    → (when (room == r) (λ _. new_log room fit code) (logged b r)).notes
    ≡ filter (λ (y : Note). y.fit == when (room == r) (λ _. fit) (present_fit (at_once b) r)) (notes (at_once b) r)
fresh_kept b room r fit code none k = by (room == r) refl
  where
    by : (z : Bool) → (room == r) ≡ z → (when z (λ _. new_log room fit code) (logged b r)).notes
        ≡ filter (λ (y : Note). y.fit == when z (λ _. fit) (present_fit (at_once b) r)) (notes (at_once b) r)
    by true t = sym (ap (λ z. filter (λ (y : Note). y.fit == fit) (notes (at_once b) z)) (sym (eq_from room r t))
        ∙ none)
    by false q = k

accepted_kept : (b : Building) (e : Event) (r : ℕ) → note_of e ≡ None → Reached (at_once b ▷ e) → LogIsTold b r
    → LogIsTold (b ▸ Accepted e) r
accepted_kept b (Install room kind code) r n ok k =
    fresh_kept b room r 1 code (ap (filter (λ (y : Note). y.fit == 1))
    (nothing_noted (at_once b) ok.0 room (may_follow (at_once b) (Install room kind code) ok).1)) k
accepted_kept b (Refitted room fit code) r n ok k =
    let t = at_once b in
    fresh_kept b room r fit code
    (ap (λ f. filter (λ (y : Note). y.fit == f) (notes t room)) (may_follow t (Refitted room fit code) ok).2
    ∙ none_later (present_fit t room) (notes t room) (notes_for t ok.0 room).0) k
accepted_kept b (event.Entered room fit count number link at) r n ok k = absurd (let m = n in cc)
accepted_kept b (event.Left room fit count number link at) r n ok k = absurd (let m = n in cc)
accepted_kept b (event.Recoded room fit count from to at) r n ok k = absurd (let m = n in cc)
accepted_kept b e r n ok k = k

-- what was done at a room's door
done_kept : (b : Building) (ok : Reachable b) (room r : ℕ) (f : Logged → Option Noted) (o : Option Noted)
    → f (logged b room) ≡ o
    → ((it : Noted) → o ≡ Some it → (it.note.room ≡ room) × (it.note.fit ≡ present_fit (at_once b) room))
    → LogIsTold b r → (when (room == r) (λ l. logged_after l (f l)) (logged b r)).notes
    ≡ notes_of (after_act (at_once b) o) r (present_fit (after_act (at_once b) o) r)
done_kept b ok room r f o e its k = by (room == r) refl o refl
  where
    by : (z : Bool) → (room == r) ≡ z → (p : Option Noted) → o ≡ p
        → (when z (λ l. logged_after l (f l)) (logged b r)).notes
        ≡ notes_of (after_act (at_once b) p) r (present_fit (after_act (at_once b) p) r)
    by true t None q =
        let here : f (logged b r) ≡ None = subst (λ s. f (logged b s) ≡ None) (eq_from room r t) (e ∙ q) in
        ap (λ p. (logged_after (logged b r) p).notes) here ∙ k
    by true t (Some it) q =
        let here : f (logged b r) ≡ Some it = subst (λ s. f (logged b s) ≡ Some it) (eq_from room r t) (e ∙ q) in
        let i = its it q in
        let s = eq_from room r t in
        ap (λ p. (logged_after (logged b r) p).notes) here ∙ ap (λ ns. ns ++ it.note ∷ []) k
        ∙ sym (one_kept (at_once b) r it.note it.note.act (i.0 ∙ s) (i.1 ∙ ap (present_fit (at_once b)) s))
    by false n None q = k
    by false n (Some it) q =
        k ∙ sym (none_kept (at_once b) r it.note it.note.act (ap (λ z. z == r) (its it q).0 ∙ n))

of_lock : (lock : Lock) (x it : Noted) → (x.note.room ≡ lock.room) × (x.note.fit ≡ lock.fit) → Some x ≡ Some it
    → (it.note.room ≡ lock.room) × (it.note.fit ≡ lock.fit)
of_lock lock x it p e = subst (λ (z : Noted). (z.note.room ≡ lock.room) × (z.note.fit ≡ lock.fit)) (unsome x it e) p
  where
    unsome : (x y : Noted) → Some x ≡ Some y → x ≡ y
    unsome x y e = ap (λ o. elim o [ Some z ↦ z | None ↦ x ]) e

entered_of : (d : Door) (card : Card) (at : Moment) (o : Option ℕ) (it : Noted) → did d card at o ≡ Some it
    → (it.note.room ≡ d.lock.room) × (it.note.fit ≡ d.lock.fit)
entered_of d card at None it e = cc
entered_of d card at (Some code) it e =
    of_lock d.lock (acts d.lock (act.Entered card.number card.link) code at) it (refl, refl) e

recoded_of : (d : Door) (code : ℕ) (at : Moment) (b : Bool) (it : Noted) → set_by d code at b ≡ Some it
    → (it.note.room ≡ d.lock.room) × (it.note.fit ≡ d.lock.fit)
recoded_of d code at true it e = cc
recoded_of d code at false it e =
    of_lock d.lock (acts d.lock (act.Recoded d.lock.held code) code at) it (refl, refl) e

notes_kept : (b : Building) → Reachable b → OpensEmpty b → (r : ℕ) → LogIsTold b r
notes_kept (opened t) ok empty r =
    ap (λ (z : Rows). filter (λ (y : Note). y.fit == present_fit (start t) r) (notes_at z.notes r)) (sym empty)
notes_kept (b ▸ Accepted e) ok empty r =
    accepted_kept b e r ok.1.0.0 (whole (b ▸ Accepted e) ok).all_ok (notes_kept b ok.0 empty r)
notes_kept (b ▸ Shown room card at) ok empty r =
    let d = door b room in
    let g = ((whole b ok.0).doors room).agrees in
    let i = logs_at b ok.0 empty room in
    let same : shows (logged b room).lock card.number card.link at ≡ enters d.lock card.number card.link at =
    ap (λ k. shows k card.number card.link at) i.its_lock
    ∙ ap (λ b. if b then enters d.lock card.number card.link at else None) (counts d.lock ok.1.1.1) in
    done_kept b ok.0 room r (λ l. shows l.lock card.number card.link at) (enters d.lock card.number card.link at) same
    (λ it e. let p = entered_of d card at (turn d.lock.held card.link) it e in (p.0 ∙ g.its_room, p.1 ∙ g.its_fit))
    (notes_kept b ok.0 empty r)
notes_kept (b ▸ GoesOut room card at) ok empty r =
    let d = door b room in
    let g = ((whole b ok.0).doors room).agrees in
    let i = logs_at b ok.0 empty room in
    let l = logged b room in
    let fits : Fits (desk b) card.number card.link = λ k e. let w : Some k ≡ Some card = sym e ∙ ok.1.0 in cc in
    let there = i.its_log card.number card.link fits ∙ counted card.number d ok.1.2 in
    let same : goes_out l.lock l.notes card.number card.link at ≡ Some (leaves d.lock card.number card.link at) =
    (λ j. if has_count (i.its_lock j) && there j then Some (leaves (i.its_lock j) card.number card.link at) else None)
    ∙ ap (λ b. if b && true then Some (leaves d.lock card.number card.link at) else None) (counts d.lock ok.1.1.1) in
    done_kept b ok.0 room r (λ l. goes_out l.lock l.notes card.number card.link at)
    (Some (leaves d.lock card.number card.link at)) same
    (λ it e. let p = of_lock d.lock (leaves d.lock card.number card.link at) it (refl, refl) e in
    (p.0 ∙ g.its_room, p.1 ∙ g.its_fit))
    (notes_kept b ok.0 empty r)
notes_kept (b ▸ SlipsOut room number) ok empty r = notes_kept b ok.0 empty r
notes_kept (b ▸ SetTo room code at) ok empty r =
    let d = door b room in
    let g = ((whole b ok.0).doors room).agrees in
    let same = sets_as (logged b room).lock d code at ok.1.0.1 (logs_at b ok.0 empty room).its_lock in
    done_kept b ok.0 room r (λ l. sets l.lock code at) (is_set d.lock code at) same
    (λ it e. let p = recoded_of d code at (d.lock.held == code) it e in (p.0 ∙ g.its_room, p.1 ∙ g.its_fit))
    (notes_kept b ok.0 empty r)
notes_kept (b ▸ Told room) ok empty r = notes_kept b ok.0 empty r
notes_kept (b ▸ Fails room after) ok empty r = elim ok.1 [ ]
notes_kept (b ▸ Forged note) ok empty r = elim ok.1 [ ]

pub logs_are_doors : LogsAreDoors
logs_are_doors b ok empty r = ((logs_at b ok empty r).its_lock, notes_exits b ok empty r, notes_kept b ok empty r)
