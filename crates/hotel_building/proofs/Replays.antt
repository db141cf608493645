-- The notes that the desk has not heard: each may follow after those before it, now and after other events.
use Rattle.std.proofs.Common.{ℕ, suc, ◌≡◌, ◌+◌, Bool, true, false, cond, List, [], ◌∷◌, ◌++◌, length, drop}
use Rattle.std.proofs.Common.{refl, ap, sym, ◌∙◌, subst, arith, ◌==◌, ◌||◌, not, is_some}
use Rattle.hotel_model.proofs.Names.{position_or_len, after, without, is_one_of}
use Rattle.hotel_model.proofs.Names.{Note, Act, History, ◌▷◌, turn, notes_of, present_fit}
use Rattle.hotel_model.proofs.Names.{InRange}
use Rattle.keycard_rules.specs.declared.note.Act.TheVariants as act
use Rattle.hotel_model.proofs.Facts.Follow.{MayFollow}
use Rattle.hotel_model.proofs.OfTables.Tests.{not_both}
use Rattle.hotel_building.specs.Building.{event_by, event_of}
use Rattle.hotel_building.proofs.Quiet.{SameCommands, noted_quiet}
use Rattle.hotel_building.proofs.Grows.{Grows, grows_noted, card_stays}
use Rattle.hotel_building.proofs.Alike.{Alike, alike_more, keeps_by, Ordered}
use Rattle.hotel_building.proofs.Alike.{ordered_more, after_all, touches}

-- Notes of a room may follow a history, one after the other.
abbrev pub Replays : ℕ → History → List Note → Type 0
Replays r h [] = Unit {0}
Replays r h (x ∷ xs) =
    (x.room ≡ r) × MayFollow h (event_of x) × InRange (event_of x) × Replays r (h ▷ event_of x) xs

-- the event of a note is of its room's door
pub touches_by : (note : Note) (a : Act) (r : ℕ) → touches (event_by note a) r ≡ (note.room == r)
touches_by note (act.Entered number link) r = refl
touches_by note (act.Left number link) r = refl
touches_by note (act.Recoded from to) r = refl

-- ---- after a history that is alike

kept_count : (h h' : History) (note : Note) → note.fit ≡ present_fit h note.room → Alike note.room h h'
    → note.count ≡ length (notes_of h note.room note.fit) + 1 → note.count ≡ length (notes_of h' note.room note.fit) + 1
kept_count h h' note f a e =
    e ∙ (λ i. length (notes_of h note.room (f i)) + 1) ∙ ap (λ (ns : List Note). length ns + 1) a.same_notes
    ∙ (λ i. length (notes_of h' note.room (sym (f ∙ a.same_lock) i)) + 1)

by_act : (h h' : History) (note : Note) (a : Act) → Alike note.room h h' → Grows h h' → MayFollow h (event_by note a)
    → MayFollow h' (event_by note a)
by_act h h' note (act.Entered number link) a g m =
    let c = card_stays h h' g number link m.2 m.3 in (
      kept_count h h' note m.5 a m.0,
      g.rooms_stay note.room m.1,
      c.0,
      c.1,
      sym (ap (λ z. is_some (turn z link)) a.same_held) ∙ m.4,
      m.5 ∙ a.same_lock,
    )
by_act h h' note (act.Left number link) a g m =
    let c = card_stays h h' g number link m.2 m.3 in (
      kept_count h h' note m.5 a m.0,
      g.rooms_stay note.room m.1,
      c.0,
      c.1,
      sym (a.same_inside number) ∙ m.4,
      m.5 ∙ a.same_lock,
    )
by_act h h' note (act.Recoded from to) a g m = (
  kept_count h h' note m.4 a m.0,
  g.rooms_stay note.room m.1,
  sym (ap (λ z. z == from) a.same_held) ∙ m.2,
  sym (ap (λ zs. is_one_of to zs) a.same_awaited) ∙ m.3,
  m.4 ∙ a.same_lock,
)

-- a note of a room may follow a history that is alike there
pub may_along : (r : ℕ) (h h' : History) (note : Note) → note.room ≡ r → Alike r h h' → Grows h h'
    → MayFollow h (event_of note) → MayFollow h' (event_of note)
may_along r h h' note e a g m = by_act h h' note note.act (subst (λ z. Alike z h h') (sym e) a) g m

-- and so may notes in turn
pub replays_along : (r : ℕ) (h h' : History) (xs : List Note) → Ordered h → Ordered h' → Alike r h h' → Grows h h'
    → Replays r h xs → Replays r h' xs
replays_along r h h' [] s s' a g p = tt
replays_along r h h' (x ∷ xs) s s' a g p = (
  p.0,
  may_along r h h' x p.0 a g p.1,
  p.2,
  replays_along r (h ▷ event_of x) (h' ▷ event_of x) xs (ordered_more h (event_of x) s)
      (ordered_more h' (event_of x) s') (alike_more h h' (event_of x) r (keeps_by x x.act) s s' a)
      (grows_noted h h' x g) p.3,
)

-- one more note
pub replays_more : (r : ℕ) (h : History) (xs : List Note) (x : Note) → x.room ≡ r → InRange (event_of x)
    → MayFollow (after_all h xs) (event_of x) → Replays r h xs → Replays r h (xs ++ x ∷ [])
replays_more r h [] x e range m p = (e, m, range, tt)
replays_more r h (y ∷ xs) x e range m p = (p.0, p.1, p.2, replays_more r (h ▷ event_of y) xs x e range m p.3)

pub after_more : (h : History) (xs : List Note) (x : Note) → after_all h (xs ++ x ∷ []) ≡ after_all h xs ▷ event_of x
after_more h [] x = refl
after_more h (y ∷ xs) x = after_more (h ▷ event_of y) xs x

-- notes are no commands
pub quiet_all : (h : History) (xs : List Note) → SameCommands (after_all h xs) h
quiet_all h [] = refl
quiet_all h (x ∷ xs) = quiet_all (h ▷ event_of x) xs ∙ noted_quiet h x

-- ---- after a card was given a new code

pub without_last : (new code : ℕ) (xs : List ℕ) → (code == new) ≡ false
    → without new (xs ++ code ∷ []) ≡ without new xs ++ code ∷ []
without_last new code [] f = ap (λ b. cond b [] (code ∷ [])) f
without_last new code (x ∷ xs) f = by (x == new) (without_last new code xs f)
  where
    by : (b : Bool) → without new (xs ++ code ∷ []) ≡ without new xs ++ code ∷ []
        → cond b (xs ++ code ∷ []) (x ∷ without new (xs ++ code ∷ [])) ≡ cond b xs (x ∷ without new xs) ++ code ∷ []
    by true e = refl
    by false e = ap (λ zs. x ∷ zs) e

after_by : (b : Bool) (place x : ℕ) (xs : List ℕ)
    → drop ((cond (not b) (1 + place) 0) + 1) (x ∷ xs) ≡ cond b xs (drop (place + 1) xs)
after_by true place x xs = refl
after_by false place x xs = let k : 1 + place + 1 ≡ suc (place + 1) = omega arith in ap (λ n. drop n (x ∷ xs)) k

-- the codes after one of them, by the first
pub after_first_of : (to x : ℕ) (xs : List ℕ) → after to (x ∷ xs) ≡ cond (x == to) xs (after to xs)
after_first_of to x xs = after_by (x == to) (position_or_len (λ m. m == to) xs) x xs

pub after_last : (to code : ℕ) (xs : List ℕ) → is_one_of to xs ≡ true
    → after to (xs ++ code ∷ []) ≡ after to xs ++ code ∷ []
after_last to code [] t = not_both false t refl
after_last to code (x ∷ xs) t =
    after_first_of to x (xs ++ code ∷ []) ∙ by (x == to) t (after_last to code xs)
    ∙ ap (λ zs. zs ++ code ∷ []) (sym (after_first_of to x xs))
  where
    by : (b : Bool) → (b || is_one_of to xs) ≡ true
        → (is_one_of to xs ≡ true → after to (xs ++ code ∷ []) ≡ after to xs ++ code ∷ [])
        → cond b (xs ++ code ∷ []) (after to (xs ++ code ∷ [])) ≡ cond b xs (after to xs) ++ code ∷ []
    by true t ih = refl
    by false t ih = ih t
