-- Who is inside a room after a card came in or left.
use Rattle.std.proofs.Common.{ℕ, zero, suc, ◌≡◌, ◌<◌, Bool, true, false, cond, List, [], ◌∷◌, length, ◌⊎◌, inl, inr}
use Rattle.std.proofs.Common.{refl, ap, ◌∙◌, arith, ◌==◌, ◌||◌, not, Contains, slice_index_or, Ordering, Less, Equal}
use Rattle.std.proofs.Common.{Greater}
use Rattle.hotel_model.proofs.Names.{match_ordering, insert_key, is_at, remove_key, when, is_one_of, pair_cmp}
use Rattle.hotel_model.proofs.Names.{those_elsewhere, those_in, are_none}
use Rattle.hotel_model.proofs.OfTables.Tests.{eq_from, eq_self, or_true, not_both}

pub one_of_when : (b : Bool) (m x : ℕ) (ns : List ℕ)
    → is_one_of m (when b (λ numbers. x ∷ numbers) ns) ≡ true → ((b ≡ true) × (x ≡ m)) ⊎ (is_one_of m ns ≡ true)
one_of_when true m x ns e =
    elim (or_true (x == m) (is_one_of m ns) e) [
      | inl t ↦ inl (refl, eq_from x m t)
      | inr t ↦ inr t
    ]
one_of_when false m x ns e = inr e

or_one : (a b : Bool) → (a ≡ true) ⊎ (b ≡ true) → (a || b) ≡ true
or_one true b e = refl
or_one false b (inl e) = not_both false e refl
or_one false b (inr e) = e

when_one_of : (b : Bool) (m x : ℕ) (ns : List ℕ)
    → ((b ≡ true) × (x ≡ m)) ⊎ (is_one_of m ns ≡ true) → is_one_of m (when b (λ numbers. x ∷ numbers) ns) ≡ true
when_one_of true m x ns (inl p) = or_one (x == m) (is_one_of m ns) (inl (ap (λ z. z == m) p.1 ∙ eq_self m))
when_one_of true m x ns (inr p) = or_one (x == m) (is_one_of m ns) (inr p)
when_one_of false m x ns (inl p) = not_both false p.0 refl
when_one_of false m x ns (inr p) = p

came_by : (o : Ordering) (e : ℕ × ℕ) (es : List (ℕ × ℕ)) (room number r m : ℕ)
    → (is_one_of m (those_in (insert_key pair_cmp es (room, number)) r) ≡ true
    → ((room ≡ r) × (number ≡ m)) ⊎ (is_one_of m (those_in es r) ≡ true))
    → is_one_of m (those_in (match_ordering o ((room, number) ∷ e ∷ es) (e ∷ es)
    (e ∷ insert_key pair_cmp es (room, number))) r) ≡ true
    → ((room ≡ r) × (number ≡ m)) ⊎ (is_one_of m (those_in (e ∷ es) r) ≡ true)
came_by Less e es room number r m ih t =
    elim (one_of_when (room == r) m number (those_in (e ∷ es) r) t) [
      | inl p ↦ inl (eq_from room r p.0, p.1)
      | inr p ↦ inr p
    ]
came_by Equal e es room number r m ih t = inr t
came_by Greater e es room number r m ih t =
    elim (one_of_when (e.0 == r) m e.1 (those_in (insert_key pair_cmp es (room, number)) r) t) [
      | inl p ↦ inr (when_one_of (e.0 == r) m e.1 (those_in es r) (inl p))
      | inr p ↦ elim (ih p) [
        | inl q ↦ inl q
        | inr q ↦ inr (when_one_of (e.0 == r) m e.1 (those_in es r) (inr q))
      ]
    ]

-- who is inside after a card came in: this card, or who was inside before
pub came_in : (es : List (ℕ × ℕ)) (room number r m : ℕ)
    → is_one_of m (those_in (insert_key pair_cmp es (room, number)) r) ≡ true
    → ((room ≡ r) × (number ≡ m)) ⊎ (is_one_of m (those_in es r) ≡ true)
came_in [] room number r m t =
    elim (one_of_when (room == r) m number [] t) [
      | inl p ↦ inl (eq_from room r p.0, p.1)
      | inr p ↦ inr p
    ]
came_in (e ∷ es) room number r m t =
    came_by (pair_cmp (room, number) e) e es room number r m (came_in es room number r m) t

left_by : (b : Bool) (e : ℕ × ℕ) (later es : List (ℕ × ℕ)) (r m : ℕ)
    → (is_one_of m (those_in later r) ≡ true → is_one_of m (those_in es r) ≡ true)
    → is_one_of m (those_in (cond b es (e ∷ later)) r) ≡ true → is_one_of m (those_in (e ∷ es) r) ≡ true
left_by true e later es r m ih t = when_one_of (e.0 == r) m e.1 (those_in es r) (inr t)
left_by false e later es r m ih t =
    elim (one_of_when (e.0 == r) m e.1 (those_in later r) t) [
      | inl p ↦ when_one_of (e.0 == r) m e.1 (those_in es r) (inl p)
      | inr p ↦ when_one_of (e.0 == r) m e.1 (those_in es r) (inr (ih p))
    ]

-- who is inside after a card left was inside before
pub left_out : (es : List (ℕ × ℕ)) (k : ℕ × ℕ) (r m : ℕ)
    → is_one_of m (those_in (remove_key (is_at (pair_cmp k)) es) r) ≡ true → is_one_of m (those_in es r) ≡ true
left_out [] k r m t = t
left_out (e ∷ es) k r m t =
    left_by (is_at (pair_cmp k) e) e (remove_key (is_at (pair_cmp k)) es) es r m (left_out es k r m) t

elsewhere_by : (b : Bool) (e : ℕ × ℕ) (later es : List (ℕ × ℕ)) (r m : ℕ)
    → (is_one_of m (those_in later r) ≡ true → is_one_of m (those_in es r) ≡ true)
    → is_one_of m (those_in (cond b (e ∷ later) later) r) ≡ true → is_one_of m (those_in (e ∷ es) r) ≡ true
elsewhere_by true e later es r m ih t =
    elim (one_of_when (e.0 == r) m e.1 (those_in later r) t) [
      | inl p ↦ when_one_of (e.0 == r) m e.1 (those_in es r) (inl p)
      | inr p ↦ when_one_of (e.0 == r) m e.1 (those_in es r) (inr (ih p))
    ]
elsewhere_by false e later es r m ih t = when_one_of (e.0 == r) m e.1 (those_in es r) (inr (ih t))

-- who is inside after a room was cleared was inside before
pub elsewhere_in : (es : List (ℕ × ℕ)) (room r m : ℕ)
    → is_one_of m (those_in (those_elsewhere room es) r) ≡ true → is_one_of m (those_in es r) ≡ true
elsewhere_in [] room r m t = t
elsewhere_in (e ∷ es) room r m t =
    elsewhere_by (not (e.0 == room)) e (those_elsewhere room es) es r m (elsewhere_in es room r m) t

cleared_by : (b : Bool) (e : ℕ × ℕ) (later : List (ℕ × ℕ)) (room : ℕ)
    → (e.0 == room) ≡ b → those_in later room ≡ [] → those_in (cond (not b) (e ∷ later) later) room ≡ []
cleared_by true e later room q n = n
cleared_by false e later room q n = ap (λ b. when b (λ numbers. e.1 ∷ numbers) (those_in later room)) q ∙ n

-- and nobody is inside that room
pub none_inside : (es : List (ℕ × ℕ)) (room : ℕ) → those_in (those_elsewhere room es) room ≡ []
none_inside [] room = refl
none_inside (e ∷ es) room = cleared_by (e.0 == room) e (those_elsewhere room es) room refl (none_inside es room)

-- in an empty room is nobody
pub nobody_in : (ns : List ℕ) (m : ℕ) → are_none ns ≡ true → is_one_of m ns ≡ false
nobody_in [] m e = refl
nobody_in (n ∷ ns) m e = not_both false e refl

at_place : (n : ℕ) (ns : List ℕ) (m k : ℕ) → (Contains ns m → is_one_of m ns ≡ true) → k < length (n ∷ ns)
    → slice_index_or (n ∷ ns) k m ≡ m → is_one_of m (n ∷ ns) ≡ true
at_place n ns m zero ih lt e = or_one (n == m) (is_one_of m ns) (inl (ap (λ z. z == m) e ∙ eq_self m))
at_place n ns m (suc k) ih lt e = or_one (n == m) (is_one_of m ns) (inr (ih (k, omega arith, e)))

-- an element of a list passes its test
pub one_of_these : (ns : List ℕ) (m : ℕ) → Contains ns m → is_one_of m ns ≡ true
one_of_these [] m c = absurd (let lt = c.1 in omega arith)
one_of_these (n ∷ ns) m c = at_place n ns m c.0 (one_of_these ns m) c.1 c.2
