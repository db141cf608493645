-- Who is registered where, and who is in house where: two functions that say the same.
use Rattle.std.proofs.Common.{ℕ, ◌≡◌, Bool, true, false, cond, Option, Some, None, refl, ap, sym, ◌∙◌, ◌==◌}
use Rattle.hotel_model.proofs.{Names.when, Names.other_than, RowsAfter.RowsRooms.eq_flip}
use Rattle.hotel_model.proofs.{OfTables.Numbered.true_is_not_false, OfTables.Tests.eq_from, OfTables.Tests.eq_self}

-- A party is registered at a room exactly where that is its home.
pub record Match (at : ℕ → Option ℕ) (home : ℕ → Option ℕ) : Type 0 where
  pub forth : (r p : ℕ) → at r ≡ Some p → home p ≡ Some r
  pub back : (r p : ℕ) → home p ≡ Some r → at r ≡ Some p

same_number : {a b : ℕ} → Some a ≡ Some b → a ≡ b
same_number h = cc

not_none : {a : ℕ} {o : Option ℕ} → o ≡ Some a → o ≡ None → ⊥
not_none s n = cc

-- who stays where a party leaves
pub stays_on : (party : ℕ) (o : Option ℕ) (p : ℕ) → other_than party o ≡ Some p → (o ≡ Some p) × ((party == p) ≡ false)
stays_on party (Some q) p h = by (q == party) refl h
  where
    by : (b : Bool) → (q == party) ≡ b → when b (λ _. None) (Some q) ≡ Some p
        → (Some q ≡ Some p) × ((party == p) ≡ false)
    by true e f = cc
    by false e f = (f, eq_flip p party (ap (λ z. z == party) (sym (same_number f)) ∙ e))
stays_on party None p h = cc

-- another party stays
pub others_stay : (party p : ℕ) → (party == p) ≡ false → other_than party (Some p) ≡ Some p
others_stay party p f = ap (λ b. when b (λ _. None) (Some p)) (eq_flip party p f)

-- a party leaves itself
pub itself_leaves : (party : ℕ) → other_than party (Some party) ≡ None
itself_leaves party = ap (λ b. when b (λ _. None) (Some party)) (eq_self party)

-- a party that isn't there doesn't leave
pub not_leaving : (party : ℕ) (o : Option ℕ) → (o ≡ Some party → ⊥) → other_than party o ≡ o
not_leaving party (Some q) f = by (q == party) refl
  where
    by : (b : Bool) → (q == party) ≡ b → when b (λ _. None) (Some q) ≡ Some q
    by true e = absurd (f (ap (λ z. Some z) (eq_from q party e)))
    by false e = refl
not_leaving party None f = refl

-- the party leaves its room
abbrev pub LeavesBy : ℕ → (ℕ → Option ℕ) → (ℕ → Option ℕ) → Type 0
LeavesBy party home home' = (p : ℕ) → home' p ≡ cond (party == p) None (home p)

-- the party comes to a room
abbrev pub ComesBy : ℕ → ℕ → (ℕ → Option ℕ) → (ℕ → Option ℕ) → Type 0
ComesBy party room home home' = (p : ℕ) → home' p ≡ cond (party == p) (Some room) (home p)

left_back : (c : Bool) (party r p : ℕ) (at home : ℕ → Option ℕ)
    → Match at home → (party == p) ≡ c → cond c None (home p) ≡ Some r → other_than party (at r) ≡ Some p
left_back true party r p at home m e h = cc
left_back false party r p at home m e h = ap (other_than party) (m.back r p h) ∙ others_stay party p e

-- after a party left
pub match_left : (party : ℕ) (at home home' : ℕ → Option ℕ)
    → Match at home → LeavesBy party home home' → Match (λ r. other_than party (at r)) home'
match_left party at home home' m l = record {
  forth = λ r p h. let s = stays_on party (at r) p h in l p ∙ ap (λ b. cond b None (home p)) s.1 ∙ m.forth r p s.0;
  back = λ r p h. left_back (party == p) party r p at home m refl (sym (l p) ∙ h);
}

came_forth : (b c : Bool) (party room r p : ℕ) (at home : ℕ → Option ℕ)
    → Match at home → (room == r) ≡ b → (party == p) ≡ c
    → when b (λ _. Some party) (other_than party (at r)) ≡ Some p → cond c (Some room) (home p) ≡ Some r
came_forth true true party room r p at home m s t h = ap (λ z. Some z) (eq_from room r s)
came_forth true false party room r p at home m s t h =
    absurd (true_is_not_false (ap (λ z. party == z) (sym (same_number h)) ∙ eq_self party) t)
came_forth false true party room r p at home m s t h = absurd (true_is_not_false t (stays_on party (at r) p h).1)
came_forth false false party room r p at home m s t h = m.forth r p (stays_on party (at r) p h).0

came_back : (b c : Bool) (party room r p : ℕ) (at home : ℕ → Option ℕ)
    → Match at home → other_than party (at room) ≡ None → (room == r) ≡ b → (party == p) ≡ c
    → cond c (Some room) (home p) ≡ Some r → when b (λ _. Some party) (other_than party (at r)) ≡ Some p
came_back true true party room r p at home m n s t h = ap (λ z. Some z) (eq_from party p t)
came_back true false party room r p at home m n s t h =
    absurd (not_none (ap (other_than party) (ap at (eq_from room r s) ∙ m.back r p h) ∙ others_stay party p t) n)
came_back false true party room r p at home m n s t h =
    absurd (true_is_not_false (ap (λ z. room == z) (sym (same_number h)) ∙ eq_self room) s)
came_back false false party room r p at home m n s t h = ap (other_than party) (m.back r p h) ∙ others_stay party p t

-- after a party came to a room where no other one was
pub match_came : (party room : ℕ) (at home home' : ℕ → Option ℕ)
    → Match at home → other_than party (at room) ≡ None → ComesBy party room home home'
    → Match (λ r. when (room == r) (λ _. Some party) (other_than party (at r))) home'
match_came party room at home home' m n c = record {
  forth = λ r p h. c p ∙ came_forth (room == r) (party == p) party room r p at home m refl refl h;
  back = λ r p h. came_back (room == r) (party == p) party room r p at home m n refl refl (sym (c p) ∙ h);
}

-- what is the same at each number matches
pub match_same : (at at' home home' : ℕ → Option ℕ)
    → Match at home → ((r : ℕ) → at' r ≡ at r) → ((p : ℕ) → home' p ≡ home p) → Match at' home'
match_same at at' home home' m a b =
    record { forth = λ r p h. b p ∙ m.forth r p (sym (a r) ∙ h); back = λ r p h. a r ∙ m.back r p (sym (b p) ∙ h) }
