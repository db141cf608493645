-- The rows after an event that touches one room.
use Rattle.std.proofs.Common.{ℕ, ◌≡◌, ◌+◌, List, [], ◌∷◌, ◌++◌, Bool, true, false, cond, refl, ap, sym, ◌∙◌, subst}
use Rattle.std.proofs.Common.{length, arith, ◌==◌, map}
use Rattle.hotel_model.proofs.Names.{nat_tests, RoomRow, room_changed}
use Rattle.hotel_model.proofs.{Facts.Follow.ApartFrom, Facts.Follow.RoomsOnce, OfTables.Tests.eq_from}

pub eq_flip : (a b : ℕ) → (a == b) ≡ false → (b == a) ≡ false
eq_flip a b h = grind (arith, nat_tests)

-- the rows of these rooms
abbrev pub rows_by : (ℕ → List ℕ → RoomRow) → List (ℕ × List ℕ) → List (ℕ × RoomRow)
rows_by f rs = map (λ e. (e.0, f e.0 e.1)) rs

pub others : (f g : ℕ → List ℕ → RoomRow) (room : ℕ) → ((r : ℕ) (k : List ℕ) → (room == r) ≡ false → f r k ≡ g r k)
    → (rs : List (ℕ × List ℕ)) → ApartFrom room rs → rows_by f rs ≡ rows_by g rs
others f g room a [] n = refl
others f g room a (e ∷ es) n = ap (λ row. (e.0, row) ∷ rows_by f es) (a e.0 e.1 (eq_flip e.0 room n.0))
    ∙ ap (λ zs. (e.0, g e.0 e.1) ∷ zs) (others f g room a es n.1)

here_or_later : (b : Bool) (f g : ℕ → List ℕ → RoomRow) (c : RoomRow → RoomRow) (room : ℕ)
    (e : ℕ × List ℕ) (es : List (ℕ × List ℕ))
    → (b ≡ true → (f e.0 e.1 ≡ c (g e.0 e.1)) × (rows_by f es ≡ rows_by g es))
    → (b ≡ false → (f e.0 e.1 ≡ g e.0 e.1) × (rows_by f es ≡ room_changed room c (rows_by g es)))
    → (e.0, f e.0 e.1) ∷ rows_by f es
    ≡ cond b ((e.0, c (g e.0 e.1)) ∷ rows_by g es) ((e.0, g e.0 e.1) ∷ room_changed room c (rows_by g es))
here_or_later true f g c room e es yes_ no_ =
    let y = yes_ refl in ap (λ row. (e.0, row) ∷ rows_by f es) y.0 ∙ ap (λ zs. (e.0, c (g e.0 e.1)) ∷ zs) y.1
here_or_later false f g c room e es yes_ no_ =
    let y = no_ refl in ap (λ row. (e.0, row) ∷ rows_by f es) y.0 ∙ ap (λ zs. (e.0, g e.0 e.1) ∷ zs) y.1

-- All other rooms' rows stay and this one's is changed.
pub one_changed : (f g : ℕ → List ℕ → RoomRow) (c : RoomRow → RoomRow) (room : ℕ)
    → ((r : ℕ) (k : List ℕ) → (room == r) ≡ false → f r k ≡ g r k) → ((k : List ℕ) → f room k ≡ c (g room k))
    → (rs : List (ℕ × List ℕ)) → RoomsOnce rs → rows_by f rs ≡ room_changed room c (rows_by g rs)
one_changed f g c room a s [] n = refl
one_changed f g c room a s (e ∷ es) n =
    here_or_later (e.0 == room) f g c room e es
    (λ t. (
      subst (λ z. f z e.1 ≡ c (g z e.1)) (sym (eq_from e.0 room t)) (s e.1),
      others f g room a es (subst (λ z. ApartFrom z es) (eq_from e.0 room t) n.0),
    ))
    (λ t. (a e.0 e.1 (eq_flip e.0 room t), one_changed f g c room a s es n.1))

pub length_more : {X : Type 0} (xs : List X) (x : X) → length (xs ++ x ∷ []) ≡ length xs + 1
length_more [] x = refl
length_more (y ∷ ys) x = let p = length_more ys x in omega arith
