-- A row that is written over is the row changed.
use Rattle.std.proofs.Common.{ℕ, ◌≡◌, Bool, true, false, cond, Option, Some, None, List, [], ◌∷◌, refl, ap, sym, ◌∙◌}
use Rattle.std.proofs.Common.{◌==◌, nat_cmp}
use Rattle.hotel_books.proofs.Names.{is_at, set_value, Stay, StayState, RoomRow, at_number, room_changed, in_state}
use Rattle.hotel_books.proofs.Names.{now_is}
use Rattle.hotel_books.proofs.OfTables.MapEntries.{missed, at_is}

-- the values, with f done to that of a number
abbrev changed : {X : Type 0} → ℕ → (X → X) → List (ℕ × X) → List (ℕ × X)
changed k f [] = []
changed k f (e ∷ es) = cond (e.0 == k) ((e.0, f e.1) ∷ es) (e ∷ changed k f es)

same_some : {X : Type 0} {a b : X} → Some a ≡ Some b → a ≡ b
same_some h = cc

written_by : {X : Type 0} (b : Bool) (k : ℕ) (f : X → X) (row : X) (e : ℕ × X) (es : List (ℕ × X))
    → cond b (Some e.1) (at_number es k) ≡ Some row
    → (at_number es k ≡ Some row → set_value (is_at (nat_cmp k)) es (f row) ≡ changed k f es)
    → cond b ((e.0, f row) ∷ es) (e ∷ set_value (is_at (nat_cmp k)) es (f row))
    ≡ cond b ((e.0, f e.1) ∷ es) (e ∷ changed k f es)
written_by true k f row e es h ih = ap (λ z. (e.0, f z) ∷ es) (sym (same_some h))
written_by false k f row e es h ih = ap (λ rest. e ∷ rest) (ih h)

written : {X : Type 0} (k : ℕ) (f : X → X) (row : X) (es : List (ℕ × X))
    → at_number es k ≡ Some row → set_value (is_at (nat_cmp k)) es (f row) ≡ changed k f es
written {X} k f row [] h = absurd (let w : ◌≡◌ {A = Option X} None (Some row) = h in cc)
written k f row (e ∷ es) h =
    ap (λ b. cond b ((e.0, f row) ∷ es) (e ∷ set_value (is_at (nat_cmp k)) es (f row))) (at_is k e.0)
    ∙ written_by (e.0 == k) k f row e es
    (ap (λ b. cond b (Some e.1) (at_number es k)) (sym (at_is k e.0)) ∙ h) (written k f row es)

unchanged : {X : Type 0} (k : ℕ) (f : X → X) (es : List (ℕ × X)) → at_number es k ≡ None → changed k f es ≡ es
unchanged k f [] h = refl
unchanged k f (e ∷ es) h =
    let m = missed (is_at (nat_cmp k) e.0) e.1 (at_number es k) h in
    ap (λ b. cond b ((e.0, f e.1) ∷ es) (e ∷ changed k f es)) (sym (at_is k e.0) ∙ m.0)
    ∙ ap (λ rest. e ∷ rest) (unchanged k f es m.1)

rooms_are : (room : ℕ) (f : RoomRow → RoomRow) (es : List (ℕ × RoomRow)) → changed room f es ≡ room_changed room f es
rooms_are room f [] = refl
rooms_are room f (e ∷ es) = ap (λ rest. cond (e.0 == room) ((e.0, f e.1) ∷ es) (e ∷ rest)) (rooms_are room f es)

stays_are : (party : ℕ) (state : StayState) (es : List (ℕ × Stay))
    → changed party (now_is state) es ≡ in_state party state es
stays_are party state [] = refl
stays_are party state (e ∷ es) =
    ap (λ rest. cond (e.0 == party) ((e.0, now_is state e.1) ∷ es) (e ∷ rest)) (stays_are party state es)

pub room_written : (room : ℕ) (f : RoomRow → RoomRow) (row : RoomRow) (es : List (ℕ × RoomRow))
    → at_number es room ≡ Some row → set_value (is_at (nat_cmp room)) es (f row) ≡ room_changed room f es
room_written room f row es h = written room f row es h ∙ rooms_are room f es

pub room_absent : (room : ℕ) (f : RoomRow → RoomRow) (es : List (ℕ × RoomRow))
    → at_number es room ≡ None → room_changed room f es ≡ es
room_absent room f es h = sym (rooms_are room f es) ∙ unchanged room f es h

pub stay_written : (party : ℕ) (state : StayState) (stay : Stay) (es : List (ℕ × Stay)) → at_number es party ≡ Some stay
    → set_value (is_at (nat_cmp party)) es (now_is state stay) ≡ in_state party state es
stay_written party state stay es h = written party (now_is state) stay es h ∙ stays_are party state es

pub stay_absent : (party : ℕ) (state : StayState) (es : List (ℕ × Stay))
    → at_number es party ≡ None → in_state party state es ≡ es
stay_absent party state es h = sym (stays_are party state es) ∙ unchanged party (now_is state) es h
