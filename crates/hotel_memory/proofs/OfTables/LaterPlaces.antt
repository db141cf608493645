-- The places from a room's number of codes on stay free.
use Rattle.std.proofs.Common.{ℕ, ◌≡◌, ◌+◌, ◌≤◌, ◌<◌, Bool, true, false, cond, Option, Some, None, IsSome, List, [], ◌∷◌}
use Rattle.std.proofs.Common.{refl, ap, sym, ◌∙◌, subst, arith, ◌==◌, nat_cmp}
use Rattle.hotel_books.proofs.Names.{is_at, insert_entry, RoomRow, CodeRow, said_of, at_number, column_at, first_code_at}
use Rattle.hotel_books.proofs.Names.{room_changed, freed_by, nat_cmp_total}
use Rattle.hotel_memory.specs.Tables.{LaterPlacesFree}
use Rattle.hotel_books.proofs.OfTables.MapEntries.{at_is, at_self, eq_from}
use Rattle.hotel_memory.proofs.OfTables.PlacedCodes.{placed, is_here}
use Rattle.hotel_model.proofs.OfTables.Tests.{and_true}

-- how many codes a room has
abbrev pub codes_there : List (ℕ × RoomRow) → ℕ → ℕ
codes_there rooms room = column_at rooms room (λ row. row.codes)

-- ---- numbers of codes, when a room's row changes

module _ (R : ℕ → ℕ → Type 0) (same : (n : ℕ) → R n n) (f : RoomRow → RoomRow)
    (each : (row : RoomRow) → R row.codes (f row).codes) where
  at_one : (b : Bool) (x y : RoomRow) (o : Option RoomRow) → R x.codes y.codes
      → R (said_of (cond b (Some x) o) 0 (λ row. row.codes)) (said_of (cond b (Some y) o) 0 (λ row. row.codes))
  at_one true x y o h = h
  at_one false x y o h = same (said_of o 0 (λ row. row.codes))

  at_rest : (b : Bool) (x : RoomRow) (o p : Option RoomRow)
      → R (said_of o 0 (λ row. row.codes)) (said_of p 0 (λ row. row.codes))
      → R (said_of (cond b (Some x) o) 0 (λ row. row.codes)) (said_of (cond b (Some x) p) 0 (λ row. row.codes))
  at_rest true x o p h = same x.codes
  at_rest false x o p h = h

  codes_by : (b : Bool) (room r : ℕ) (e : ℕ × RoomRow) (es : List (ℕ × RoomRow))
      → R (codes_there es r) (codes_there (room_changed room f es) r)
      → R (codes_there (e ∷ es) r) (codes_there (cond b ((e.0, f e.1) ∷ es) (e ∷ room_changed room f es)) r)
  codes_by true room r e es ih = at_one (is_at (nat_cmp r) e.0) e.1 (f e.1) (at_number es r) (each e.1)
  codes_by false room r e es ih =
      at_rest (is_at (nat_cmp r) e.0) e.1 (at_number es r) (at_number (room_changed room f es) r) ih

  pub codes_changed : (room r : ℕ) (es : List (ℕ × RoomRow))
      → R (codes_there es r) (codes_there (room_changed room f es) r)
  codes_changed room r [] = same 0
  codes_changed room r (e ∷ es) = codes_by (e.0 == room) room r e es (codes_changed room r es)

pub codes_left : (leaves : Option ℕ) (rooms : List (ℕ × RoomRow)) (r : ℕ)
    → codes_there rooms r ≡ codes_there (freed_by leaves rooms) r
codes_left None rooms r = refl
codes_left (Some left) rooms r =
    codes_changed (λ m n. m ≡ n) (λ n. refl) (λ row. record row { party = None }) (λ row. refl) left r rooms

there_by : (b c : Bool) (room : ℕ) (f : RoomRow → RoomRow) (e : ℕ × RoomRow) (es : List (ℕ × RoomRow))
    → b ≡ c → is_at (nat_cmp room) e.0 ≡ b → ((row : RoomRow) → (f row).codes ≡ row.codes + 1)
    → IsSome (cond b (Some e.1) (at_number es room))
    → (IsSome (at_number es room) → codes_there (room_changed room f es) room ≡ codes_there es room + 1)
    → codes_there (cond c ((e.0, f e.1) ∷ es) (e ∷ room_changed room f es)) room
    ≡ said_of (cond b (Some e.1) (at_number es room)) 0 (λ row. row.codes) + 1
there_by true true room f e es h t g s ih =
    ap (λ z. said_of (cond z (Some (f e.1)) (at_number es room)) 0 (λ row. row.codes)) t ∙ g e.1
there_by false false room f e es h t g s ih =
    ap (λ z. said_of (cond z (Some e.1) (at_number (room_changed room f es) room)) 0 (λ row. row.codes)) t ∙ ih s
there_by true false room f e es h t g s ih = absurd (let w : ◌≡◌ {A = Bool} true false = h in cc)
there_by false true room f e es h t g s ih = absurd (let w : ◌≡◌ {A = Bool} false true = h in cc)

-- a room that is there has one code more
pub one_more_code : (room : ℕ) (f : RoomRow → RoomRow) (es : List (ℕ × RoomRow))
    → ((row : RoomRow) → (f row).codes ≡ row.codes + 1) → IsSome (at_number es room)
    → codes_there (room_changed room f es) room ≡ codes_there es room + 1
one_more_code room f [] g s = absurd (let w : ◌≡◌ {A = Bool} false true = s in cc)
one_more_code room f (e ∷ es) g s =
    there_by (is_at (nat_cmp room) e.0) (e.0 == room) room f e es (at_is room e.0) refl g s (one_more_code room f es g)

some_too : (b : Bool) (x y : RoomRow) (o p : Option RoomRow)
    → IsSome (cond b (Some x) o) → (IsSome o → IsSome p) → IsSome (cond b (Some y) p)
some_too true x y o p s g = refl
some_too false x y o p s g = g s

there_changed_by : (b : Bool) (room r : ℕ) (f : RoomRow → RoomRow) (e : ℕ × RoomRow) (es : List (ℕ × RoomRow))
    → IsSome (at_number (e ∷ es) r) → (IsSome (at_number es r) → IsSome (at_number (room_changed room f es) r))
    → IsSome (at_number (cond b ((e.0, f e.1) ∷ es) (e ∷ room_changed room f es)) r)
there_changed_by true room r f e es s ih =
    some_too (is_at (nat_cmp r) e.0) e.1 (f e.1) (at_number es r) (at_number es r) s (λ h. h)
there_changed_by false room r f e es s ih =
    some_too (is_at (nat_cmp r) e.0) e.1 e.1 (at_number es r) (at_number (room_changed room f es) r) s ih

-- a room stays there
there_changed : (room r : ℕ) (f : RoomRow → RoomRow) (es : List (ℕ × RoomRow))
    → IsSome (at_number es r) → IsSome (at_number (room_changed room f es) r)
there_changed room r f [] s = s
there_changed room r f (e ∷ es) s = there_changed_by (e.0 == room) room r f e es s (there_changed room r f es)

pub there_left : (leaves : Option ℕ) (rooms : List (ℕ × RoomRow)) (r : ℕ)
    → IsSome (at_number rooms r) → IsSome (at_number (freed_by leaves rooms) r)
there_left None rooms r s = s
there_left (Some left) rooms r s = there_changed left r (λ row. record row { party = None }) rooms s

-- ---- the places

-- Rooms' numbers of codes don't fall.
pub free_on : (rooms later : List (ℕ × RoomRow)) (codes : List (ℕ × CodeRow))
    → LaterPlacesFree rooms codes → ((r : ℕ) → codes_there rooms r ≤ codes_there later r) → LaterPlacesFree later codes
free_on rooms later codes free up r p h = let u = up r in free r p (omega (arith, h, u))

not_here : (b : Bool) (x o : Option ℕ) → (b ≡ true → ⊥) → o ≡ None → cond b x o ≡ None
not_here true x o n h = absurd (n refl)
not_here false x o n h = h

-- A new code stands below its room's number of codes.
pub free_after : (rooms later : List (ℕ × RoomRow)) (codes : List (ℕ × CodeRow)) (code : ℕ) (row : CodeRow)
    → LaterPlacesFree rooms codes → ((r : ℕ) → codes_there rooms r ≤ codes_there later r)
    → codes_there rooms row.room ≤ row.place → row.place < codes_there later row.room → at_number codes code ≡ None
    → LaterPlacesFree later (insert_entry nat_cmp codes code row)
free_after rooms later codes code row free up low high new_code r p h =
    let u = up r in
    placed codes code row r p new_code (free row.room row.place low)
    ∙ not_here (is_here row r p) (Some code) (first_code_at codes r p)
    (λ t.
    let b = and_true (row.room == r) (row.place == p) t in
    let n : row.place < codes_there later r =
    subst (λ z. row.place < codes_there later z) (eq_from row.room r b.0) high in
    let m = eq_from row.place p b.1 in
    omega (arith, n, m, h))
    (free r p (omega (arith, h, u)))

added_by : (b : Bool) (row : RoomRow) (o : Option RoomRow)
    → (b ≡ true → o ≡ None) → said_of o 0 (λ row. row.codes) ≤ said_of (cond b (Some row) o) 0 (λ row. row.codes)
added_by true row o h = subst (λ z. said_of z 0 (λ row. row.codes) ≤ row.codes) (sym (h refl)) (omega arith)
added_by false row o h = omega arith

-- A new room has one code, and others have theirs.
pub codes_added : (rooms later : List (ℕ × RoomRow)) (room : ℕ) (row : RoomRow) → at_number rooms room ≡ None
    → ((q : ℕ) → at_number later q ≡ cond (is_at (nat_cmp room) q) (Some row) (at_number rooms q)) → (r : ℕ)
    → codes_there rooms r ≤ codes_there later r
codes_added rooms later room row new_room u r =
    subst (λ o. codes_there rooms r ≤ said_of o 0 (λ row. row.codes)) (sym (u r))
    (added_by (is_at (nat_cmp room) r) row (at_number rooms r)
    (λ t. subst (λ z. at_number rooms z ≡ None) (sym (eq_from r room (sym (at_is room r) ∙ t))) new_room))

pub codes_new : (rooms later : List (ℕ × RoomRow)) (room : ℕ) (row : RoomRow)
    → ((q : ℕ) → at_number later q ≡ cond (is_at (nat_cmp room) q) (Some row) (at_number rooms q))
    → codes_there later room ≡ row.codes
codes_new rooms later room row u = ap (λ o. said_of o 0 (λ row. row.codes))
    (u room ∙ ap (λ b. cond b (Some row) (at_number rooms room)) (at_self nat_cmp_total room))
