-- The codes of a room in the order of their places: each code of the table at its place, and no other.
use Rattle.std.proofs.Common.{ℕ, ◌≡◌, ◌≤◌, ◌+◌, Bool, true, false, cond, Option, Some, None, List, [], ◌∷◌, length, inl}
use Rattle.std.proofs.Common.{inr, refl, ap, sym, ◌∙◌, subst, arith, ◌==◌, ◌||◌, nat_cmp, Ordering, Less, Equal}
use Rattle.std.proofs.Common.{Greater, count_by}
use Rattle.hotel_model.proofs.Names.{match_ordering, is_at, insert_entry, insert_key, keys_of, values_of, nat_cmp_total}
use Rattle.hotel_model.proofs.Names.{sum_by-cons, CodeRow, when, at_number, codes_by_place}
use Rattle.hotel_model.proofs.OfTables.KeysInOrder.{InOrder, has_key, in_order_inserted, keys_inserted, present_stays}
use Rattle.hotel_model.proofs.{OfTables.Tests.eq_from, OfTables.Tests.eq_self, OfTables.Tests.not_both}
use Rattle.hotel_model.proofs.{Starts.StartOrder.found_later}
use Rattle.hotel_model.proofs.OfTables.TableKeys.{same_number, is_at_self, row_inserted, row_kept, row_added}

-- how many codes of a room stand in a table
abbrev pub listed : List (ℕ × CodeRow) → ℕ → ℕ
listed es room = count_by (λ (row : CodeRow). row.room == room) (values_of es)

pub length_keys : {K X : Type 0} (es : List (K × X)) → length (keys_of es) ≡ length es
length_keys [] = refl
length_keys (e ∷ es) = let ih = length_keys es in omega arith

longer_by : (o : Ordering) (k x : ℕ) (xs : List ℕ) → length (insert_key nat_cmp xs k) ≤ length xs + 1
    → length (match_ordering o (k ∷ x ∷ xs) (x ∷ xs) (x ∷ insert_key nat_cmp xs k)) ≤ length (x ∷ xs) + 1
longer_by Less k x xs ih = omega arith
longer_by Equal k x xs ih = omega arith
longer_by Greater k x xs ih = omega arith

longer : (k : ℕ) (xs : List ℕ) → length (insert_key nat_cmp xs k) ≤ length xs + 1
longer k [] = omega arith
longer k (x ∷ xs) = longer_by (nat_cmp k x) k x xs (longer k xs)

length_inserted : (ps : List (ℕ × ℕ)) (k v : ℕ)
    → length (insert_entry nat_cmp ps k v) ≡ length (insert_key nat_cmp (keys_of ps) k)
length_inserted ps k v =
    sym (length_keys (insert_entry nat_cmp ps k v)) ∙ ap (λ (zs : List ℕ). length zs) (keys_inserted nat_cmp k v ps)

-- an added row makes a table longer by one at most
inserted_longer : (ps : List (ℕ × ℕ)) (k v : ℕ) → length (insert_entry nat_cmp ps k v) ≤ length ps + 1
inserted_longer ps k v =
    let a = length_inserted ps k v in
    let b = longer k (keys_of ps) in
    let c = length_keys ps in omega arith

has_by : {X : Type 0} (b c : Bool) (x w : X) (rest : Option X)
    → (rest ≡ Some w → c ≡ true) → cond b (Some x) rest ≡ Some w → (b || c) ≡ true
has_by true c x w rest ih e = refl
has_by false c x w rest ih e = ih e

has_found : {X : Type 0} (es : List (ℕ × X)) (k : ℕ) (w : X)
    → at_number es k ≡ Some w → has_key nat_cmp k (keys_of es) ≡ true
has_found [] k w e = absurd (let e' : ◌≡◌ {A = Option _} None (Some w) = e in cc)
has_found (x ∷ es) k w e =
    has_by (is_at (nat_cmp k) x.0) (has_key nat_cmp k (keys_of es)) x.1 w (at_number es k) (has_found es k w) e

-- a row of a key that is there makes it no longer
inserted_over : (ps : List (ℕ × ℕ)) (k v w : ℕ)
    → InOrder nat_cmp (keys_of ps) → at_number ps k ≡ Some w → length (insert_entry nat_cmp ps k v) ≡ length ps
inserted_over ps k v w s e =
    length_inserted ps k v
    ∙ ap (λ (zs : List ℕ). length zs) (present_stays nat_cmp nat_cmp_total k (keys_of ps) s (has_found ps k w e))
    ∙ length_keys ps

ordered_by : (b : Bool) (ps : List (ℕ × ℕ)) (k v : ℕ)
    → InOrder nat_cmp (keys_of ps) → InOrder nat_cmp (keys_of (when b (λ placed. insert_entry nat_cmp placed k v) ps))
ordered_by true ps k v s = subst (InOrder nat_cmp) (sym (keys_inserted nat_cmp k v ps))
    (in_order_inserted nat_cmp nat_cmp_total k (keys_of ps) s)
ordered_by false ps k v s = s

by_place_in_order : (es : List (ℕ × CodeRow)) (room : ℕ) → InOrder nat_cmp (keys_of (codes_by_place es room))
by_place_in_order [] room = tt
by_place_in_order (e ∷ es) room =
    ordered_by (e.1.room == room) (codes_by_place es room) e.1.place e.0 (by_place_in_order es room)

pub one_listed : (e : ℕ × CodeRow) (es : List (ℕ × CodeRow)) (room : ℕ)
    → listed (e ∷ es) room ≡ cond (e.1.room == room) 1 0 + listed es room
one_listed e es room = sum_by-cons (λ (row : CodeRow). cond (row.room == room) 1 0) e.1 (values_of es)

few_by : (b : Bool) (ps : List (ℕ × ℕ)) (k v n m : ℕ)
    → m ≡ cond b 1 0 + n → length ps ≤ n → length (when b (λ placed. insert_entry nat_cmp placed k v) ps) ≤ m
few_by true ps k v n m e l = let more = inserted_longer ps k v in omega arith
few_by false ps k v n m e l = omega arith

at_most_listed : (es : List (ℕ × CodeRow)) (room : ℕ) → length (codes_by_place es room) ≤ listed es room
at_most_listed [] room = omega arith
at_most_listed (e ∷ es) room = few_by (e.1.room == room) (codes_by_place es room) e.1.place e.0 (listed es room) _
    (one_listed e es room) (at_most_listed es room)

-- what isn't there at any value is nothing
pub none_or : (o : Option ℕ) → ((w : ℕ) → o ≡ Some w → ⊥) → o ≡ None
none_or (Some w) f = absurd (f w refl)
none_or None f = refl

apart_by : (b : Bool) (ps : List (ℕ × ℕ)) (k v n m : ℕ) → InOrder nat_cmp (keys_of ps) → m ≡ cond b 1 0 + n
    → length ps ≤ n → length (when b (λ placed. insert_entry nat_cmp placed k v) ps) ≡ m
    → (length ps ≡ n) × (b ≡ true → at_number ps k ≡ None)
apart_by true ps k v n m s e l h =
    let more = inserted_longer ps k v in
    let same : length ps ≡ n = omega arith in
    (same, λ _. none_or (at_number ps k) (λ w f. let over = inserted_over ps k v w s f in omega arith))
apart_by false ps k v n m s e l h = (omega arith, λ t. not_both false t refl)

-- where as many codes have places as stand in the table, no two have one place
apart : (e : ℕ × CodeRow) (es : List (ℕ × CodeRow)) (room : ℕ)
    → length (codes_by_place (e ∷ es) room) ≡ listed (e ∷ es) room
    → (length (codes_by_place es room) ≡ listed es room)
    × ((e.1.room == room) ≡ true → at_number (codes_by_place es room) e.1.place ≡ None)
apart e es room h =
    apart_by (e.1.room == room) (codes_by_place es room) e.1.place e.0 (listed es room) _ (by_place_in_order es room)
    (one_listed e es room) (at_most_listed es room) h

first_by : (b : Bool) (e : ℕ × CodeRow) (ps : List (ℕ × ℕ))
    → b ≡ true → at_number (when b (λ placed. insert_entry nat_cmp placed e.1.place e.0) ps) e.1.place ≡ Some e.0
first_by true e ps t = row_added ps e.1.place e.0
first_by false e ps t = not_both false t refl

still_by : (b : Bool) (ps : List (ℕ × ℕ)) (k v place code : ℕ)
    → (b ≡ true → at_number ps k ≡ None) → at_number ps place ≡ Some code
    → at_number (when b (λ placed. insert_entry nat_cmp placed k v) ps) place ≡ Some code
still_by true ps k v place code n f = row_kept ps k v code place (n refl) f
still_by false ps k v place code n f = f

placed_by : (t : Bool) (e : ℕ × CodeRow) (es : List (ℕ × CodeRow)) (room code : ℕ) (row : CodeRow)
    → (t ≡ true → code ≡ e.0) → row.room ≡ room
    → ((e.1.room == room) ≡ true → at_number (codes_by_place es room) e.1.place ≡ None)
    → (at_number es code ≡ Some row → at_number (codes_by_place es room) row.place ≡ Some code)
    → cond t (Some e.1) (at_number es code) ≡ Some row → at_number (codes_by_place (e ∷ es) room) row.place ≡ Some code
placed_by true e es room code row same here free ih f =
    let w : e.1 ≡ row = cc in
    let r : (e.1.room == room) ≡ true =
    ap (λ (x : CodeRow). x.room == room) w ∙ ap (λ z. z == room) here ∙ eq_self room in
    ap (λ (x : CodeRow). at_number (codes_by_place (e ∷ es) room) x.place) (sym w)
    ∙ first_by (e.1.room == room) e (codes_by_place es room) r ∙ ap (λ z. Some z) (sym (same refl))
placed_by false e es room code row same here free ih f =
    still_by (e.1.room == room) (codes_by_place es room) e.1.place e.0 row.place code free (ih f)

-- a code of the table stands at its place
pub is_placed : (es : List (ℕ × CodeRow)) (room code : ℕ) (row : CodeRow)
    → length (codes_by_place es room) ≡ listed es room → row.room ≡ room → at_number es code ≡ Some row
    → at_number (codes_by_place es room) row.place ≡ Some code
is_placed [] room code row n here f = absurd (let w : ◌≡◌ {A = Option CodeRow} None (Some row) = f in cc)
is_placed (e ∷ es) room code row n here f =
    let a = apart e es room n in
    placed_by (is_at (nat_cmp code) e.0) e es room code row (same_number code e.0) here a.1
    (is_placed es room code row a.0 here) f

back_by : (b : Bool) (e : ℕ × CodeRow) (es : List (ℕ × CodeRow)) (room place code : ℕ)
    → (b ≡ true → e.1.room ≡ room) → (at_number (codes_by_place es room) place ≡ Some code
    → at_number (e ∷ es) code ≡ Some (record { room = room; place = place }))
    → at_number (when b (λ placed. insert_entry nat_cmp placed e.1.place e.0) (codes_by_place es room)) place
    ≡ Some code → at_number (e ∷ es) code ≡ Some (record { room = room; place = place })
back_by true e es room place code here ih f =
    elim (row_inserted (codes_by_place es room) e.1.place e.0 code place f) [
      | inl q ↦
          let first : at_number (e ∷ es) e.0 ≡ Some e.1 =
          ap (λ t. cond t (Some e.1) (at_number es e.0)) (is_at_self e.0) in
          let w : e.1 ≡ record { room = room; place = place } =
          ap (λ z. let x : CodeRow = record { room = z; place = e.1.place } in x) (here refl) ∙ ap
          (λ z. let x : CodeRow = record { room = room; place = z } in x) (sym q.0) in
          ap (at_number (e ∷ es)) (sym q.1) ∙ first ∙ ap (λ z. Some z) w
      | inr q ↦ ih q
    ]
back_by false e es room place code here ih f = ih f

-- what stands at a place is a code of the table
pub placed_back : (es : List (ℕ × CodeRow)) (room place code : ℕ)
    → InOrder nat_cmp (keys_of es) → at_number (codes_by_place es room) place ≡ Some code
    → at_number es code ≡ Some (record { room = room; place = place })
placed_back [] room place code s f = absurd (let w : ◌≡◌ {A = Option ℕ} None (Some code) = f in cc)
placed_back (e ∷ es) room place code s f =
    back_by (e.1.room == room) e es room place code (eq_from e.1.room room)
    (λ g. found_later e es code (record { room = room; place = place }) s.0 (placed_back es room place code s.1 g)) f
