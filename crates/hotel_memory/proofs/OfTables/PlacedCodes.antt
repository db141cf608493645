-- Codes by their places, when a code is added or taken out.
use Rattle.std.proofs.Common.{ℕ, ◌≡◌, Bool, true, false, cond, Option, Some, None, List, [], ◌∷◌, refl, ap, sym, ◌∙◌}
use Rattle.std.proofs.Common.{subst, ◌==◌, ◌&&◌, nat_cmp, is_eq, Ordering, Less, Equal, Greater}
use Rattle.hotel_books.proofs.Names.{match_ordering, is_at, insert_entry, lookup, remove_entry, CodeRow, pair_cmp}
use Rattle.hotel_books.proofs.Names.{at_number, first_code_at}
use Rattle.hotel_memory.specs.Tables.{PlacesAgree}
use Rattle.hotel_model.proofs.OfTables.Tests.{and_true}
use Rattle.hotel_books.proofs.OfTables.MapEntries.{missed, pair_is, eq_from, eq_turned}

-- the row is of this place
abbrev pub is_here : CodeRow → ℕ → ℕ → Bool
is_here row r p = (row.room == r) && (row.place == p)

-- what is so at the row's place is so at a place that is the row's
moved_here : (P : ℕ → ℕ → Type 0) (row : CodeRow) (r p : ℕ) → is_here row r p ≡ true → P row.room row.place → P r p
moved_here P row r p h x =
    let b = and_true (row.room == r) (row.place == p) h in
    subst (λ z. P z p) (eq_from row.room r b.0) (subst (λ z. P row.room z) (eq_from row.place p b.1) x)

swapped : (a b : Bool) (x y z : Option ℕ) → (b ≡ true → a ≡ false) → cond a x (cond b y z) ≡ cond b y (cond a x z)
swapped true true x y z f = absurd (let w : ◌≡◌ {A = Bool} true false = f refl in cc)
swapped true false x y z f = refl
swapped false true x y z f = refl
swapped false false x y z f = refl

same_cond : (b : Bool) (x : Option ℕ) → (b ≡ true → x ≡ None) → cond b None x ≡ x
same_cond true x f = sym (f refl)
same_cond false x f = refl

-- ---- one code more

placed_by : (o : Ordering) (e : ℕ × CodeRow) (es : List (ℕ × CodeRow)) (code : ℕ) (row : CodeRow) (r p : ℕ)
    → is_eq o ≡ false → is_here e.1 row.room row.place ≡ false
    → first_code_at (insert_entry nat_cmp es code row) r p ≡ cond (is_here row r p) (Some code) (first_code_at es r p)
    → first_code_at (match_ordering o ((code, row) ∷ e ∷ es) ((e.0, row) ∷ es)
    (e ∷ insert_entry nat_cmp es code row)) r p ≡ cond (is_here row r p) (Some code) (first_code_at (e ∷ es) r p)
placed_by Less e es code row r p n apart ih = refl
placed_by Equal e es code row r p n apart ih = absurd (let w : ◌≡◌ {A = Bool} true false = n in cc)
placed_by Greater e es code row r p n apart ih =
    ap (λ z. cond (is_here e.1 r p) (Some e.0) z) ih
    ∙ swapped (is_here e.1 r p) (is_here row r p) (Some e.0) (Some code) (first_code_at es r p)
    (λ h. moved_here (λ s q. is_here e.1 s q ≡ false) row r p h apart)

-- A new code at a free place is found there, and other places stay.
pub placed : (es : List (ℕ × CodeRow)) (code : ℕ) (row : CodeRow) (r p : ℕ)
    → at_number es code ≡ None → first_code_at es row.room row.place ≡ None
    → first_code_at (insert_entry nat_cmp es code row) r p ≡ cond (is_here row r p) (Some code) (first_code_at es r p)
placed [] code row r p a f = refl
placed (e ∷ es) code row r p a f =
    let m = missed (is_at (nat_cmp code) e.0) e.1 (at_number es code) a in
    let n = missed (is_here e.1 row.room row.place) e.0 (first_code_at es row.room row.place) f in
    placed_by (nat_cmp code e.0) e es code row r p m.0 n.0 (placed es code row r p m.1 n.1)

here_is_at : (row : CodeRow) (r p : ℕ) → is_at (pair_cmp (row.room, row.place)) (r, p) ≡ is_here row r p
here_is_at row r p = pair_is row.room row.place (r, p) ∙ ap (λ b. b && (p == row.place)) (eq_turned r row.room)
    ∙ ap (λ b. (row.room == r) && b) (eq_turned p row.place)

-- The table of places, with the new code's place.
pub agree_after : (codes : List (ℕ × CodeRow)) (places later : List ((ℕ × ℕ) × ℕ)) (code : ℕ) (row : CodeRow)
    → PlacesAgree codes places → at_number codes code ≡ None → first_code_at codes row.room row.place ≡ None
    → ((r p : ℕ) → lookup (is_at (pair_cmp (r, p))) later
    ≡ cond (is_at (pair_cmp (row.room, row.place)) (r, p)) (Some code) (lookup (is_at (pair_cmp (r, p))) places))
    → PlacesAgree (insert_entry nat_cmp codes code row) later
agree_after codes places later code row agree a f u r p =
    u r p
    ∙ ap (λ b. cond b (Some code) (lookup (is_at (pair_cmp (r, p))) places)) (here_is_at row r p)
    ∙ ap (λ z. cond (is_here row r p) (Some code) z) (agree r p)
    ∙ sym (placed codes code row r p a f)

-- The table of places, with a free place put in and taken out again.
pub agree_again : (codes : List (ℕ × CodeRow)) (places mid later : List ((ℕ × ℕ) × ℕ)) (code : ℕ) (row : CodeRow)
    → PlacesAgree codes places → first_code_at codes row.room row.place ≡ None
    → ((r p : ℕ) → lookup (is_at (pair_cmp (r, p))) mid
    ≡ cond (is_at (pair_cmp (row.room, row.place)) (r, p)) (Some code) (lookup (is_at (pair_cmp (r, p))) places))
    → ((r p : ℕ) → lookup (is_at (pair_cmp (r, p))) later
    ≡ cond (is_at (pair_cmp (row.room, row.place)) (r, p)) None (lookup (is_at (pair_cmp (r, p))) mid))
    → PlacesAgree codes later
agree_again codes places mid later code row agree f u w r p =
    w r p
    ∙ ap (λ z. cond (is_at (pair_cmp (row.room, row.place)) (r, p)) None z) (u r p)
    ∙ twice (is_at (pair_cmp (row.room, row.place)) (r, p)) (Some code) (lookup (is_at (pair_cmp (r, p))) places)
    ∙ ap (λ b. cond b None (lookup (is_at (pair_cmp (r, p))) places)) (here_is_at row r p)
    ∙ ap (λ z. cond (is_here row r p) None z) (agree r p)
    ∙ same_cond (is_here row r p) (first_code_at codes r p)
    (λ h. moved_here (λ s q. first_code_at codes s q ≡ None) row r p h f)
  where
    twice : (b : Bool) (x y : Option ℕ) → cond b None (cond b x y) ≡ cond b None y
    twice true x y = refl
    twice false x y = refl

-- ---- one code less

there_is : {a b : CodeRow} → Some a ≡ Some b → a ≡ b
there_is h = cc

removed_by : (b : Bool) (e : ℕ × CodeRow) (es : List (ℕ × CodeRow)) (code : ℕ) (row : CodeRow) (r p : ℕ)
    → (b ≡ true → (e.1 ≡ row) × (first_code_at es row.room row.place ≡ None))
    → (b ≡ false → (is_here e.1 row.room row.place ≡ false)
    × (first_code_at (remove_entry (is_at (nat_cmp code)) es) r p ≡ cond (is_here row r p) None (first_code_at es r p)))
    → first_code_at (cond b es (e ∷ remove_entry (is_at (nat_cmp code)) es)) r p
    ≡ cond (is_here row r p) None (first_code_at (e ∷ es) r p)
removed_by true e es code row r p f g =
    let x = f refl in
    sym (ap (λ (z : CodeRow). cond (is_here row r p) None (cond (is_here z r p) (Some e.0) (first_code_at es r p))) x.0
    ∙ here_or_not (is_here row r p) (Some e.0) (first_code_at es r p)
    (λ h. moved_here (λ s q. first_code_at es s q ≡ None) row r p h x.1))
  where
    here_or_not : (b : Bool) (x y : Option ℕ) → (b ≡ true → y ≡ None) → cond b None (cond b x y) ≡ y
    here_or_not true x y f = sym (f refl)
    here_or_not false x y f = refl
removed_by false e es code row r p f g =
    let x = g refl in
    ap (λ z. cond (is_here e.1 r p) (Some e.0) z) x.1
    ∙ swapped (is_here e.1 r p) (is_here row r p) (Some e.0) None (first_code_at es r p)
    (λ h. moved_here (λ s q. is_here e.1 s q ≡ false) row r p h x.0)

at_head : (b : Bool) (x y : CodeRow) (rest : Option CodeRow) → cond b (Some x) rest ≡ Some y → b ≡ true → x ≡ y
at_head true x y rest h t = there_is h
at_head false x y rest h t = absurd (let w : ◌≡◌ {A = Bool} false true = t in cc)

at_tail : (b : Bool) (x y : CodeRow) (rest : Option CodeRow) → cond b (Some x) rest ≡ Some y → b ≡ false → rest ≡ Some y
at_tail true x y rest h t = absurd (let w : ◌≡◌ {A = Bool} true false = t in cc)
at_tail false x y rest h t = h

-- A code that stood at its place alone leaves it free, and other places stay.
pub unplaced : (es : List (ℕ × CodeRow)) (code : ℕ) (row : CodeRow) (r p : ℕ)
    → at_number es code ≡ Some row → first_code_at (remove_entry (is_at (nat_cmp code)) es) row.room row.place ≡ None
    → first_code_at (remove_entry (is_at (nat_cmp code)) es) r p ≡ cond (is_here row r p) None (first_code_at es r p)
unplaced [] code row r p a f = absurd (let w : ◌≡◌ {A = Option CodeRow} None (Some row) = a in cc)
unplaced (e ∷ es) code row r p a f =
    removed_by (is_at (nat_cmp code) e.0) e es code row r p
    (λ t. (
      at_head (is_at (nat_cmp code) e.0) e.1 row (at_number es code) a t,
      subst (λ b. first_code_at (cond b es (e ∷ remove_entry (is_at (nat_cmp code)) es)) row.room row.place ≡ None) t f,
    ))
    (λ t.
    let k = missed (is_here e.1 row.room row.place) e.0
    (first_code_at (remove_entry (is_at (nat_cmp code)) es) row.room row.place)
    (subst (λ b. first_code_at (cond b es (e ∷ remove_entry (is_at (nat_cmp code)) es)) row.room row.place ≡ None) t
    f) in
    (k.0, unplaced es code row r p (at_tail (is_at (nat_cmp code) e.0) e.1 row (at_number es code) a t) k.1))

-- The table of places, without the code's place.
pub agree_without : (codes : List (ℕ × CodeRow)) (places later : List ((ℕ × ℕ) × ℕ)) (code : ℕ) (row : CodeRow)
    → PlacesAgree codes places → at_number codes code ≡ Some row
    → first_code_at (remove_entry (is_at (nat_cmp code)) codes) row.room row.place ≡ None
    → ((r p : ℕ) → lookup (is_at (pair_cmp (r, p))) later
    ≡ cond (is_at (pair_cmp (row.room, row.place)) (r, p)) None (lookup (is_at (pair_cmp (r, p))) places))
    → PlacesAgree (remove_entry (is_at (nat_cmp code)) codes) later
agree_without codes places later code row agree a f u r p =
    u r p
    ∙ ap (λ b. cond b None (lookup (is_at (pair_cmp (r, p))) places)) (here_is_at row r p)
    ∙ ap (λ z. cond (is_here row r p) None z) (agree r p)
    ∙ sym (unplaced codes code row r p a f)
