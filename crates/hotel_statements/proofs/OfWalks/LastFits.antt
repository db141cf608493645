-- The last fit of each room, among the fits of all rooms.
use Rattle.std.proofs.Common.{if◌then◌else◌, ◌≡◌, ◌&&◌, ◌==◌, ◌≤◌, ◌+◌, ◌++◌, ◌∙◌, refl, sym, ap, ap₂, subst, inl, inr}
use Rattle.std.proofs.Common.{List, [], ◌∷◌, ℕ, Bool, true, false, cond, Some, None, map, filter, flat_map, length}
use Rattle.std.proofs.Common.{append-nil, arith, Less, Equal, nat_cmp, nat_lt, eqb}
use Rattle.std.specs.List.{AllByRecursion}
use Rattle.std.specs.Ordering.{ordering_then}
use Rattle.std.proofs.lemmas.Bool.{cases_Bool}
use Rattle.std.proofs.lemmas.Bool.Decides.{nat_tests}
use Rattle.sqlite_keyed.proofs.ListLemmas.{all_weaker}
use Rattle.sqlite.specs.Tree.{IsAscending}
use Rattle.hotel_model.specs.declared.rows.FitRow.{FitRow}
use Rattle.hotel_model.specs.Words.{pair_cmp, said_of, when}
use Rattle.hotel_model.specs.Rows.{fits_at, last_fit}
use Rattle.hotel_model.specs.SoundRooms.{count_up}
use Rattle.hotel_model.proofs.OfTables.Tests.{and_true, eq_from, eq_self}
use Rattle.hotel_rows.specs.Joined.{FitEntries}
use Rattle.hotel_statements.specs.Tables.{by_key}
use Rattle.hotel_statements.specs.LookUps.{numbered_fit}
use Rattle.hotel_statements.proofs.ByRoom.{is_in, fits_listed}
use Rattle.hotel_statements.proofs.Perm.{filter_alike}

abbrev pub Fit : Type 0
Fit = (ℕ × ℕ) × FitRow

-- one is a later fit of the room of another
abbrev pub is_later : Fit → Fit → Bool
is_later x y = eqb y.0.0 x.0.0 && nat_lt x.0.1 y.0.1

abbrev pub is_nil : {X : Type 0} → List X → Bool
is_nil [] = true
is_nil (x ∷ xs) = false

-- ---- two fits in order

rises_in : (a b : ℕ × ℕ) → eqb b.0 a.0 ≡ true → pair_cmp a b ≡ Less → nat_lt a.1 b.1 ≡ true
rises_in a b at less =
    let same : nat_cmp a.0 b.0 ≡ Equal = grind (arith, nat_tests, at) in
    let up : nat_cmp a.1 b.1 ≡ Less = subst (λ o. ordering_then o (nat_cmp a.1 b.1) ≡ Less) same less in
    grind (arith, nat_tests, up)

not_back : (a b : ℕ × ℕ) → pair_cmp a b ≡ Less → (eqb a.0 b.0 && nat_lt b.1 a.1) ≡ false
not_back a b less = elim (cases_Bool (eqb a.0 b.0)) [
  | inl at ↦
      let same : eqb b.0 a.0 ≡ true = grind (arith, nat_tests, at) in
      let up = rises_in a b same less in
      let no : nat_lt b.1 a.1 ≡ false = grind (arith, nat_tests, up) in
      rw (at, no) refl
  | inr other ↦ rw other refl
]

not_itself : (a : ℕ × ℕ) → (eqb a.0 a.0 && nat_lt a.1 a.1) ≡ false
not_itself a =
    let no : nat_lt a.1 a.1 ≡ false = grind (arith, nat_tests) in
    ap (λ b. eqb a.0 a.0 && b) no ∙ never (eqb a.0 a.0)
  where
    never : (b : Bool) → (b && false) ≡ false
    never true = refl
    never false = refl

-- a fit after one of the room is a later one exactly if it is of the room
later_as : (room : ℕ) (e x : Fit) → eqb e.0.0 room ≡ true → by_key pair_cmp e x ≡ Less
    → is_later e x ≡ is_in room x
later_as room e x at less = elim (cases_Bool (eqb x.0.0 room)) [
  | inl here ↦
      let same : eqb x.0.0 e.0.0 ≡ true = grind (arith, nat_tests, at, here) in
      let up = rises_in e.0 x.0 same less in
      rw (here, same, up) refl
  | inr other ↦
      let apart : eqb x.0.0 e.0.0 ≡ false = grind (arith, nat_tests, at, other) in
      rw (other, apart) refl
]

-- ---- the fit after which no other fit of the room comes

module _ {B : Type 0} (room : ℕ) (made : FitRow → List B) where
  -- what is made of a fit of the room that has none of these after it
  abbrev pub of_last : FitEntries → Fit → List B
  of_last es x = if is_nil (filter (is_later x) es) then (if is_in room x then made x.1 else []) else []

  -- the first of them isn't later than another
  unmoved : (e : Fit) (es xs : FitEntries) → AllByRecursion (λ x. by_key pair_cmp e x ≡ Less) xs
      → flat_map (of_last (e ∷ es)) xs ≡ flat_map (of_last es) xs
  unmoved e es [] above = refl
  unmoved e es (x ∷ xs) above = ap₂ (λ a b. a ++ b)
      (ap (λ b. if is_nil (cond b (e ∷ filter (is_later x) es) (filter (is_later x) es))
      then (if is_in room x then made x.1 else []) else []) (not_back e.0 x.0 above.0)) (unmoved e es xs above.1)

  abbrev wanted : List FitRow → List B
  wanted fits = said_of (last_fit fits) [] made

  -- a fit, and then those of its room after it
  joined : (e : Fit) (later : List FitRow)
      → (if is_nil later then made e.1 else []) ++ wanted later ≡ wanted (e.1 ∷ later)
  joined e [] = append-nil (made e.1)
  joined e (f ∷ later) = refl

  pub last_alone : (es : FitEntries) → IsAscending (λ a b. by_key pair_cmp a b ≡ Less) es
      → flat_map (of_last es) es ≡ wanted (fits_at es room)
  last_alone [] up = refl
  last_alone (e ∷ es) up =
      let rest : flat_map (of_last (e ∷ es)) es ≡ wanted (fits_at es room) =
      unmoved e es es up.0 ∙ last_alone es up.1 in
      let first : of_last (e ∷ es) e
      ≡ (if is_nil (filter (is_later e) es) then (if is_in room e then made e.1 else []) else []) =
      ap (λ b. if is_nil (cond b (e ∷ filter (is_later e) es) (filter (is_later e) es))
      then (if is_in room e then made e.1 else []) else []) (not_itself e.0) in
      ap₂ (λ a b. a ++ b) first rest ∙ by (is_in room e) refl
    where
      mapped : (xs : FitEntries) → is_nil (map (λ (x : Fit). x.1) xs) ≡ is_nil xs
      mapped [] = refl
      mapped (x ∷ xs) = refl

      after : is_in room e ≡ true → is_nil (filter (is_later e) es) ≡ is_nil (fits_at es room)
      after at =
          ap is_nil (filter_alike (is_later e) (is_in room) es
          (all_weaker _ (λ x. is_later e x ≡ is_in room x) (λ x less. later_as room e x at less) es up.0))
          ∙ sym (mapped (filter (is_in room) es)) ∙ ap is_nil (fits_listed room es)

      by : (b : Bool) → is_in room e ≡ b
          → (if is_nil (filter (is_later e) es) then (if b then made e.1 else []) else []) ++ wanted (fits_at es room)
          ≡ wanted (when b (λ fits. e.1 ∷ fits) (fits_at es room))
      by true at =
          ap (λ n. (if n then made e.1 else []) ++ wanted (fits_at es room)) (after at)
          ∙ joined e (fits_at es room)
      by false at = none (is_nil (filter (is_later e) es))
        where
          none : (b : Bool) → (if b then (if false then made e.1 else []) else []) ++ wanted (fits_at es room)
              ≡ wanted (fits_at es room)
          none true = refl
          none false = refl

-- ---- the last of the fits of a room

pub some_last : (fs : List FitRow) → 1 ≤ length fs → (f : FitRow) × (last_fit fs ≡ Some f)
some_last [] many = absurd (omega (arith, many))
some_last (a ∷ []) many = (a, refl)
some_last (a ∷ b ∷ fs) many = some_last (b ∷ fs) (omega arith)

-- it is found by its number, where they are counted up
pub last_numbered : (fs : List FitRow) (f : FitRow) (n : ℕ) → count_up n (map (λ (x : FitRow). x.fit) fs) ≡ true
    → last_fit fs ≡ Some f → (n ≤ f.fit) × (numbered_fit fs f.fit ≡ Some f)
last_numbered [] f n up last = absurd cc
last_numbered (a ∷ []) f n up last =
    let same : a ≡ f = cc in
    let first = eq_from a.fit n (and_true (a.fit == n) true up).0 in
    let number : a.fit ≡ f.fit = ap (λ (x : FitRow). x.fit) same in (
      omega (arith, first, number),
      ap (λ b. if b then Some a else None) (ap (λ m. m == f.fit) number ∙ eq_self f.fit) ∙ ap Some same,
    )
last_numbered (a ∷ b ∷ fs) f n up last =
    let both = and_true (a.fit == n) (count_up (n + 1) (map (λ (x : FitRow). x.fit) (b ∷ fs))) up in
    let first = eq_from a.fit n both.0 in
    let rest = last_numbered (b ∷ fs) f (n + 1) both.1 last in
    let above = rest.0 in
    let other : (a.fit == f.fit) ≡ false = grind (arith, nat_tests, first, above) in
    (omega (arith, above), ap (λ t. if t then Some a else numbered_fit (b ∷ fs) f.fit) other ∙ rest.1)
