-- A walk part-way through the rows of a list: what the sink took, and the rows that are still to come.
use Rattle.std.proofs.Common.{ℕ, suc, ◌≡◌, ◌<◌, ◌+◌, ◌-◌, ◌++◌, Bool, true, false, cond, Option, Some, None, List, []}
use Rattle.std.proofs.Common.{◌∷◌, Result, Ok, Err, filter, append_assoc, refl, ap, sym, ◌∙◌, subst, arith, filter_map}
use Rattle.std.proofs.Common.{is_some}
use Rattle.hotel_books.proofs.Names.{range_with_len, cons_option, Passes, StopsAt, failure_of}
use Rattle.keycard_rules.proofs.CallsTogether.{passes_push}
use Rattle.std.proofs.lemmas.List.{append-nil}
use Rattle.keycard_rules.specs.declared.issued.LookFault.TheVariants as look
use Rattle.hotel_books.specs.Books.Reads.{is_any}
use Rattle.hotel_books.specs.declared.books.walks.WalkFault.{WalkFault}
use Rattle.hotel_books.specs.declared.books.walks.WalkFault.TheVariants as why

-- The sink took some of the rows, and the rest is to come.
abbrev pub SoFar : {S R : Type 0} → (S → R → S → Type 0) → List R → List R → S → S → Type 0
SoFar {R = R} after rows rest sink now = (taken : List R) × (rows ≡ taken ++ rest) × Passes after sink taken now

-- the walk begins
pub begun : {S R : Type 0} (after : S → R → S → Type 0) (rows : List R) (sink : S) → SoFar after rows rows sink sink
begun after rows sink = ([], refl, refl)

-- the sink takes the next row
pub one_more : {S R : Type 0} (after : S → R → S → Type 0) (rows : List R) (row : R) (rest : List R) (a b c : S)
    → SoFar after rows (row ∷ rest) a b → after b row c → SoFar after rows rest a c
one_more after rows row rest a b c s one =
    (s.0 ++ row ∷ [], s.1 ∙ sym (append_assoc s.0 (row ∷ []) rest), passes_push after a s.0 s.2 one)

-- the walk ends after all rows
pub all_taken : {S R : Type 0} (after : S → R → S → Type 0) (rows : List R) (a b : S)
    → SoFar after rows [] a b → Passes after a rows b
all_taken after rows a b s = subst (λ rs. Passes after a rs b) (sym (s.1 ∙ append-nil s.0)) s.2

-- the sink stops at the next row
pub stopped : {S R : Type 0} (after after_stop : S → R → S → Type 0) (rows : List R) (row : R) (rest : List R)
    (a b c : S) → SoFar after rows (row ∷ rest) a b → after_stop b row c → StopsAt after after_stop rows a c
stopped after after_stop rows row rest a b c s one = (s.0, row, rest, s.1, b, s.2, one)

-- the rest, where it is known as another list
pub as_rest : {S R : Type 0} (after : S → R → S → Type 0) (rows rest other : List R) (a b : S)
    → rest ≡ other → SoFar after rows rest a b → SoFar after rows other a b
as_rest after rows rest other a b e s = subst (λ rs. SoFar after rows rs a b) e s

-- the next of the rows that pass a test
pub passing : {R : Type 0} (p : R → Bool) (x : R) (xs : List R) → p x ≡ true → filter p (x ∷ xs) ≡ x ∷ filter p xs
passing p x xs e = ap (λ b. cond b (x ∷ filter p xs) (filter p xs)) e

pub failing : {R : Type 0} (p : R → Bool) (x : R) (xs : List R) → p x ≡ false → filter p (x ∷ xs) ≡ filter p xs
failing p x xs e = ap (λ b. cond b (x ∷ filter p xs) (filter p xs)) e

-- the next of the rows that are made of others
pub made_row : {X R : Type 0} (f : X → Option R) (x : X) (xs : List X) (row : R)
    → Some row ≡ f x → filter_map f (x ∷ xs) ≡ row ∷ filter_map f xs
made_row f x xs row e = ap (λ o. cons_option o (filter_map f xs)) (sym e)

pub made_none : {X R : Type 0} (f : X → Option R) (x : X) (xs : List X)
    → None ≡ f x → filter_map f (x ∷ xs) ≡ filter_map f xs
made_none f x xs e = ap (λ o. cons_option o (filter_map f xs)) (sym e)

-- the next of the numbers from one on
pub next_place : (place end : ℕ)
    → place < end → range_with_len place (end - place) ≡ place ∷ range_with_len (place + 1) (end - (place + 1))
next_place place end n = let e : end - place ≡ suc (end - (place + 1)) = omega arith in ap (range_with_len place) e

-- a walk that the store didn't end
pub not_store : (end : Result (Unit {0}) WalkFault) → (end ≡ Err why.Store → ⊥) → failure_of end ≡ Some look.Store → ⊥
not_store (Ok done) other failed = cc
not_store (Err why.Stopped) other failed = cc
not_store (Err why.Memory) other failed = cc
not_store (Err why.Store) other failed = other refl

-- ---- a list that has one row or more, since the next one is to come

one_is_any : {R : Type 0} (taken : List R) (row : R) (later : List R) → is_any (taken ++ row ∷ later) ≡ true
one_is_any [] row later = refl
one_is_any (x ∷ taken) row later = refl

-- the next one passes the test
pub passing_is_any : {R : Type 0} (p : R → Bool) (taken rest later rows : List R) (row : R) → rest ≡ row ∷ later
    → p row ≡ true → taken ++ filter p rest ≡ rows → is_any rows ≡ true
passing_is_any p taken rest later rows row e is same =
    ap is_any (sym same ∙ ap (λ xs. taken ++ filter p xs) e ∙ ap (λ xs. taken ++ xs) (passing p row later is))
    ∙ one_is_any taken row (filter p later)

made_by : {R : Type 0} (taken : List R) (o : Option R) (later : List R)
    → is_some o ≡ true → is_any (taken ++ cons_option o later) ≡ true
made_by taken (Some row) later is = one_is_any taken row later
made_by taken None later is = cc

-- the next one makes a row
pub made_is_any : {X R : Type 0} (f : X → Option R) (taken rows : List R) (rest later : List X) (x : X)
    → rest ≡ x ∷ later → is_some (f x) ≡ true → rows ≡ taken ++ filter_map f rest → is_any rows ≡ true
made_is_any f taken rows rest later x e is same =
    ap is_any (same ∙ ap (λ xs. taken ++ filter_map f xs) e) ∙ made_by taken (f x) (filter_map f later) is
