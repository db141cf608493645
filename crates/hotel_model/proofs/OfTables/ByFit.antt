-- The note of a fit's count is the one after those of earlier fits.
use Rattle.std.proofs.Common.{ℕ, zero, suc, ◌≡◌, ◌≤◌, ◌<◌, ◌+◌, Bool, true, false, cond, Some, None, List, [], ◌∷◌}
use Rattle.std.proofs.Common.{drop, filter, refl, ap, sym, ◌∙◌, arith, ◌==◌, nat_lt}
use Rattle.std.proofs.lemmas.Bool.Decides.{nat_tests}
use Rattle.keycard_rules.specs.Note.{Note}
use Rattle.hotel_model.specs.Words.{when}
use Rattle.hotel_model.specs.Refinement.Lookups.{of_fit}
use Rattle.hotel_model.proofs.OfTables.Tests.{lt_from, not_lt, not_lt_from, not_higher, not_lower}
use Rattle.hotel_model.proofs.OfTables.AtRoom.{first_in, none_in}

-- the fits of the notes begin with one or a later one, and don't fall
abbrev pub FitsRise : ℕ → List Note → Type 0
FitsRise fit [] = Unit {0}
FitsRise fit (note ∷ notes) = (fit ≤ note.fit) × FitsRise note.fit notes

-- how many of the notes are of earlier fits
abbrev pub notes_under : ℕ → List Note → ℕ
notes_under fit [] = 0
notes_under fit (note ∷ notes) = when (nat_lt note.fit fit) (λ n. suc n) (notes_under fit notes)

above : (a b : ℕ) → b ≤ a → (a == b) ≡ false → b < a
above a b l e = grind (arith, nat_tests)

-- no note of a later fit is of this one
none_of : (fit : ℕ) (note : Note) → fit < note.fit → of_fit fit (Some note) ≡ None
none_of fit note l = ap (λ b. cond b (Some note) None) (not_lower note.fit fit l)

beyond : (fit g k : ℕ) (notes : List Note) → fit < g → FitsRise g notes → of_fit fit (first_in (drop k notes)) ≡ None
beyond fit g k [] l r = ap (of_fit fit) (none_in k)
beyond fit g zero (note ∷ notes) l r = none_of fit note (let m = r.0 in omega arith)
beyond fit g (suc k) (note ∷ notes) l r = beyond fit note.fit k notes (let m = r.0 in omega arith) r.1

none_later : (fit g : ℕ) (notes : List Note) → fit < g → FitsRise g notes → filter (λ note. note.fit == fit) notes ≡ []
none_later fit g [] l r = refl
none_later fit g (note ∷ notes) l r =
    let m : fit < note.fit = let q = r.0 in omega arith in
    ap (λ b. cond b (note ∷ filter (λ note. note.fit == fit) notes) (filter (λ note. note.fit == fit) notes))
    (not_lower note.fit fit m) ∙ none_later fit note.fit notes m r.1

none_under : (fit g : ℕ) (notes : List Note) → fit ≤ g → FitsRise g notes → notes_under fit notes ≡ 0
none_under fit g [] l r = refl
none_under fit g (note ∷ notes) l r =
    let m : fit ≤ note.fit = let q = r.0 in omega arith in
    ap (λ b. when b (λ n. suc n) (notes_under fit notes)) (not_lt note.fit fit m) ∙ none_under fit note.fit notes m r.1

-- where no note is of an earlier fit
block_by : (b : Bool) (fit c : ℕ) (note : Note) (notes : List Note)
    → (note.fit == fit) ≡ b → fit ≤ note.fit → FitsRise note.fit notes
    → ((k : ℕ) → of_fit fit (first_in (drop k notes)) ≡ first_in (drop k (filter (λ note. note.fit == fit) notes)))
    → of_fit fit (first_in (drop c (note ∷ notes))) ≡ first_in (drop c
    (cond b (note ∷ filter (λ note. note.fit == fit) notes) (filter (λ note. note.fit == fit) notes)))
block_by true fit zero note notes e l r ih = ap (λ b. cond b (Some note) None) e
block_by true fit (suc c) note notes e l r ih = ih c
block_by false fit zero note notes e l r ih = none_of fit note (above note.fit fit l e)
    ∙ sym (ap (λ ns. first_in ns) (none_later fit note.fit notes (above note.fit fit l e) r))
block_by false fit (suc c) note notes e l r ih =
    beyond fit note.fit c notes (above note.fit fit l e) r
    ∙ sym (ap (λ ns. first_in (drop (suc c) ns)) (none_later fit note.fit notes (above note.fit fit l e) r)
    ∙ none_in (suc c))

block : (fit g c : ℕ) (notes : List Note) → fit ≤ g → FitsRise g notes
    → of_fit fit (first_in (drop c notes)) ≡ first_in (drop c (filter (λ note. note.fit == fit) notes))
block fit g c [] l r = ap (of_fit fit) (none_in c) ∙ sym (none_in c)
block fit g c (note ∷ notes) l r =
    let m : fit ≤ note.fit = let q = r.0 in omega arith in
    block_by (note.fit == fit) fit c note notes refl m r.1 (λ k. block fit note.fit k notes m r.1)

found_by : (b : Bool) (fit g c : ℕ) (note : Note) (notes : List Note)
    → nat_lt note.fit fit ≡ b → FitsRise g (note ∷ notes)
    → of_fit fit (first_in (drop (notes_under fit notes + c) notes))
    ≡ first_in (drop c (filter (λ note. note.fit == fit) notes))
    → of_fit fit (first_in (drop (when b (λ n. suc n) (notes_under fit notes) + c) (note ∷ notes)))
    ≡ first_in (drop c (filter (λ note. note.fit == fit) (note ∷ notes)))
found_by true fit g c note notes e r ih =
    let n : suc (notes_under fit notes) + c ≡ suc (notes_under fit notes + c) = omega arith in
    ap (λ k. of_fit fit (first_in (drop k (note ∷ notes)))) n ∙ ih
    ∙ ap (λ b. first_in (drop c (cond b (note ∷ filter (λ note. note.fit == fit) notes)
    (filter (λ note. note.fit == fit) notes)))) (sym (not_higher note.fit fit (lt_from note.fit fit e)))
found_by false fit g c note notes e r ih =
    let m : fit ≤ note.fit = not_lt_from note.fit fit e in
    let n : notes_under fit notes + c ≡ c =
    ap (λ k. k + c) (none_under fit note.fit notes m r.1) ∙ (let z : 0 + c ≡ c = omega arith in z) in
    ap (λ k. of_fit fit (first_in (drop k (note ∷ notes)))) n ∙ block fit note.fit c (note ∷ notes) m
    (let q : note.fit ≤ note.fit = omega arith in (q, r.1))

from : (fit g c : ℕ) (notes : List Note)
    → FitsRise g notes → of_fit fit (first_in (drop (notes_under fit notes + c) notes))
    ≡ first_in (drop c (filter (λ note. note.fit == fit) notes))
from fit g c [] r = ap (of_fit fit) (none_in (0 + c)) ∙ sym (none_in c)
from fit g c (note ∷ notes) r = found_by (nat_lt note.fit fit) fit g c note notes refl r (from fit note.fit c notes r.1)

-- Where the fits of notes don't fall, the note after those of earlier fits and c more, where it is of this fit, is the
-- note after c of this fit.
pub notes_by_fit : (fit c : ℕ) (notes : List Note)
    → FitsRise 0 notes → of_fit fit (first_in (drop (notes_under fit notes + c) notes))
    ≡ first_in (drop c (filter (λ note. note.fit == fit) notes))
notes_by_fit fit c notes r = from fit 0 c notes r
