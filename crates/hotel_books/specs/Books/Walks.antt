-- What a walk over the rows of a list hands to a sink.
use Rattle.std.specs.Prelude.{ℕ, ◌≡◌, Bool, List, ◌∷◌, ◌++◌, Result, Ok, Err, Option, Some, None, codes}
use Rattle.keycard_rules.specs.{declared.issued.LookFault.LookFault, Leaves.Looks, Calls.Passes}
use Rattle.keycard_rules.specs.{declared.kept.Kept.Ghosts as KeptOf}
use Rattle.keycard_rules.specs.declared.issued.LookFault.TheVariants as look
use Rattle.hotel_books.specs.declared.books.walks.WalkFault.{WalkFault}
use Rattle.hotel_books.specs.declared.books.walks.WalkFault.TheVariants as why

-- The sink took a prefix of the rows, one after the other, and went from one meaning to another along them.
abbrev pub TakesPrefix : {S R : Type 0} → (S → R → S → Type 0) → List R → S → S → Type 0
TakesPrefix {R = R} after rows sink end = (taken : List R) × (rest : List R) × (rows ≡ taken ++ rest)
    × Passes after sink taken end

-- The sink took a prefix of the rows, and stopped at the row after them.
abbrev pub StopsAt : {S R : Type 0} → (S → R → S → Type 0) → (S → R → S → Type 0) → List R → S → S → Type 0
StopsAt {S = S} {R = R} after after_stop rows sink end = (taken : List R) × (row : R) × (rest : List R)
    × (rows ≡ taken ++ row ∷ rest) × (last : S) × Passes after sink taken last × after_stop last row end

-- What the sink took: all rows, or those before the one at which it stopped; or a prefix of them, where memory or the
-- store failed.
abbrev pub Hands : {S R : Type 0} → (S → R → S → Type 0) → (S → R → S → Type 0) → List R → S → S
    → Result (Unit {0}) WalkFault → Type 0
Hands after after_stop rows sink end (Ok done) = Passes after sink rows end
Hands after after_stop rows sink end (Err why.Stopped) = StopsAt after after_stop rows sink end
Hands after after_stop rows sink end (Err why.Memory) = TakesPrefix after rows sink end
Hands after after_stop rows sink end (Err why.Store) = TakesPrefix after rows sink end

-- what the end of a walk prints
abbrev pub walk_text : WalkFault → List ℕ
walk_text why.Memory = codes "memory"
walk_text why.Store = codes "store"
walk_text why.Stopped = codes "stopped"

-- what failed, where memory or the store did
abbrev pub failure_of : Result (Unit {0}) WalkFault → Option LookFault
failure_of (Ok done) = None
failure_of (Err why.Stopped) = None
failure_of (Err why.Memory) = Some look.Memory
failure_of (Err why.Store) = Some look.Store

-- A walk over these rows, of books from old to new and a sink from its meaning to that at the end: it hands over some
-- rows, which are these where the state is honest at its end, and leaves what a look-up does.
pub record WalksOver {B S R : Type 0} (K : KeptOf B) (takes_memory : Bool) (after after_stop : S → R → S → Type 0)
    (rows : List R) (old new : B) (sink end : S) (result : Result (Unit {0}) WalkFault) : Type 0 where
  pub hands : (handed : List R) × Hands after after_stop handed sink end result × (K.is_honest new → handed ≡ rows)
  pub looks : Looks K takes_memory old (failure_of result) new
