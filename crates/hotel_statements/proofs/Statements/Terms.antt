-- The parts of which the statements are put together.
use Rattle.std.proofs.Common.{◌≡◌, List, [], ◌∷◌, ℕ}
use Rattle.sqlite_sql.specs.declared.ops.CompareOp.TheVariants.{Eq}
use Rattle.sqlite.specs.Command.{Command}
use Rattle.sqlite.specs.Listing.{understood}
use Rattle.sqlite.specs.Term.{Term, col}
use Rattle.sqlite.proofs.Callers.{IsPlain, command_of}
use Rattle.hotel_statements.specs.Schema.{desk_schema, compare}

-- a statement that a desk understands as this command
pub record Does (text : List ℕ) (command : Command) : Type 0 where
  pub is : command_of (understood desk_schema text) ≡ command
  pub plain : IsPlain (understood desk_schema text)

-- the row whose number is the first parameter
abbrev pub by_rowid : List Term
by_rowid = compare Eq (col 1 0) (col 0 0) ∷ []

-- the column is the parameter
abbrev pub column_is : ℕ → ℕ → Term
column_is at param = compare Eq (col 1 at) (col 0 param)

-- the rows whose two columns are the parameters
abbrev pub by_pair : ℕ → ℕ → List Term
by_pair a b = column_is a 0 ∷ column_is b 1 ∷ []

abbrev pub columns : List ℕ → List Term
columns [] = []
columns (at ∷ more) = col 1 at ∷ columns more

abbrev pub all_seven : List Term
all_seven = columns (0 ∷ 2 ∷ 3 ∷ 4 ∷ 5 ∷ 6 ∷ 7 ∷ [])

abbrev pub all_eight : List Term
all_eight = columns (1 ∷ 2 ∷ 3 ∷ 4 ∷ 5 ∷ 6 ∷ 7 ∷ 8 ∷ [])
