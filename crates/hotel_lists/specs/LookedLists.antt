-- How rows are looked up, before their list is written.
use Rattle.std.specs.Prelude.{◌≡◌, List, [], ◌∷◌, Option, Some, None, Result, Ok, Err, IfOk}
use Rattle.keycard_rules.specs.{declared.kept.Kept.Ghosts as KeptOf}
use Rattle.hotel_lists.specs.{declared.fault.ListFault.ListFault, RowLines.LooksAt}
use Rattle.hotel_lists.specs.declared.fault.ListFault.TheVariants.{NoRoom, Store, Write}

-- the row, as a list of one, or of none
abbrev pub one_or_none : {R : Type 0} → Option R → List R
one_or_none None = []
one_or_none (Some row) = row ∷ []

-- A list whose rows were looked up has no fault but the writer's, and that of its own memory.
abbrev pub IsAfterLookUps : Result (Unit {0}) ListFault → Type 0
IsAfterLookUps result = (result ≡ Err NoRoom → ⊥) × (result ≡ Err Store → ⊥)

-- how a look-up ended, whatever it found
abbrev pub end_of : {A : Type 0} → Result A ListFault → Result (Unit {0}) ListFault
end_of (Ok found) = Ok tt
end_of (Err why) = Err why

-- Rows were looked up in books from old to new, before a header or a line was written: where the books are honest at
-- the end, they are the rows that are wanted.
pub record FindsRows {B A R : Type 0} (K : KeptOf B) (said : A → List R) (wanted : List R) (old new : B)
    (result : Result A ListFault) : Type 0 where
  pub rows : K.is_honest new → IfOk result (λ found. said found ≡ wanted)
  pub no_room : result ≡ Err NoRoom → ⊥
  pub unwritten : result ≡ Err Write → ⊥
  pub books : LooksAt K old new (end_of result)
