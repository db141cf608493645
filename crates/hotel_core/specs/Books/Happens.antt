-- What happened over books.
use Rattle.keycard_rules.specs.{declared.kept.Kept.Ghosts as KeptOf, Calls.Passes, Calls.Told, Leaves.Leaves}
use Rattle.hotel_books.specs.declared.books.Books.{Ghosts as BooksOf}
use Rattle.hotel_books.specs.Books.Stops.{StopsThrough}
use Rattle.hotel_model.specs.{History.History, Leads.LeadsOn, Rows.Rows}

-- This happened over books, from the state old to new, where they are honest as it ends: for each history that they
-- stand for as it begins, if they are clean then, there is one that it led to, and that they stand for as it ends, if
-- they are clean then.
abbrev pub Happens : {S : Type 0} → KeptOf S → (S → Rows) → S → (History → History → Type 0) → S → Type 0
Happens K rows old went new = K.is_honest new → LeadsOn (K.is_clean old) (rows old) went (K.is_clean new) (rows new)

-- Calls were made one after the other, from the state old to new, and this happened by them. A stop leaves what it does
-- in each of them.
pub record HappensBy {S : Type 0} (K : KeptOf S) (B : BooksOf S) (old : S) (went : Told → History → History → Type 0)
    (new : S) : Type 0 where
  pub told : Told
  pub happened : Happens K B.rows old (went told) new
  pub calls : Passes (Leaves K) old told new
  pub stops : StopsThrough K B old new
