-- A confirmed change stays: what a crash leaves of the rows of books over tables.
use Rattle.std.specs.Prelude.{◌≡◌}
use Rattle.sqlite_trees.specs.declared.store.Store.{Ghosts}
use Rattle.sqlite.specs.Tree.{Trees}
use Rattle.sqlite.specs.Held.{state}
use Rattle.sqlite.specs.State.{State}
use Rattle.keycard_rules.specs.declared.kept.Kept.{Ghosts as KeptOf}
use Rattle.hotel_books.specs.declared.books.Books.{Ghosts as BooksOf}
use Rattle.hotel_books.specs.Books.Stops.{StopsThrough}
use Rattle.hotel_statements.specs.Tables.{rows_in}
use Rattle.hotel_tables.specs.TableBooks.{Tabled}

-- a crash at this moment leaves the rows as they are
abbrev pub LeavesRows : State → Type 0
LeavesRows s = (db : Trees) → s.may_leave db → rows_in db ≡ rows_in s.now.trees

-- Where a crash leaves the rows of books over tables, it leaves them as they are after calls too, at whose end the
-- books are clean: no change of these calls is lost.
abbrev pub ChangesStay : {S : Type 0} → Ghosts S → KeptOf (Tabled S) → BooksOf (Tabled S) → Type 0
ChangesStay {S = S} g K B = (old new : Tabled S) → StopsThrough K B old new → K.is_clean new
    → LeavesRows (state g old.conn) → LeavesRows (state g new.conn)
