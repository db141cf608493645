-- What an import answers behind a failure that shut the books, where nobody else wrote what they are kept in.
use Rattle.std.specs.Prelude.{List, ⊤}
use Rattle.std.specs.List.{AllByRecursion}
use Rattle.keycard_rules.specs.{declared.kept.Kept.Ghosts as KeptOf, Calls.BeganShut, Calls.Passes}
use Rattle.hotel_books.specs.declared.books.Books.{Ghosts as BooksOf}
use Rattle.hotel_lock.specs.declared.line.Line.{Line}
use Rattle.hotel_audit.specs.{declared.answer.LineAnswer.LineAnswer, Import.LineImported}
use Rattle.hotel_lock.specs.declared.line.Line.TheVariants.{Note, Unread}

-- the line asks nothing of the books
abbrev pub IsUnread : Line → Type 0
IsUnread (Unread cause) = ⊤
IsUnread (Note note) = ⊥

-- lines that were answered one after the other, from a state on that was not clean: each is unread
abbrev pub ImportsNothing : {B : Type 0} → KeptOf B → BooksOf B → Type 0
ImportsNothing {B = B} K own = (old new : B) (asked : List (Line × LineAnswer))
    → Passes (LineImported K own) old asked new → BeganShut K old new → AllByRecursion (λ a. IsUnread a.0) asked
