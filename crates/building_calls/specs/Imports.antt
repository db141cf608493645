-- Imports over books that stand in a building.
use Rattle.std.specs.Prelude.{◌≡◌, List, Result, Ok}
use Rattle.rand_core.specs.Stream.{Stream}
use Rattle.keycard_rules.specs.declared.kept.Kept.{Ghosts as KeptOf}
use Rattle.hotel_model.specs.Run.{Runs}
use Rattle.hotel_books.specs.declared.books.Books.{Ghosts as BooksOf}
use Rattle.hotel_lock.specs.{declared.audit_file.AuditFault.AuditFault, declared.line.Line.Line}
use Rattle.hotel_audit.specs.declared.answer.LineAnswer.{LineAnswer}
use Rattle.hotel_audit.specs.declared.imports.ImportFault.{ImportFault}
use Rattle.hotel_audit.specs.Import.{Imports, commands_of, replies_in}
use Rattle.hotel_building.specs.Building.{Building}
use Rattle.hotel_building.specs.Calls.{Houses, MayRun}
use Rattle.building_calls.specs.Stands.{StaysIn}

-- Of an audit file, each note may be told in its turn, if the desk takes it.
abbrev pub MayImport : Houses → Building → Stream → Result (List Line) AuditFault → Type 0
MayImport houses b source file = (lines : List Line) → file ≡ Ok lines → MayRun houses b source (commands_of lines)

-- What an import promises, whatever the source, of which it takes no word.
abbrev pub ImportsStay : {S : Type 0} → Houses → KeptOf S → BooksOf S → Type 0
ImportsStay {S = S} houses K own = (old new : S) (file : Result (List Line) AuditFault)
    (outcome : Result (List LineAnswer) ImportFault) (source : Stream) → (i : Imports K own file old new outcome)
    → StaysIn houses K own.rows old (λ b. MayImport houses b source file)
    (λ h h'. Runs h source (commands_of i.lines) (replies_in i.answers) h' source) new
