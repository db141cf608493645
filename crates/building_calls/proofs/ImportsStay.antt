-- Imports over books that stand in a building.
use Rattle.std.proofs.Common.{List, [], ◌∷◌, ◌++◌, Result, Ok, Err, sym, subst}
use Rattle.rand_core.specs.Stream.{Stream}
use Rattle.keycard_rules.specs.declared.kept.Kept.{Ghosts as KeptOf}
use Rattle.hotel_books.specs.declared.books.Books.{Ghosts as BooksOf}
use Rattle.hotel_lock.specs.{declared.audit_file.AuditFault.AuditFault, declared.line.Line.Line}
use Rattle.hotel_audit.specs.declared.answer.LineAnswer.{LineAnswer}
use Rattle.hotel_audit.specs.declared.imports.ImportFault.{ImportFault}
use Rattle.hotel_lock.specs.declared.line.Line.TheVariants as line
use Rattle.hotel_audit.specs.declared.imports.ImportFault.TheVariants.{File, Memory, Store}
use Rattle.hotel_audit.specs.Import.{EndsAfter, commands_of, replies_in}
use Rattle.hotel_audit.proofs.ImportsLead.{imports_lead}
use Rattle.hotel_building.specs.Building.{Building}
use Rattle.hotel_building.specs.Calls.{Houses, MayRun}
use Rattle.building_calls.specs.Imports.{ImportsStay, MayImport}
use Rattle.building_calls.proofs.{CallsStay.run_out, Stays.Known, Stays.stays_by}

-- the first of lines that may be asked may be
may_first : (houses : Houses) (b : Building) (source : Stream) (lines rest : List Line)
    → MayRun houses b source (commands_of (lines ++ rest)) → MayRun houses b source (commands_of lines)
may_first houses b source [] rest may = tt
may_first houses b source (line.Note note ∷ lines) rest may =
    (may.0, λ next reply left ok on step. may_first houses next left lines rest (may.1 next reply left ok on step))
may_first houses b source (line.Unread cause ∷ lines) rest may = may_first houses b source lines rest may

pub may_lines : (houses : Houses) (b : Building) (source : Stream) (file : Result (List Line) AuditFault)
    (outcome : Result (List LineAnswer) ImportFault) (lines : List Line) (answers : List LineAnswer)
    → EndsAfter file outcome lines answers → MayImport houses b source file → MayRun houses b source (commands_of lines)
may_lines houses b source file (Ok given) lines answers ends may = may lines ends.0
may_lines houses b source file (Err (File why)) lines answers ends may =
    subst (λ (ls : List Line). MayRun houses b source (commands_of ls)) (sym ends.0) tt
may_lines houses b source file (Err (Memory answered taken)) lines answers ends may =
    may_first houses b source lines ends.0 (may (lines ++ ends.0) ends.1)
may_lines houses b source file (Err (Store answered taken)) lines answers ends may =
    may_first houses b source lines ends.0 (may (lines ++ ends.0) ends.1)

pub imports_stay : (houses : Houses) → Known houses → {S : Type 0} (K : KeptOf S) (own : BooksOf S)
    → ImportsStay houses K own
imports_stay houses facts K own old new file outcome source i =
    stays_by houses facts K own.rows (λ b. MayImport houses b source file) _ old new
    (λ b later ok may reached runs. run_out houses facts source source (commands_of i.lines) (replies_in i.answers) b
    later ok (may_lines houses b source file outcome i.lines i.answers i.ends may) reached runs)
    ((imports_lead K own old new file outcome i).happened source)
