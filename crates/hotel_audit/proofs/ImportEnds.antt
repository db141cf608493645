-- How an import ends: with all lines answered, with those before one that failed, or before the first.
use Rattle.std.proofs.Common.{ℕ, Bool, ◌≡◌, ◌⊎◌, ◌+◌, ◌∙◌, List, [], ◌∷◌, ◌++◌, Result, Ok, Err, take, drop, length}
use Rattle.std.proofs.Common.{sym, refl, ap, append_assoc}
use Rattle.std.specs.Prelude.{zip}
use Rattle.std.proofs.lemmas.List.{take-append-drop}
use Rattle.keycard_rules.specs.{declared.kept.Kept.Ghosts as KeptOf, Calls.Passes}
use Rattle.hotel_books.specs.declared.books.Books.{Ghosts as BooksOf}
use Rattle.keycard_rules.specs.declared.issued.LookFault.{LookFault}
use Rattle.keycard_rules.specs.declared.issued.LookFault.TheVariants as look
use Rattle.hotel_lock.specs.declared.audit_file.AuditFault.{AuditFault}
use Rattle.hotel_audit.specs.declared.answer.LineAnswer.{LineAnswer}
use Rattle.hotel_lock.specs.declared.line.Line.{Line}
use Rattle.hotel_lock.specs.declared.audit_file.AuditFault.TheVariants as fault
use Rattle.hotel_audit.specs.declared.imports.ImportFault.TheVariants.{File}
use Rattle.hotel_audit.specs.Import.{AreAnswered, EndsAfter, Imports, IsPrefixOf, ImportLeaves, ImportsLine}
use Rattle.hotel_audit.specs.Import.{LineImported, NextFails, has_taken, stopped}

-- an import that was stopped ended after a prefix of the file's lines
ends_stopped : (by : LookFault) (file : Result (List Line) AuditFault) (lines : List Line)
    (answers : List LineAnswer) (answered : ℕ) (taken : Bool)
    → IsPrefixOf file lines answers answered taken → EndsAfter file (Err (stopped by answered taken)) lines answers
ends_stopped look.Memory file lines answers answered taken prefix = prefix
ends_stopped look.Store file lines answers answered taken prefix = prefix

-- it left what the line left that failed
leaves_stopped : {B : Type 0} (K : KeptOf B) (own : BooksOf B) (by : LookFault) (file : Result (List Line) AuditFault)
    (lines : List Line) (old new : B) (answered : ℕ) (taken : Bool)
    → NextFails K own file lines old by new → ImportLeaves K own file lines old (Err (stopped by answered taken)) new
leaves_stopped K own look.Memory file lines old new answered taken fails = fails
leaves_stopped K own look.Store file lines old new answered taken fails = fails

-- the lines of a file, with one in their midst
around : (lines : List Line) (i : ℕ) (next : Line)
    → take (i + 1) lines ≡ take i lines ++ next ∷ [] → lines ≡ take i lines ++ next ∷ drop (i + 1) lines
around lines i next more = sym (take-append-drop (i + 1) lines) ∙ ap (λ prefix. prefix ++ drop (i + 1) lines) more
    ∙ append_assoc (take i lines) (next ∷ []) (drop (i + 1) lines)

-- a line failed behind the state mid: those before it were answered
pub answered_before : {B : Type 0} (K : KeptOf B) (own : BooksOf B) (old mid new : B) (lines : List Line) (i : ℕ)
    (answers : List LineAnswer) (by : LookFault) → AreAnswered (take i lines) answers
    → Passes (LineImported K own) old (zip (take i lines) answers) mid
    → (next : Line) → take (i + 1) lines ≡ take i lines ++ next ∷ [] → ImportsLine K own mid next (Err by) new
    → Imports K own (Ok lines) old new (Err (stopped by (length answers) (has_taken answers)))
answered_before K own old mid new lines i answers by each through next more goes = record {
  lines = take i lines;
  answers = answers;
  each = each;
  ends = ends_stopped by (Ok lines) (take i lines) answers (length answers) (has_taken answers)
      (drop i lines, ap (λ ls. Ok ls) (sym (take-append-drop i lines)), refl, refl);
  behind = mid;
  through = through;
  leaves = leaves_stopped K own by (Ok lines) (take i lines) mid new (length answers) (has_taken answers)
      (next, drop (i + 1) lines, ap (λ ls. Ok ls) (around lines i next more), goes);
}

-- nothing was begun
pub none_begun : {B : Type 0} (K : KeptOf B) (own : BooksOf B) (old : B) (file : Result (List Line) AuditFault)
    (why : AuditFault) → (why ≡ fault.Memory) ⊎ (file ≡ Err why) → Imports K own file old old (Err (File why))
none_begun K own old file why because = record {
  lines = [];
  answers = [];
  each = tt;
  ends = (refl, refl, because);
  behind = old;
  through = refl;
  leaves = refl;
}
