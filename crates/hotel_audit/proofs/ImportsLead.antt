-- The notes of an import are a run of the model, and it leaves of the books what its calls leave together.
use Rattle.std.proofs.Common.{◌≡◌, ◌∙◌, Option, Some, None, Result, Ok, Err, List, [], ◌∷◌, map, refl, sym}
use Rattle.std.proofs.Common.{subst}
use Rattle.std.specs.Prelude.{zip}
use Rattle.rand_core.specs.Stream.{Stream}
use Rattle.keycard_rules.specs.{declared.kept.Kept.Ghosts as KeptOf, Leaves.Leaves, Calls.Passes}
use Rattle.hotel_books.specs.declared.books.Books.{Ghosts as BooksOf}
use Rattle.keycard_rules.specs.declared.issued.LookFault.{LookFault}
use Rattle.keycard_rules.specs.declared.issued.LookFault.TheVariants as look
use Rattle.keycard_rules.proofs.CallsTogether.{passes_join, together}
use Rattle.hotel_books.proofs.Names.{Note, Reply, Runs, is_failed}
use Rattle.hotel_core.proofs.OfCode.Counting.{untold}
use Rattle.hotel_core.proofs.OfCode.{Happens.kept_by, StopsAfter.no_stops, StopsAfter.stops_once, StopsAfter.stops_then}
use Rattle.hotel_books.specs.Books.Stops.{StopsThrough}
use Rattle.hotel_core.specs.Books.{Happens.Happens, Stepped.Noted, Stepped.Stepped}
use Rattle.hotel_model.proofs.Invariants.Assurance.{assured}
use Rattle.hotel_model.specs.NoteReplies.{IsNoteReply}
use Rattle.hotel_model.specs.declared.command.Command.TheVariants as command
use Rattle.hotel_lock.specs.declared.audit_file.AuditFault.{AuditFault}
use Rattle.hotel_audit.specs.declared.answer.LineAnswer.{LineAnswer}
use Rattle.hotel_lock.specs.declared.line.Line.{Line}
use Rattle.hotel_audit.specs.declared.imports.ImportFault.{ImportFault}
use Rattle.hotel_lock.specs.declared.line.Line.TheVariants as line
use Rattle.hotel_audit.specs.declared.imports.ImportFault.TheVariants.{File, Memory, Store}
use Rattle.hotel_audit.specs.Import.{AreAnswered, ImportsLead, ImportLeaves}
use Rattle.hotel_audit.specs.Import.{LineImported, NextFails, answer_of, behind_reply, commands_of, failures_of}
use Rattle.hotel_audit.specs.Import.{replies_in, told_by_import}
use Rattle.hotel_audit.proofs.NoteReplies.{answered_is, answered_sure, failed_reply, failure_told}
use Rattle.hotel_audit.proofs.ShutImports.{no_words, since_lines}

-- a call that reported a failure, where that is known of honest books alone
leaves_as : {B : Type 0} {K : KeptOf B} {old new : B} {told other : Option LookFault}
    → (K.is_honest new → told ≡ other) → Leaves K old told new → Leaves K old other new
leaves_as {K = K} {old = old} {new = new} e l = record {
  since = l.since;
  counted = λ honest. (subst (λ t. Leaves K old t new) (e honest) l).counted honest;
  vouched = λ honest none. l.vouched honest (e honest ∙ none);
  stays = l.stays;
}

never : {why : LookFault} {answer : LineAnswer} → ◌≡◌ {A = Result LineAnswer LookFault} (Err why) (Ok answer) → ⊥
never e = cc

module _ {B : Type 0} (K : KeptOf B) (own : BooksOf B) where
  -- no call of the answered lines reported a failure
  calls_of : (old new : B) (lines : List Line) (answers : List LineAnswer) → AreAnswered lines answers
      → Passes (LineImported K own) old (zip lines answers) new
      → Passes (Leaves K) old (map (λ command. None) (commands_of lines)) new
  calls_of old new [] [] each p = p
  calls_of old new [] (a ∷ answers) each p = absurd each
  calls_of old new (l ∷ lines) [] each p = absurd each
  calls_of old new (line.Unread cause ∷ lines) (a ∷ answers) each p =
      subst (λ b. Passes (Leaves K) b (map (λ command. None) (commands_of lines)) new) p.1.1
      (calls_of p.0 new lines answers each.1 p.2)
  calls_of old new (line.Note note ∷ lines) (a ∷ answers) each p =
      let given = p.1.0 in
      let step = p.1.3 no_words in (
        p.0,
        leaves_as (λ honest. untold given (answered_sure given a p.1.1)) step.leaves,
        calls_of p.0 new lines answers each.1 p.2,
      )

  -- they ran
  runs_of : (source : Stream) (old new : B) (lines : List Line) (answers : List LineAnswer) → AreAnswered lines answers
      → Passes (LineImported K own) old (zip lines answers) new
      → Happens K own.rows old (λ h h'. Runs h source (commands_of lines) (replies_in answers) h' source) new
  runs_of source old new [] [] each p =
      subst (λ b. Happens K own.rows old (λ h h'. Runs h source [] [] h' source) b) (sym p)
      (λ honest h reached stands. (h, reached, stands, (refl, refl), assured h reached))
  runs_of source old new [] (a ∷ answers) each p = absurd each
  runs_of source old new (l ∷ lines) [] each p = absurd each
  runs_of source old new (line.Unread cause ∷ lines) (a ∷ answers) each p =
      rw (each.0)
      (subst (λ b. Happens K own.rows b (λ h h'. Runs h source (commands_of lines) (replies_in answers) h' source) new)
      p.1.1 (runs_of source p.0 new lines answers each.1 p.2))
  runs_of source old new (line.Note note ∷ lines) (a ∷ answers) each p = λ honest h reached stands.
      let given = p.1.0 in
      let step = p.1.3 source in
      let k = step.happened ((since_lines K own p.0 new (zip lines answers) p.2).was_honest honest) h reached stands in
      let l = runs_of source p.0 new lines answers each.1 p.2 honest k.0 k.1 k.2 in
      let r : Runs h source (command.Reported note ∷ commands_of lines) (given ∷ replies_in answers) l.0 source =
      (k.0, source, k.3, l.3) in (
        l.0,
        l.1,
        l.2,
        subst
            (λ said. Runs h source (command.Reported note ∷ commands_of lines) (behind_reply said (replies_in answers))
            l.0 source) (sym (answered_is given a p.1.1)) r,
        l.4,
      )

  -- the line that failed is a note's
  failed_note : (file : Result (List Line) AuditFault) (lines : List Line) (behind new : B) (why : LookFault)
      → NextFails K own file lines behind why new
      → (note : Note) × (given : Reply) × (Err why ≡ answer_of given) × (K.is_honest new → IsNoteReply given)
      × Noted K own note behind new given
  failed_note file lines behind new why (line.Unread cause, rest, is, goes) = absurd (never goes.0)
  failed_note file lines behind new why (line.Note note, rest, is, goes) = (note, goes.0, goes.1, goes.2, goes.3)

  -- it reported so
  fails_told : (file : Result (List Line) AuditFault) (lines : List Line) (behind new : B) (why : LookFault)
      → NextFails K own file lines behind why new → Leaves K behind (Some why) new
  fails_told file lines behind new why fails =
      let it = failed_note file lines behind new why fails in
      let step = it.4 no_words in
      leaves_as (λ honest. failure_told it.1 why it.2 (failed_reply it.1 why it.2 (it.3 honest))) step.leaves

  -- and nothing happened by it
  idle_step : (source : Stream) (behind new : B) (note : Note) (given : Reply) (why : LookFault)
      → Err why ≡ answer_of given → (K.is_honest new → IsNoteReply given)
      → Stepped K own (behind, source) (command.Reported note, given) (new, source)
      → Happens K own.rows behind (λ h h'. h' ≡ h) new
  idle_step source behind new note given why is reply step = λ honest h reached stands.
      let k = step.happened honest h reached stands in
      let failed = failed_reply given why is (reply honest) in
      (k.0, k.1, k.2, kept_by (is_failed given) h source (command.Reported note) given k.0 source failed k.3, k.4)

  fails_idle : (file : Result (List Line) AuditFault) (lines : List Line) (behind new : B) (why : LookFault)
      → NextFails K own file lines behind why new → Happens K own.rows behind (λ h h'. h' ≡ h) new
  fails_idle file lines behind new why fails =
      let it = failed_note file lines behind new why fails in
      idle_step no_words behind new it.0 it.1 why it.2 it.3 (it.4 no_words)

  calls_behind : (file : Result (List Line) AuditFault) (lines : List Line) (behind new : B)
      (outcome : Result (List LineAnswer) ImportFault)
      → ImportLeaves K own file lines behind outcome new → Passes (Leaves K) behind (failures_of outcome) new
  calls_behind file lines behind new (Ok given) leaves = leaves
  calls_behind file lines behind new (Err (File why)) leaves = leaves
  calls_behind file lines behind new (Err (Memory answered taken)) leaves =
      (new, fails_told file lines behind new look.Memory leaves, refl)
  calls_behind file lines behind new (Err (Store answered taken)) leaves =
      (new, fails_told file lines behind new look.Store leaves, refl)

  same_idle : (behind new : B) → new ≡ behind → Happens K own.rows behind (λ h h'. h' ≡ h) new
  same_idle behind new e = subst (λ b. Happens K own.rows behind (λ h h'. h' ≡ h) b) (sym e)
      (λ honest h reached stands. (h, reached, stands, refl, assured h reached))

  idle_behind : (file : Result (List Line) AuditFault) (lines : List Line) (behind new : B)
      (outcome : Result (List LineAnswer) ImportFault)
      → ImportLeaves K own file lines behind outcome new → Happens K own.rows behind (λ h h'. h' ≡ h) new
  idle_behind file lines behind new (Ok given) leaves = same_idle behind new leaves
  idle_behind file lines behind new (Err (File why)) leaves = same_idle behind new leaves
  idle_behind file lines behind new (Err (Memory answered taken)) leaves =
      fails_idle file lines behind new look.Memory leaves
  idle_behind file lines behind new (Err (Store answered taken)) leaves =
      fails_idle file lines behind new look.Store leaves

  -- a note left to a stop what a command does
  note_stops : (old new : B) (note : Note) (given : Reply) → Noted K own note old new given → StopsThrough K own old new
  note_stops old new note given noted =
      let step = noted no_words in stops_once no_words (command.Reported note) step.leaves.since step.stop

  stops_of : (old new : B) (asked : List (Line × LineAnswer)) → Passes (LineImported K own) old asked new
      → StopsThrough K own old new
  stops_of old new [] p = no_stops p
  stops_of old new ((line.Unread cause, answer) ∷ later) p =
      subst (λ b. StopsThrough K own b new) p.1.1 (stops_of p.0 new later p.2)
  stops_of old new ((line.Note note, answer) ∷ later) p =
      stops_then (note_stops old p.0 note p.1.0 p.1.3) (stops_of p.0 new later p.2)

  fails_stops : (file : Result (List Line) AuditFault) (lines : List Line) (behind new : B) (why : LookFault)
      → NextFails K own file lines behind why new → StopsThrough K own behind new
  fails_stops file lines behind new why fails =
      let it = failed_note file lines behind new why fails in note_stops behind new it.0 it.1 it.4

  stops_behind : (file : Result (List Line) AuditFault) (lines : List Line) (behind new : B)
      (outcome : Result (List LineAnswer) ImportFault)
      → ImportLeaves K own file lines behind outcome new → StopsThrough K own behind new
  stops_behind file lines behind new (Ok given) leaves = no_stops leaves
  stops_behind file lines behind new (Err (File why)) leaves = no_stops leaves
  stops_behind file lines behind new (Err (Memory answered taken)) leaves =
      fails_stops file lines behind new look.Memory leaves
  stops_behind file lines behind new (Err (Store answered taken)) leaves =
      fails_stops file lines behind new look.Store leaves

  pub imports_lead : ImportsLead K own
  imports_lead old new file outcome i =
      let last = calls_behind file i.lines i.behind new outcome i.leaves in
      let calls = passes_join (Leaves K) old i.behind new (map (λ command. None) (commands_of i.lines))
      (failures_of outcome) (calls_of old i.behind i.lines i.answers i.each i.through) last in
      record {
        happened = λ source honest h reached stands.
            let before = (together K i.behind new (failures_of outcome) last).since.was_honest honest in
            let k = runs_of source old i.behind i.lines i.answers i.each i.through before h reached stands in
            let l = idle_behind file i.lines i.behind new outcome i.leaves honest k.0 k.1 k.2 in (
              l.0,
              l.1,
              l.2,
              subst (λ m. Runs h source (commands_of i.lines) (replies_in i.answers) m source) (sym l.3)
                  k.3,
              l.4,
            );
        calls = calls;
        leaves = together K old new (told_by_import i.lines outcome) calls;
        stops = stops_then (stops_of old i.behind (zip i.lines i.answers) i.through)
            (stops_behind file i.lines i.behind new outcome i.leaves);
      }
