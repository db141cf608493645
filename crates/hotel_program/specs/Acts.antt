-- What the program's acts come to over books.
use Rattle.std.specs.Prelude.{◌≡◌, ℕ, Bool, true, false, List, ◌++◌, codes, Option, Result, Ok, Err}
use Rattle.std.specs.Fmt.{decimal}
use Rattle.std.specs.Io.KnownBytes.{Appends}
use Rattle.rand_core.specs.Stream.{Stream}
use Rattle.keycard_rules.specs.declared.kept.Kept.{Ghosts as KeptOf}
use Rattle.hotel_books.specs.declared.books.Books.{Ghosts as BooksOf}
use Rattle.hotel_core.specs.Books.Stepped.{Stepped}
use Rattle.hotel_model.specs.declared.command.Command.{Command}
use Rattle.hotel_model.specs.declared.reply.Reply.{Reply}
use Rattle.hotel_streams.specs.Bytes.{AppendsPrefix}
use Rattle.hotel_lists.specs.RowLines.{LooksAt}
use Rattle.hotel_lists.specs.declared.fault.ListFault.{ListFault}
use Rattle.hotel_asks.specs.declared.asked.ListAsk.{ListAsk}
use Rattle.hotel_audit.specs.declared.answer.LineAnswer.{LineAnswer}
use Rattle.hotel_audit.specs.declared.imports.ImportFault.{ImportFault}
use Rattle.hotel_lock.specs.AuditFile.{audit_lines}
use Rattle.hotel_audit.specs.Import.{Imports}
use Rattle.hotel_program.specs.Alone.AuditRuns.{audit_end, WritesAnswers}
use Rattle.hotel_program.specs.Alone.CommandRuns.{command_end, WritesReply}
use Rattle.hotel_program.specs.Faults.{end_status, Reports}
use Rattle.hotel_program.specs.Alone.ListRuns.{AnswerEndsFor, list_end}
use Rattle.hotel_program.specs.Program.{script_end}
use Rattle.hotel_program.specs.Script.WholeScript.{ScriptRan}
use Rattle.hotel_program.specs.Connections.{ServesEach, Sockets}
use Rattle.hotel_program.specs.declared.command_line.plan.DeskAct.{DeskAct}
use Rattle.hotel_program.specs.declared.command_line.plan.DeskAct.TheVariants.{One, List as AList, Audit, Script, Serve}
use Rattle.hotel_program.specs.declared.faults.Fault.{Fault}
use Rattle.hotel_program.specs.declared.faults.Fault.TheVariants as fault
use Rattle.hotel_program.specs.declared.script.ScriptEnd.{ScriptEnd}
use Rattle.hotel_program.specs.declared.script.ScriptFault.{ScriptFault}

-- What is outside: a reader, a writer, a taker of faults, and what is around the program.
pub record Outer (I W F E : Type 0) : Type 0 where
  pub reader : I
  pub writer : W
  pub faults : F
  pub around : E

-- The line that says where connections are taken.
abbrev pub listening_text : ℕ → List ℕ
listening_text port = codes "listening on 127.0.0.1:" ++ decimal port ++ codes "\n"

-- An act ended by this status, or by this fault, which was reported.
abbrev pub EndsBy : {F : Type 0} → (F → Fault → F → Type 0) → Result ℕ Fault → ℕ → F → F → Type 0
EndsBy told end status old new = (status ≡ end_status end) × Reports told old end new

-- What acts come to over books and a source, by what contracts see of these and of what is outside.
module _ {S R W F E : Type 0} (K : KeptOf S) (own : BooksOf S) (words : R → Stream) (contents : W → Option (List ℕ))
    (told : F → Fault → F → Type 0) (port : Sockets) (bound : E → ℕ → Result port.Listener Fault → E → Type 0) where
  -- The line was written and so many connections were served, each to its end, with the faults of these ends reported;
  -- or a write of it failed, and none was.
  abbrev pub ListensTo : ℕ → ℕ → port.Listener → Bool → ℕ → S × R → W × F → S × R → W × F → Type 0
  ListensTo number count listener false status old out new out' = (status ≡ 0)
      × Appends (contents out.0) (contents out'.0) (listening_text number)
      × ServesEach port K own words told count listener old out.1 new out'.1
  ListensTo number count listener true status old out new out' = EndsBy told (Err fault.Write) status out.1 out'.1
      × AppendsPrefix (contents out.0) (contents out'.0) (listening_text number)
      × (new.0 ≡ old.0) × (new.1 ≡ old.1)

  -- What comes of a port that was asked for: a listener, or why there is none.
  abbrev pub PortEnds : ℕ → ℕ → Result port.Listener Fault → ℕ → S × R → W × F → S × R → W × F → Type 0
  PortEnds number count (Ok listener) status old out new out' =
      (write_failed : Bool) × ListensTo number count listener write_failed status old out new out'
  PortEnds number count (Err why) status old out new out' = EndsBy told (Err why) status out.1 out'.1
      × (new.0 ≡ old.0) × (new.1 ≡ old.1) × (out'.0 ≡ out.0)

  -- Connections on a port.
  abbrev pub ServeEnds : ℕ → ℕ → ℕ → S × R → W × F → E → S × R → W × F → E → Type 0
  ServeEnds number count status old out around new out' around' = (got : Result port.Listener Fault)
      × bound around number got around' × PortEnds number count got status old out new out'

  module _ {I : Type 0} (remaining : I → Option (List ℕ)) where
    -- One command: a step of the model, and its reply.
    abbrev pub OneEnds : Command → ℕ → S × R → Outer I W F E → S × R → Outer I W F E → Type 0
    OneEnds command status old out new out' = (reply : Reply) × (write_failed : Bool)
        × EndsBy told (command_end reply write_failed) status out.faults out'.faults
        × WritesReply (contents out.writer) (contents out'.writer) reply write_failed
        × Stepped K own (old.0, words old.1) (command, reply) (new.0, words new.1)
        × (out'.reader ≡ out.reader) × (out'.around ≡ out.around)

    -- A list: its text over the history.
    abbrev pub AListEnds : ListAsk → ℕ → S × R → Outer I W F E → S × R → Outer I W F E → Type 0
    AListEnds its_list status old out new out' = (end : Result (Unit {0}) ListFault)
        × EndsBy told (list_end end) status out.faults out'.faults
        × (K.is_honest new.0 → AnswerEndsFor (own.rows old.0) its_list (contents out.writer) (contents out'.writer) end)
        × LooksAt K old.0 new.0 end
        × (new.1 ≡ old.1) × (out'.reader ≡ out.reader) × (out'.around ≡ out.around)

    -- An audit file of these bytes: its lines one after the other, and their answers.
    abbrev pub AuditEnds : List ℕ → ℕ → S × R → Outer I W F E → S × R → Outer I W F E → Type 0
    AuditEnds bytes status old out new out' = (outcome : Result (List LineAnswer) ImportFault) × (write_failed : Bool)
        × EndsBy told (audit_end outcome write_failed) status out.faults out'.faults
        × WritesAnswers contents out.writer out'.writer outcome write_failed
        × Imports K own (audit_lines bytes) old.0 new.0 outcome
        × (new.1 ≡ old.1) × (out'.reader ≡ out.reader) × (out'.around ≡ out.around)

    -- A script, which alone reads what the reader has: its lines one after the other, each answered before the next.
    abbrev pub ScriptEnds : ℕ → S × R → Outer I W F E → S × R → Outer I W F E → Type 0
    ScriptEnds status old out new out' = (end : Result ScriptEnd ScriptFault)
        × EndsBy told (script_end end) status out.faults out'.faults
        × ScriptRan K own words contents (remaining out.reader) (old.0, old.1, out.writer) end
        (new.0, new.1, out'.writer) × (out'.around ≡ out.around)

    -- An act, with the bytes of its audit file.
    abbrev pub ActEnds : List ℕ → DeskAct → ℕ → S × R → Outer I W F E → S × R → Outer I W F E → Type 0
    ActEnds bytes (One command) = OneEnds command
    ActEnds bytes (AList its_list) = AListEnds its_list
    ActEnds bytes (Audit name) = AuditEnds bytes
    ActEnds bytes Script = ScriptEnds
    ActEnds bytes (Serve number count) = λ status old out new out'.
        ServeEnds number count status old (out.writer, out.faults) out.around new (out'.writer, out'.faults) out'.around
        × (out'.reader ≡ out.reader)
