-- No fault has the status of usage, and no act ends by it.
use Rattle.std.proofs.Common.{◌≡◌, ◌∙◌, ℕ, Bool, true, false, List, [], ◌∷◌, Option, Some, None, Result, Ok, Err, sym}
use Rattle.std.proofs.Common.{arith}
use Rattle.rand_core.specs.Stream.{Stream}
use Rattle.rand_chacha.specs.ChaCha.{ChaCha, of_seed}
use Rattle.keycard_rules.specs.declared.kept.Kept.{Ghosts as KeptOf}
use Rattle.hotel_books.specs.declared.books.Books.{Ghosts as BooksOf}
use Rattle.hotel_memory.specs.Tables.{Listed}
use Rattle.hotel_model.specs.Rows.{no_rows}
use Rattle.hotel_model.specs.declared.reply.Refusal.{Refusal}
use Rattle.hotel_model.specs.declared.reply.Refusal.TheVariants as refusal
use Rattle.hotel_model.specs.declared.reply.Reply.{Reply}
use Rattle.hotel_model.specs.declared.reply.Reply.TheVariants.{Refused}
use Rattle.hotel_lists.specs.declared.fault.ListFault.{ListFault}
use Rattle.hotel_lists.specs.declared.fault.ListFault.TheVariants as list
use Rattle.hotel_audit.specs.declared.answer.LineAnswer.{LineAnswer}
use Rattle.hotel_audit.specs.declared.answer.LineAnswer.TheVariants as line
use Rattle.hotel_audit.specs.declared.imports.ImportFault.{ImportFault}
use Rattle.hotel_rows.specs.declared.open_fault.FileFault.{FileFault}
use Rattle.hotel_rows.specs.declared.open_fault.FileFault.TheVariants as books
use Rattle.hotel_rows.specs.declared.open_fault.OpenFault.TheVariants as desk
use Rattle.hotel_program.specs.Acts.{ActEnds, ListensTo, Outer, PortEnds}
use Rattle.hotel_program.specs.Alone.AuditRuns.{answers_status, audit_end, import_fault}
use Rattle.hotel_program.specs.Alone.CommandRuns.{command_end}
use Rattle.hotel_program.specs.Alone.ListRuns.{list_end}
use Rattle.hotel_program.specs.Connections.{Sockets}
use Rattle.hotel_program.specs.Faults.{end_status, fault_status}
use Rattle.hotel_program.specs.Plan.{AfterFile, AfterOpen, AfterSeed, OverBooks, PlanEnds, amid, of_memory}
use Rattle.hotel_program.specs.Program.{drawn, script_end}
use Rattle.hotel_program.specs.Statuses.{exit_of_reply, refusal_status}
use Rattle.hotel_program.specs.declared.command_line.plan.DeskAct.{DeskAct}
use Rattle.hotel_program.specs.declared.command_line.plan.DeskAct.TheVariants.{One, List as AList, Audit, Script, Serve}
use Rattle.hotel_program.specs.declared.command_line.plan.Plan.{Plan}
use Rattle.hotel_program.specs.declared.faults.Fault.{Fault}
use Rattle.hotel_program.specs.declared.faults.Fault.TheVariants as fault
use Rattle.hotel_program.specs.declared.faults.FaultSink.{Ghosts as FaultSinkOf}
use Rattle.hotel_program.specs.declared.script.ScriptEnd.{ScriptEnd}
use Rattle.hotel_program.specs.declared.script.ScriptFault.{ScriptFault}
use Rattle.hotel_program.specs.declared.script.ScriptFault.TheVariants as script
use Rattle.hotel_program.specs.declared.surroundings.Databases.{Ghosts as DatabasesOf}
use Rattle.hotel_program.specs.declared.surroundings.Surroundings.{Ghosts as SurroundingsOf}

of_fault : (why : Fault) → fault_status why ≡ 2 → ⊥
of_fault fault.Memory e = omega (arith, e)
of_fault (fault.Books (books.Desk desk.Memory)) e = omega (arith, e)
of_fault _ e = omega (arith, e)

of_refusal : (why : Refusal) → refusal_status why ≡ 2 → ⊥
of_refusal refusal.Memory e = omega (arith, e)
of_refusal _ e = omega (arith, e)

of_reply : (reply : Reply) → exit_of_reply reply ≡ 2 → ⊥
of_reply (Refused why) e = of_refusal why e
of_reply _ e = omega (arith, e)

of_answers : (answers : List LineAnswer) → answers_status answers ≡ 2 → ⊥
of_answers [] e = omega (arith, e)
of_answers (line.Taken ∷ answers) e = of_answers answers e
of_answers (line.Seen ∷ answers) e = of_answers answers e
of_answers (line.Unread cause ∷ answers) e = omega (arith, e)
of_answers (line.Refused why ∷ answers) e = omega (arith, e)

of_command : (reply : Reply) (failed : Bool) → end_status (command_end reply failed) ≡ 2 → ⊥
of_command reply false e = of_reply reply e
of_command reply true e = omega (arith, e)

of_list : (end : Result (Unit {0}) ListFault) → end_status (list_end end) ≡ 2 → ⊥
of_list (Ok done) e = omega (arith, e)
of_list (Err list.NoRoom) e = omega (arith, e)
of_list (Err _) e = omega (arith, e)

of_audit : (outcome : Result (List LineAnswer) ImportFault) (failed : Bool)
    → end_status (audit_end outcome failed) ≡ 2 → ⊥
of_audit (Ok answers) false e = of_answers answers e
of_audit (Ok answers) true e = omega (arith, e)
of_audit (Err why) failed e = of_fault (import_fault why) e

of_script : (end : Result ScriptEnd ScriptFault) → end_status (script_end end) ≡ 2 → ⊥
of_script (Ok end) e = omega (arith, e)
of_script (Err script.Read) e = omega (arith, e)
of_script (Err _) e = omega (arith, e)

module _ {S R W F E : Type 0} (K : KeptOf S) (own : BooksOf S) (words : R → Stream) (contents : W → Option (List ℕ))
    (told : F → Fault → F → Type 0) (port : Sockets) (bound : E → ℕ → Result port.Listener Fault → E → Type 0) where
  of_listener : (number count : ℕ) (listener : port.Listener) (failed : Bool) (status : ℕ) (old : S × R) (out : W × F)
      (new : S × R) (out' : W × F)
      → ListensTo K own words contents told port bound number count listener failed status old out new out'
      → status ≡ 2 → ⊥
  of_listener number count listener false status old out new out' ends e = let is = ends.0 in omega (arith, is, e)
  of_listener number count listener true status old out new out' ends e = of_fault fault.Write (sym ends.0.0 ∙ e)

  of_port : (number count : ℕ) (got : Result port.Listener Fault) (status : ℕ) (old : S × R) (out : W × F)
      (new : S × R) (out' : W × F)
      → PortEnds K own words contents told port bound number count got status old out new out' → status ≡ 2 → ⊥
  of_port number count (Ok listener) status old out new out' ends e =
      of_listener number count listener ends.0 status old out new out' ends.1 e
  of_port number count (Err why) status old out new out' ends e = of_fault why (sym ends.0.0 ∙ e)

  of_act : {I : Type 0} (remaining : I → Option (List ℕ)) (bytes : List ℕ) (act : DeskAct) (status : ℕ) (old : S × R)
      (out : Outer I W F E) (new : S × R) (out' : Outer I W F E)
      → ActEnds K own words contents told port bound remaining bytes act status old out new out' → status ≡ 2 → ⊥
  of_act remaining bytes (One command) status old out new out' ends e = of_command ends.0 ends.1 (sym ends.2.0 ∙ e)
  of_act remaining bytes (AList its_list) status old out new out' ends e = of_list ends.0 (sym ends.1.0 ∙ e)
  of_act remaining bytes (Audit name) status old out new out' ends e = of_audit ends.0 ends.1 (sym ends.2.0 ∙ e)
  of_act remaining bytes Script status old out new out' ends e = of_script ends.0 (sym ends.1.0 ∙ e)
  of_act remaining bytes (Serve number count) status old out new out' ends e =
      of_port number count ends.0.0 status old (out.writer, out.faults) new (out'.writer, out'.faults) ends.0.2 e

module _ {D I W F E : Type 0} (remaining : I → Option (List ℕ)) (contents : W → Option (List ℕ)) (sink : FaultSinkOf F)
    (port : Sockets) (surroundings : SurroundingsOf E port.Listener port.Stream port.Caller)
    (databases : DatabasesOf E D port.Listener port.Stream port.Caller) (in_memory : KeptOf Listed)
    (of_database : KeptOf D) (own : BooksOf D) where
  of_opened : (act : DeskAct) (bytes : List ℕ) (source : ChaCha) (got : Result D FileFault) (status : ℕ)
      (old new : Outer I W F E)
      → AfterOpen remaining contents sink port surroundings databases in_memory of_database own act bytes source got
      status old new → status ≡ 2 → ⊥
  of_opened act bytes source (Ok books) status old new ends e =
      of_act of_database own drawn contents sink.told port surroundings.port_bound remaining bytes act status
      (books, source) old (ends.0, ends.1) (amid ends.2 new) ends.3 e
  of_opened act bytes source (Err why) status old new ends e = of_fault (fault.Books why) (sym ends.0 ∙ e)

  of_books : (act : DeskAct) (bytes : List ℕ) (source : ChaCha) (db : Option (List ℕ)) (status : ℕ)
      (old new : Outer I W F E)
      → OverBooks remaining contents sink port surroundings databases in_memory of_database own act bytes source db
      status old new → status ≡ 2 → ⊥
  of_books act bytes source None status old new ends e =
      of_act in_memory of_memory drawn contents sink.told port surroundings.port_bound remaining bytes act
      status (record { rows = no_rows; failures = 0 }, source) old (ends.0, ends.1) new ends.2 e
  of_books act bytes source (Some name) status old new ends e =
      of_opened act bytes source ends.0 status (amid ends.1 old) new ends.3 e

  of_file : (plan : Plan) (source : ChaCha) (file : Result (List ℕ) Fault) (status : ℕ) (old new : Outer I W F E)
      → AfterFile remaining contents sink port surroundings databases in_memory of_database own plan source file
      status old new → status ≡ 2 → ⊥
  of_file plan source (Ok bytes) status old new ends e = of_books plan.act bytes source plan.db status old new ends e
  of_file plan source (Err why) status old new ends e = of_fault why (sym ends.0 ∙ e)

  of_seeded : (plan : Plan) (seed : Result (List ℕ) Fault) (status : ℕ) (old new : Outer I W F E)
      → AfterSeed remaining contents sink port surroundings databases in_memory of_database own plan seed
      status old new → status ≡ 2 → ⊥
  of_seeded plan (Ok seed) status old new ends e =
      of_file plan (of_seed seed) ends.0 status (amid ends.1 old) new ends.3 e
  of_seeded plan (Err why) status old new ends e = of_fault why (sym ends.0 ∙ e)

  pub of_plan : (plan : Plan) (status : ℕ) (old new : Outer I W F E)
      → PlanEnds remaining contents sink port surroundings databases in_memory of_database own plan status old new
      → status ≡ 2 → ⊥
  of_plan plan status old new ends e = of_seeded plan ends.0 status (amid ends.1 old) new ends.3 e
