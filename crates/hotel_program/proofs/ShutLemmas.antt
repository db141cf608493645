-- Books that were not clean as a line or a connection began answer nothing, and nothing is taken.
use Rattle.std.proofs.Common.{◌≡◌, ◌∙◌, ℕ, Bool, true, false, List, [], ◌∷◌, ◌++◌, Option, Some, None, inl, inr, map}
use Rattle.std.proofs.Common.{Result, Ok, Err, refl, ap, subst, sym, IsSome}
use Rattle.std.specs.List.{AllByRecursion, concat}
use Rattle.std.specs.Io.KnownBytes.{Appends}
use Rattle.std.proofs.KnownBytes.{Appends-trans, Appends-nil}
use Rattle.rand_core.specs.Stream.{Stream}
use Rattle.keycard_rules.specs.{declared.kept.Kept.Ghosts as KeptOf, Since.Since}
use Rattle.hotel_books.specs.declared.books.Books.{Ghosts as BooksOf}
use Rattle.keycard_rules.specs.Calls.{BeganShut, Passes, last_answers}
use Rattle.keycard_rules.proofs.{CallsTogether.shut_fail, CallsTogether.together, Sinces.since_refl, Sinces.since_then}
use Rattle.hotel_books.proofs.Names.{false≢true, failure_in}
use Rattle.hotel_core.proofs.OfCode.Counting.{untold}
use Rattle.hotel_asks.specs.declared.asked.Ask.{Ask}
use Rattle.hotel_asks.specs.declared.asked.Ask.TheVariants as ask
use Rattle.hotel_model.specs.{declared.reply.Reply.Reply, History.History, History.start, Rows.no_rows}
use Rattle.hotel_model.specs.declared.reply.Reply.TheVariants as reply
use Rattle.hotel_model.specs.declared.reply.Refusal.TheVariants as refusal
use Rattle.hotel_model.proofs.SoundRows.NoRows.{none_sound}
use Rattle.hotel_core.specs.Texts.{reply_text}
use Rattle.hotel_lists.specs.Listings.{Listing}
use Rattle.hotel_lists.proofs.ToldLemmas.{last_of}
use Rattle.hotel_asks.specs.Listings.{listing_over}
use Rattle.hotel_audit.specs.declared.answer.LineAnswer.{LineAnswer}
use Rattle.hotel_audit.specs.declared.imports.ImportFault.{ImportFault}
use Rattle.hotel_audit.specs.declared.imports.ImportFault.TheVariants as import
use Rattle.hotel_lock.specs.{AuditFile.audit_lines, declared.line.Line.Line}
use Rattle.hotel_lock.specs.declared.line.Line.TheVariants as line
use Rattle.hotel_audit.specs.Import.{AreAnswered, EndsAfter, commands_of, failures_of, has_taken, told_by_import}
use Rattle.hotel_http.specs.declared.tasks.Task.{Task}
use Rattle.hotel_http.specs.declared.tasks.Task.TheVariants as task
use Rattle.hotel_http.specs.declared.serve.ServeFault.TheVariants.{Closed, Read, Memory, Write}
use Rattle.hotel_http.specs.Request.{Wanted}
use Rattle.keycard_rules.specs.Calls.{Told}
use Rattle.hotel_http.specs.Serve.{Comes, FullAnswer, TaskComes, imported, is_accepted, list_reply}
use Rattle.hotel_program.specs.Connections.{ConnectionCame, ConnectionEnd, ConnectionHappens}
use Rattle.hotel_program.specs.Script.{Asks.ask_in, LineAnswers.AskGoes, LineAnswers.CommandTold, LineAnswers.ListAsked}
use Rattle.hotel_program.specs.Script.LineAnswers.{Sure}
use Rattle.hotel_program.specs.Script.{ListAnswers.tells_failure, WholeScript.LinesAnswered}
use Rattle.hotel_program.specs.Shut.{ComesToNothing, ScriptsNothing, ServesNothing, TookNothing}
use Rattle.hotel_program.proofs.OfScript.ListAnswerLemmas.{none_told, reply_sure, told_failed}

-- what was asked reports a failure, where the last of its calls wasn't answered
told_so : (b : Bool) → (b ≡ false → ⊥) → b ≡ true
told_so true f = refl
told_so false f = absurd (f refl)

ask_fails : (sure : List ℕ → Type 0) (wanted : Option Ask) (h h' : History) (s s' : Stream) (text : List ℕ)
    (told : Told) → AskGoes sure wanted h s text told h' s' → ListAsked wanted text told
    → (last_answers told ≡ true → ⊥) → IsSome wanted → tells_failure text ≡ true
ask_fails sure None h h' s s' text told goes list shut some = absurd (false≢true some)
ask_fails sure (Some (ask.Command command)) h h' s s' text told goes list shut some =
    ap tells_failure goes.2 ∙ told_so (tells_failure (reply_text goes.0)) (λ k. by goes.3 k)
  where
    by : CommandTold command goes.0 told → tells_failure (reply_text goes.0) ≡ false → ⊥
    by (inl e) k = shut (ap last_answers (e ∙ ap (λ t. t ∷ []) (untold goes.0 (reply_sure goes.0 k))))
    by (inr e) k = false≢true (sym k ∙ ap (λ r. tells_failure (reply_text r)) e.0 ∙ told_failed [] refusal.Memory refl)
ask_fails sure (Some (ask.List its_list)) h h' s s' text told goes list shut some =
    told_so (tells_failure text) (λ k. shut (last_of told (list k, none_told goes.0 text told goes.1 k)))

module _ {S R W : Type 0} (K : KeptOf S) (own : BooksOf S) (stream : R → Stream) (contents : W → Option (List ℕ)) where
  since_lines : (old new : S × R × W) (lines : List (List ℕ)) → LinesAnswered K own stream contents old lines new
      → Since K old.0 new.0
  since_lines old new [] p = subst (λ (x : S × R × W). Since K old.0 x.0) (sym p) since_refl
  since_lines old new (line ∷ later) p =
      since_then (together K old.0 p.0.0 p.1.told p.1.calls).since (since_lines p.0 new later p.2)

  pub scripts_nothing : ScriptsNothing K own stream contents
  scripts_nothing old new [] p shut = (
    [],
    tt,
    subst (λ (x : S × R × W). Appends (contents old.2) (contents x.2) []) (sym p)
        (Appends-nil (contents old.2)),
  )
  scripts_nothing old new (line ∷ later) p shut =
      let mid = p.0 in
      let one = p.1 in
      let honest = (since_lines mid new later p.2).was_honest shut.0 in
      let all = together K old.0 mid.0 one.told one.calls in
      let went = one.happened honest (start no_rows) none_sound (λ clean. absurd (shut.1 clean)) in
      let rest = scripts_nothing mid new later p.2 (shut.0, λ clean. shut.1 (all.since.was_clean clean)) in
      let a = went.3 in (
        a.0 ∷ rest.0,
        (
          ask_fails (Sure (K.is_clean old.0)) (ask_in line) (start no_rows) went.0 (stream old.1) (stream mid.1) a.0
              one.told a.1 a.2.1 (λ e. shut.1 (all.since.was_clean (all.vouched honest e))),
          rest.1,
        ),
        Appends-trans (contents old.2) (contents mid.2) (contents new.2) a.0 (concat rest.0) a.2.0 rest.2,
      )

-- a reply that reports a failure takes nothing
not_accepted : (given : Reply) → IsSome (failure_in given) → is_accepted given ≡ false
not_accepted (reply.Refused why) k = refl
not_accepted _ k = absurd (false≢true k)

-- lines of which none was answered took nothing
not_taken : (lines : List Line) (answers : List LineAnswer) (more : Told) → AreAnswered lines answers
    → AllByRecursion (λ t. IsSome t) (map (λ command. None) (commands_of lines) ++ more) → has_taken answers ≡ false
not_taken [] [] more each k = refl
not_taken (line.Unread cause ∷ lines) (given ∷ answers) more each k = rw each.0 (not_taken lines answers more each.1 k)
not_taken (line.Note note ∷ lines) (given ∷ answers) more each k = absurd (false≢true k.0)
not_taken [] (given ∷ answers) more each k = absurd each
not_taken (asks ∷ lines) [] more each k = absurd each

list_takes_nothing : (listing : Option Listing) → (list_reply listing).acted ≡ false
list_takes_nothing None = refl
list_takes_nothing (Some listing) = refl

import_takes_nothing : (body : List ℕ) (end : Result (List LineAnswer) ImportFault) (lines : List Line)
    (answers : List LineAnswer) → AreAnswered lines answers → EndsAfter (audit_lines body) end lines answers
    → AllByRecursion (λ t. IsSome t) (told_by_import lines end) → (imported end).acted ≡ false
import_takes_nothing body (Ok given) lines answers each ends k =
    ap has_taken (sym ends.1) ∙ not_taken lines answers (failures_of (Ok given)) each k
import_takes_nothing body (Err (import.File why)) lines answers each ends k = refl
import_takes_nothing body (Err (import.Memory answered taken)) lines answers each ends k =
    sym ends.3 ∙ not_taken lines answers (failures_of (Err (import.Memory answered taken))) each k
import_takes_nothing body (Err (import.Store answered taken)) lines answers each ends k =
    sym ends.3 ∙ not_taken lines answers (failures_of (Err (import.Store answered taken))) each k

task_takes_nothing : (wanted : Task) (body : List ℕ) (h h' : History) (s s' : Stream) (out : FullAnswer) (told : Told)
    → TaskComes wanted body h s out told h' s' → AllByRecursion (λ t. IsSome t) told → out.acted ≡ false
task_takes_nothing (task.Asks (ask.Command command)) body h h' s s' out told came k =
    ap (λ (o : FullAnswer). o.acted) came.2
    ∙ not_accepted came.0 (subst (AllByRecursion (λ t. IsSome t)) came.3 k).0
task_takes_nothing (task.Asks (ask.List its_list)) body h h' s s' out told (inl came, e, f) k =
    ap (λ (o : FullAnswer). o.acted) came.0 ∙ list_takes_nothing (listing_over h its_list)
task_takes_nothing (task.Asks (ask.List its_list)) body h h' s s' out told (inr came, e, f) k =
    ap (λ (o : FullAnswer). o.acted) came.1
task_takes_nothing task.Audit body h h' s s' out told came k =
    ap (λ (o : FullAnswer). o.acted) came.6
    ∙ import_takes_nothing body came.0 came.1 came.2 came.3 came.4 (subst (AllByRecursion (λ t. IsSome t)) came.7 k)

takes_nothing : (wanted : Wanted) (h h' : History) (s s' : Stream) (out : FullAnswer) (told : Told)
    → Comes wanted h s out told h' s' → AllByRecursion (λ t. IsSome t) told → out.acted ≡ false
takes_nothing (Ok given) h h' s s' out told came k = task_takes_nothing given.0 given.1 h h' s s' out told came k
takes_nothing (Err why) h h' s s' out told came k = ap (λ (o : FullAnswer). o.acted) came.0

took_nothing : (end : ConnectionEnd) (h h' : History) (s s' : Stream) (told : Told)
    → ConnectionCame end h s told h' s' → AllByRecursion (λ t. IsSome t) told → TookNothing end
took_nothing None h h' s s' told came k = tt
took_nothing (Some (Ok served)) h h' s s' told came k =
    came.3.1 ∙ takes_nothing came.0 h h' s s' came.1 told came.2 k
took_nothing (Some (Err (Write acted))) h h' s s' told (inl came) k =
    came.3 ∙ takes_nothing came.0 h h' s s' came.1 told came.2 k
took_nothing (Some (Err (Write acted))) h h' s s' told (inr came) k = came.0
took_nothing (Some (Err Closed)) h h' s s' told came k = tt
took_nothing (Some (Err Read)) h h' s s' told came k = tt
took_nothing (Some (Err Memory)) h h' s s' told came k = tt

module _ {S R : Type 0} (K : KeptOf S) (own : BooksOf S) (stream : R → Stream) where
  since_ends : (old new : S × R) (ends : List ConnectionEnd) → Passes (ConnectionHappens K own stream) old ends new
      → Since K old.0 new.0
  since_ends old new [] p = subst (λ (x : S × R). Since K old.0 x.0) (sym p) since_refl
  since_ends old new (end ∷ ends) p =
      since_then (together K old.0 p.0.0 p.1.told p.1.calls).since (since_ends p.0 new ends p.2)

  comes_to_nothing : (old new : S × R) (end : ConnectionEnd)
      → ConnectionHappens K own stream old end new → BeganShut K old.0 new.0 → ComesToNothing end
  comes_to_nothing old new end it shut =
      let went = it.happened shut.0 (start no_rows) none_sound (λ clean. absurd (shut.1 clean)) in
      let fail = shut_fail K old.0 new.0 it.told it.calls shut in (
        start no_rows,
        went.0,
        stream old.1,
        stream new.1,
        it.told,
        went.3,
        fail,
        took_nothing end (start no_rows) went.0 (stream old.1) (stream new.1) it.told went.3 fail,
      )

  pub serves_nothing : ServesNothing K own stream
  serves_nothing old new [] p shut = tt
  serves_nothing old new (end ∷ ends) p shut = (
    comes_to_nothing old p.0 end p.1 ((since_ends p.0 new ends p.2).was_honest shut.0, shut.1),
    serves_nothing p.0 new ends p.2
        (shut.0, λ clean. shut.1 ((together K old.0 p.0.0 p.1.told p.1.calls).since.was_clean clean)),
  )
