-- Requests over books that stand in a building.
use Rattle.std.proofs.Common.{ℕ, Bool, List, Option, Result, Ok, Err, inl, inr}
use Rattle.rand_core.specs.Stream.{Stream}
use Rattle.keycard_rules.specs.{declared.kept.Kept.Ghosts as KeptOf, Calls.Told}
use Rattle.hotel_books.specs.declared.books.Books.{Ghosts as BooksOf}
use Rattle.hotel_core.specs.Books.Happens.{HappensBy}
use Rattle.hotel_model.specs.History.{History}
use Rattle.hotel_asks.specs.declared.asked.Ask.TheVariants as ask
use Rattle.hotel_lock.specs.AuditFile.{audit_lines}
use Rattle.hotel_audit.specs.Import.{commands_of, replies_in}
use Rattle.hotel_http.specs.{declared.origins.Origins.Origins, declared.serve.Served.Served}
use Rattle.hotel_http.specs.declared.serve.ServeFault.{ServeFault}
use Rattle.hotel_http.specs.declared.tasks.Task.TheVariants as task
use Rattle.hotel_http.specs.declared.serve.ServeFault.TheVariants.{Closed, Read, Memory, Write}
use Rattle.hotel_http.specs.{Body.interim_where, Request.Wanted}
use Rattle.hotel_http.specs.Serve.{AnswerEnd, Answered, Comes, FullAnswer, ServesOver}
use Rattle.hotel_building.specs.Calls.{Houses}
use Rattle.building_calls.specs.{Stands.InBuildings, Stands.StaysIn, Requests.MayWant, Requests.RequestsStay}
use Rattle.building_calls.specs.Requests.{ServedIn}
use Rattle.building_calls.proofs.Stays.{Known, LeadsOut, by_calls, stay_out, stays_by}
use Rattle.building_calls.proofs.{CallsStay.run_out, CallsStay.step_out, ImportsStay.may_lines}

-- what comes of what a request asks for
pub wanted_out : (houses : Houses) → Known houses → (wanted : Wanted) (s s' : Stream) (out : FullAnswer) (told : Told)
    → LeadsOut houses (λ b. MayWant houses b s wanted) (λ h h'. Comes wanted h s out told h' s')
wanted_out houses facts (Ok (task.Asks (ask.Command command), body)) s s' out told b later ok may reached came =
    step_out houses facts s s' command came.0 b later ok may reached came.1
wanted_out houses facts (Ok (task.Asks (ask.List its_list), body)) s s' out told b later ok may reached came =
    stay_out houses b later ok came.1
wanted_out houses facts (Ok (task.Audit, body)) s s' out told b later ok may reached
    (end, lines, answers, each, ends, runs, more, by, same) =
    run_out houses facts s s (commands_of lines) (replies_in answers) b later ok
    (may_lines houses b s (audit_lines body) end lines answers ends may) reached runs
wanted_out houses facts (Err why) s s' out told b later ok may reached came = stay_out houses b later ok came.2

-- a request that was answered, in a building
module _ (houses : Houses) (facts : Known houses) {S R : Type 0} (K : KeptOf S) (own : BooksOf S) (words : R → Stream)
    (origins : Origins) (known left written new : Option (List ℕ)) (before after : S × R) where
  abbrev went_so : Wanted → Bool → AnswerEnd → History → History → Type 0
  went_so wanted awaited ended h h' = (told : Told) × Answered (Comes wanted) (words before.1) (words after.1)
      (interim_where awaited) written new ended told h h'

  answer_out : (wanted : Wanted) (awaited : Bool) (ended : AnswerEnd)
      → LeadsOut houses (λ b. MayWant houses b (words before.1) wanted) (went_so wanted awaited ended)
  answer_out wanted awaited ended b later ok may reached (told, went) =
      wanted_out houses facts wanted (words before.1) (words after.1) went.0 told b later ok may reached went.1

  answered_in : (wanted : Wanted) (awaited : Bool) (ended : AnswerEnd)
      → HappensBy K own before.0 (Answered (Comes wanted) (words before.1) (words after.1) (interim_where awaited)
      written new ended) after.0
      → StaysIn houses K own.rows before.0 (λ b. MayWant houses b (words before.1) wanted)
      (went_so wanted awaited ended) after.0
  answered_in wanted awaited ended by = stays_by houses facts K own.rows _ (went_so wanted awaited ended) before.0
      after.0 (answer_out wanted awaited ended)
      (by_calls K own _ (went_so wanted awaited ended) before.0 after.0 (λ told h h' went. (told, went)) by)

  served_in_building : (end : Result Served ServeFault)
      → ServesOver origins K own words known left written new before after end
      → InBuildings houses K own.rows before.0
      (ServedIn houses K own words origins known left written new before after end) after.0
  served_in_building (Ok served) (wanted, awaited, asks, by) b ok stands honest =
      (wanted, awaited, asks, answered_in wanted awaited (Ok served) by b ok stands honest)
  served_in_building (Err (Write acted)) (inl (wanted, awaited, asks, by)) b ok stands honest =
      inl (wanted, awaited, asks, answered_in wanted awaited (Err (record { acted = acted })) by b ok stands honest)
  served_in_building (Err (Write acted)) (inr none) b ok stands honest = inr none
  served_in_building (Err Closed) none b ok stands honest = none
  served_in_building (Err Read) none b ok stands honest = none
  served_in_building (Err Memory) none b ok stands honest = none

pub requests_stay : (houses : Houses) → Known houses → {S R : Type 0} (K : KeptOf S) (own : BooksOf S)
    (words : R → Stream) → RequestsStay houses K own words
requests_stay houses facts K own words origins known left written new before after end serves =
    served_in_building houses facts K own words origins known left written new before after end serves
