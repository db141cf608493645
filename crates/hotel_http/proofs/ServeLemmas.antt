-- What comes of a request, as it is answered.
use Rattle.std.proofs.Common.{◌≡◌, ◌∙◌, ℕ, List, [], ◌∷◌, refl, sym, ap, subst, inl, inr}
use Rattle.std.proofs.Common.{take}
use Rattle.std.proofs.Common.{Option, Some, None, IfSome, Result, Ok, Err, Bool, false, OnOk, OnErr}
use Rattle.hotel_books.proofs.Names.{Stream, failure_in, History}
use Rattle.keycard_rules.specs.{declared.kept.Kept.Ghosts as KeptOf}
use Rattle.hotel_books.specs.declared.books.Books.{Ghosts as BooksOf}
use Rattle.keycard_rules.specs.declared.issued.LookFault.TheVariants as look
use Rattle.keycard_rules.specs.Calls.{LeaveAll, NoCallFailed, Told}
use Rattle.keycard_rules.proofs.CallsTogether.{together}
use Rattle.hotel_model.proofs.{Invariants.Assurance.assured, LeadsOn.leads_as}
use Rattle.std.specs.Result.{IsErrAnd}
use Rattle.std.specs.Io.KnownBytes.{Appends}
use Rattle.std.proofs.KnownBytes.{Appends-trans}
use Rattle.hotel_model.specs.{declared.command.Command.Command, declared.reply.Reply.Reply}
use Rattle.hotel_core.specs.{Books.Happens.HappensBy, Books.Stepped.Stepped}
use Rattle.hotel_core.proofs.OfCode.StopsAfter.{no_stops, stops_idle, stops_once}
use Rattle.hotel_model.specs.declared.reply.Reply.TheVariants as reply
use Rattle.hotel_streams.specs.{Bytes.AppendsPrefix, declared.calls.WriteFailed.WriteFailed}
use Rattle.hotel_lists.proofs.ToldLemmas.{last_of}
use Rattle.hotel_asks.specs.declared.asked.Ask.TheVariants as ask
use Rattle.hotel_lists.specs.{Listings.Listing, RowLines.ListTold, RowLines.LooksAt, declared.fault.ListFault.ListFault}
use Rattle.hotel_lists.specs.declared.fault.ListFault.TheVariants as fault
use Rattle.hotel_asks.specs.declared.asked.ListAsk.{ListAsk}
use Rattle.hotel_asks.specs.{Listings.listing_on, Listings.listing_over}
use Rattle.hotel_asks.proofs.ListingLemmas.{listing_stands}
use Rattle.hotel_lock.specs.AuditFile.{audit_lines}
use Rattle.hotel_audit.specs.Import.{Imports, told_by_import}
use Rattle.hotel_audit.specs.{declared.answer.LineAnswer.LineAnswer, declared.imports.ImportFault.ImportFault}
use Rattle.hotel_audit.proofs.ImportsLead.{imports_lead}
use Rattle.hotel_http.specs.{declared.rejection.Rejection.Rejection, declared.serve.Cut.Cut}
use Rattle.hotel_http.specs.{declared.serve.Served.Served, declared.status.Status.Status}
use Rattle.hotel_http.specs.{declared.status.Status.TheVariants.Success, declared.requests.Request.Request}
use Rattle.hotel_http.specs.{declared.serve.Exchange.Exchange, declared.serve.ServeFault.ServeFault}
use Rattle.hotel_http.specs.{declared.serve.ServeFault.TheVariants.Write, Answer.list_answer, Body.interim_where}
use Rattle.hotel_http.specs.declared.origins.Origins.{Origins}
use Rattle.hotel_http.specs.Request.{EndsRequest, Requests, wanted_of}
use Rattle.hotel_http.specs.declared.requests.Received.{Received}
use Rattle.hotel_http.specs.Serve.{FullAnswer, full_answer, rejected, replied, imported, list_reply, end_of}
use Rattle.hotel_http.specs.Serve.{ListComes, AskComes, FileComes, TaskComes, Comes, EndsAs, Answered, ended}
use Rattle.hotel_http.specs.Serve.{IsListText, list_refusal, WasAnswered}

-- an answer that was written or not
pub ends_as : (text : List ℕ) (status : Status) (acted : Bool) (written : Result (Unit {0}) WriteFailed)
    (old new : Option (List ℕ)) (end : Result Served Cut)
    → end ≡ ended written status acted
    → OnOk written (Appends old new text) → OnErr written (AppendsPrefix old new text)
    → EndsAs (full_answer text status acted) [] old new end
ends_as text status acted (Ok done) old new end e ok err =
    subst (EndsAs (full_answer text status acted) [] old new) (sym e) (refl, refl, ok)
ends_as text status acted (Err failed) old new end e ok err =
    subst (EndsAs (full_answer text status acted) [] old new) (sym e) (refl, err)

-- a command is carried out
pub command_came : {S : Type 0} {K : KeptOf S} {own : BooksOf S} {a b : S} (s t : Stream) (command : Command)
    (given : Reply) (old new : Option (List ℕ)) (end : Result Served Cut)
    → Stepped K own (a, s) (command, given) (b, t) → EndsAs (replied given) [] old new end
    → HappensBy K own a (Answered (AskComes (ask.Command command)) s t [] old new end) b
command_came {b = b} s t command given old new end step ends = record {
  told = failure_in given ∷ [];
  happened = λ honest. leads_as (λ h h' went. (replied given, (given, went, refl, refl), ends)) (step.happened honest);
  calls = (b, step.leaves, refl);
  stops = stops_once s command step.leaves.since step.stop;
}

-- what is answered of a list's text
abbrev pub out_of : Result (List ℕ) ListFault → FullAnswer
out_of (Ok text) = full_answer (list_answer text) Success false
out_of (Err why) = replied (reply.Refused (list_refusal why))

-- a list's answer, where what it was made of is the listing if no call failed
list_comes : (made : Result (List ℕ) ListFault) (told : Told) (on over : Option Listing)
    → (NoCallFailed told → on ≡ over) → IsListText on made → ListTold (end_of made) told
    → ListComes over (out_of made) told
list_comes (Ok text) told (Some on) over same is none =
    inl (ap (λ (t : List ℕ). full_answer (list_answer t) Success false) is ∙ ap list_reply (same none), none)
list_comes (Ok text) told None over same is none = absurd is
list_comes (Err fault.NoRoom) told on over same is none = inl (ap list_reply (sym is ∙ same none), none)
list_comes (Err fault.Memory) told on over same is t = inr (look.Memory, refl, t)
list_comes (Err fault.Store) told on over same is t = inr (look.Store, refl, t)
list_comes (Err fault.Write) told on over same is t = inr (look.Memory, refl, inl t)

-- a list is answered, and nothing changes
pub list_came : {S : Type 0} {K : KeptOf S} {own : BooksOf S} {a b : S} (its_list : ListAsk)
    (made : Result (List ℕ) ListFault) (old new : Option (List ℕ)) (end : Result Served Cut)
    → ((x y : S) → K.is_kept x y → own.rows y ≡ own.rows x) → LooksAt K a b (end_of made)
    → (K.is_honest b → IsListText (listing_on (own.rows a) its_list) made) → EndsAs (out_of made) [] old new end
    → (s : Stream) → HappensBy K own a (Answered (AskComes (ask.List its_list)) s s [] old new end) b
list_came {K = K} {own = own} {a = a} {b = b} its_list made old new end kept_rows it text ends s = record {
  told = it.told;
  happened = λ honest h reached stands. (
    h,
    reached,
    (λ clean. kept_rows a b (it.kept clean) ∙ stands (all.since.was_clean clean)),
    (
      out_of made,
      (
        list_comes made it.told (listing_on (own.rows a) its_list) (listing_over h its_list)
            (λ none. listing_stands h (own.rows a) its_list
            (reached, stands (all.since.was_clean (all.vouched honest (last_of it.told none))))) (text honest) it.tells,
        refl,
        refl,
      ),
      ends,
    ),
    assured h reached,
  );
  calls = it.calls;
  stops = stops_idle kept_rows all.since it.kept it.stop;
}
  where
    all : LeaveAll K a it.told b
    all = together K a b it.told it.calls

-- an audit file is imported
pub file_came : {S : Type 0} {K : KeptOf S} {own : BooksOf S} {a b : S} (file : List ℕ)
    (import_end : Result (List LineAnswer) ImportFault) (old new : Option (List ℕ)) (end : Result Served Cut)
    → Imports K own (audit_lines file) a b import_end → EndsAs (imported import_end) [] old new end
    → (s : Stream) → HappensBy K own a (Answered (FileComes file) s s [] old new end) b
file_came {K = K} {own = own} {a = a} {b = b} file import_end old new end i ends s =
    let l = imports_lead K own a b (audit_lines file) import_end i in
    record {
      told = told_by_import i.lines import_end;
      happened = λ honest. leads_as (λ h h' went.
          (imported import_end, (import_end, i.lines, i.answers, i.each, i.ends, went, refl, refl, refl), ends))
          (l.happened s honest);
      calls = l.calls;
      stops = l.stops;
    }

-- a rejection changes nothing
pub rejection_came : {S : Type 0} (K : KeptOf S) (own : BooksOf S) (a : S) (s : Stream) (why : Rejection)
    (old new : Option (List ℕ)) (end : Result Served Cut)
    → EndsAs (rejected why) [] old new end → HappensBy K own a (Answered (Comes (Err why)) s s [] old new end) a
rejection_came K own a s why old new end ends = record {
  told = [];
  happened = λ honest h reached stands.
      (h, reached, stands, (rejected why, (refl, refl, refl, refl), ends), assured h reached);
  calls = refl;
  stops = no_stops refl;
}

-- the answer stands behind an interim one
after_interim : (before : List ℕ) (out : FullAnswer) (old mid new : Option (List ℕ)) (end : Result Served Cut)
    → Appends old mid before → EndsAs out [] mid new end
    → EndsAs out before old new end
after_interim before out old mid new (Ok served) first ends =
    (ends.0, ends.1, Appends-trans old mid new before out.text first ends.2)
after_interim before out old mid new (Err cut) first ends =
    (ends.0, (ends.1.0, ends.1.1, Appends-trans old mid new before (take ends.1.0 out.text) first ends.1.2))

pub behind_interim : {S : Type 0} {K : KeptOf S} {own : BooksOf S} {a b : S}
    (came : History → Stream → FullAnswer → Told → History → Stream → Type 0) (s t : Stream) (before : List ℕ)
    (old mid new : Option (List ℕ)) (end : Result Served Cut) → Appends old mid before
    → HappensBy K own a (Answered came s t [] mid new end) b
    → HappensBy K own a (Answered came s t before old new end) b
behind_interim came s t before old mid new end first it = record {
  told = it.told;
  happened = λ honest. leads_as (λ h h' went.
      (went.0, went.1, after_interim before went.0 old mid new end first went.2)) (it.happened honest);
  calls = it.calls;
  stops = it.stops;
}

-- a request that was read is answered
pub request_served : (origins : Origins) {S : Type 0} (K : KeptOf S) (own : BooksOf S) (a b : S) (s t : Stream)
    (known left old mid new : Option (List ℕ)) (got : Received) (request : Request) (end : Result Served Cut)
    → got.asks ≡ Ok request → EndsRequest origins known left old mid (Ok got)
    → HappensBy K own a (Answered (TaskComes request.task request.body.items) s t [] mid new end) b
    → WasAnswered origins known (λ wanted awaited ends. HappensBy K own a
    (Answered (Comes wanted) s t (interim_where awaited) old new ends) b) end
request_served origins K own a b s t known left old mid new got request end is (awaited, first, requests) went = (
  Ok (request.task, request.body.items),
  awaited,
  subst (λ (asks : Result Request Rejection). IfSome known
      (λ input. Requests origins input awaited (wanted_of asks))) is requests,
  behind_interim (TaskComes request.task request.body.items) s t (interim_where awaited) old mid new end first went,
)

-- a rejection is answered
pub rejection_served : (origins : Origins) {S : Type 0} (K : KeptOf S) (own : BooksOf S) (a : S) (s : Stream)
    (known left old mid new : Option (List ℕ)) (got : Received) (why : Rejection) (end : Result Served Cut)
    → got.asks ≡ Err why → EndsRequest origins known left old mid (Ok got) → EndsAs (rejected why) [] mid new end
    → WasAnswered origins known (λ wanted awaited ends. HappensBy K own a
    (Answered (Comes wanted) s s (interim_where awaited) old new ends) a) end
rejection_served origins K own a s known left old mid new got why end is (awaited, first, requests) ends = (
  Err why,
  awaited,
  subst (λ (asks : Result Request Rejection). IfSome known
      (λ input. Requests origins input awaited (wanted_of asks))) is requests,
  behind_interim (Comes (Err why)) s s (interim_where awaited) old mid new end first
      (rejection_came K own a s why mid new end ends),
)

-- the fault of an answer that was cut
pub is_cut : (r : Result Exchange ServeFault) (acted : Bool) → IsErrAnd r (λ e. e ≡ Write acted) → r ≡ Err (Write acted)
is_cut (Ok done) acted p = absurd p
is_cut (Err e) acted p = ap (λ (f : ServeFault). Err f) p
