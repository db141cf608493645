-- The answer to what a line asks for, as it is written.
use Rattle.std.proofs.Common.{◌≡◌, ◌∙◌, ℕ, Bool, true, false, List, [], ◌∷◌, refl, subst, Option, Some, inl}
use Rattle.std.proofs.Common.{None, Result, Ok, Err, OnOk, OnErr}
use Rattle.std.specs.Option.{IsSomeAnd}
use Rattle.std.specs.Io.KnownBytes.{Appends}
use Rattle.rand_core.specs.Stream.{Stream}
use Rattle.keycard_rules.specs.{declared.kept.Kept.Ghosts as KeptOf, Calls.LeaveAll}
use Rattle.hotel_books.specs.declared.books.Books.{Ghosts as BooksOf}
use Rattle.keycard_rules.proofs.CallsTogether.{together}
use Rattle.hotel_model.proofs.{Invariants.Assurance.assured, LeadsOn.leads_as}
use Rattle.hotel_books.specs.Books.Failures.{failure_in}
use Rattle.hotel_core.specs.Books.Stepped.{Stepped}
use Rattle.hotel_model.specs.declared.command.Command.{Command}
use Rattle.hotel_model.specs.declared.reply.Reply.{Reply}
use Rattle.hotel_model.specs.declared.reply.Refusal.TheVariants as refusal
use Rattle.hotel_model.specs.History.{History}
use Rattle.hotel_core.specs.Texts.{reply_text}
use Rattle.hotel_streams.specs.{Bytes.AppendsPrefix, declared.calls.WriteFailed.WriteFailed}
use Rattle.hotel_lists.specs.RowLines.{LooksAt}
use Rattle.hotel_lists.specs.declared.fault.ListFault.{ListFault}
use Rattle.hotel_lists.proofs.ToldLemmas.{last_of}
use Rattle.hotel_asks.specs.Asks.{ask_copies}
use Rattle.hotel_asks.specs.Listings.{listing_on}
use Rattle.hotel_asks.specs.declared.asked.Ask.{Ask}
use Rattle.hotel_asks.specs.declared.asked.Ask.TheVariants as ask
use Rattle.hotel_asks.specs.declared.asked.ListAsk.{ListAsk}
use Rattle.hotel_asks.proofs.ListingLemmas.{listing_stands}
use Rattle.hotel_core.specs.Books.Happens.{HappensBy}
use Rattle.hotel_core.proofs.OfCode.StopsAfter.{no_stops, stops_idle, stops_once}
use Rattle.hotel_program.specs.Script.LineAnswers.{AskAnswered, AskEnds, AskGoes, ListAsked, Sure, unread_text}
use Rattle.hotel_program.specs.Script.ListAnswers.{refusal_text, tells_failure}
use Rattle.hotel_program.proofs.OfScript.ListAnswerLemmas.{ListWritten, Whole}
use Rattle.hotel_program.proofs.OfScript.ScriptLemmas.{ask_without_memory}

-- a command is carried out
pub command_ends : {S : Type 0} {K : KeptOf S} {own : BooksOf S} {a b : S} (s t : Stream) (command : Command)
    (reply : Reply) (old new : Option (List ℕ)) (written : Result (Unit {0}) WriteFailed)
    → Stepped K own (a, s) (command, reply) (b, t)
    → OnOk written (Appends old new (reply_text reply)) → OnErr written (AppendsPrefix old new (reply_text reply))
    → HappensBy K own a (AskEnds (Some (ask.Command command)) s t old new written (K.is_clean a)) b
command_ends {b = b} s t command reply old new (Ok done) step whole prefix = record {
  told = failure_in reply ∷ [];
  happened = λ honest. leads_as (λ h h' went. (reply_text reply, (reply, went, refl, inl refl), (whole, tt)))
      (step.happened honest);
  calls = (b, step.leaves, refl);
  stops = stops_once s command step.leaves.since step.stop;
}
command_ends {b = b} s t command reply old new (Err cut) step whole prefix = record {
  told = failure_in reply ∷ [];
  happened = λ honest. leads_as (λ h h' went. (reply_text reply, (reply, went, refl, inl refl), prefix))
      (step.happened honest);
  calls = (b, step.leaves, refl);
  stops = stops_once s command step.leaves.since step.stop;
}

either : {C : Type 0} (b : Bool) → (b ≡ true → C) → (b ≡ false → C) → C
either true f g = f refl
either false f g = g refl

-- what the calls of a list leave together
all_left : {S : Type 0} {K : KeptOf S} {a b : S} {end : Result (Unit {0}) ListFault} (looks : LooksAt K a b end)
    → LeaveAll K a looks.told b
all_left {K = K} {a = a} {b = b} looks = together K a b looks.told looks.calls

module _ {S : Type 0} {K : KeptOf S} {own : BooksOf S} {a b : S} {end : Result (Unit {0}) ListFault}
    (its_list : ListAsk) (kept_rows : (x y : S) → K.is_kept x y → own.rows y ≡ own.rows x)
    (looks : LooksAt K a b end) where
  -- a list is cut short, and nothing happens
  pub list_cut : (s : Stream) (old new : Option (List ℕ))
      → (K.is_honest b → ListWritten (listing_on (own.rows a) its_list) (AppendsPrefix old new) looks.told)
      → HappensBy K own a (AskAnswered (λ text. K.is_clean a) (AppendsPrefix old new) (Some (ask.List its_list)) s s) b
  list_cut s old new prefix = record {
    told = looks.told;
    happened = λ honest h reached stands.
        let it = prefix honest in (
          h,
          reached,
          (λ clean. kept_rows a b (looks.kept clean) ∙ stands ((all_left looks).since.was_clean clean)),
          (
            it.0,
            (
              listing_on (own.rows a) its_list,
              it.1,
              (λ clean. listing_stands h (own.rows a) its_list (reached, stands clean)),
              refl,
              refl,
            ),
            it.2,
          ),
          assured h reached,
        );
    calls = looks.calls;
    stops = stops_idle kept_rows (all_left looks).since looks.kept looks.stop;
  }

  -- a list is answered, and nothing happens
  pub list_ends : (s : Stream) (old new : Option (List ℕ)) (written : Result (Unit {0}) WriteFailed)
      → (K.is_honest b → OnOk written (ListWritten (listing_on (own.rows a) its_list) (Whole old new looks.told)
      looks.told))
      → (K.is_honest b → OnErr written (ListWritten (listing_on (own.rows a) its_list) (AppendsPrefix old new)
      looks.told))
      → HappensBy K own a (AskEnds (Some (ask.List its_list)) s s old new written (K.is_clean a)) b
  list_ends s old new (Ok done) whole prefix = record {
    told = looks.told;
    happened = λ honest h reached stands.
        let it = whole honest in
        let vouched = λ (k : tells_failure it.0 ≡ false). (all_left looks).since.was_clean
        ((all_left looks).vouched honest (last_of looks.told (it.2.1 k))) in (
          h,
          reached,
          (λ clean. kept_rows a b (looks.kept clean) ∙ stands ((all_left looks).since.was_clean clean)),
          (
            it.0,
            (
              listing_on (own.rows a) its_list,
              it.1,
              (λ sure. listing_stands h (own.rows a) its_list
                  (reached, stands (either (tells_failure it.0) sure vouched))),
              refl,
              refl,
            ),
            (it.2.0, λ k. (it.2.1 k).0),
          ),
          assured h reached,
        );
    calls = looks.calls;
    stops = stops_idle kept_rows (all_left looks).since looks.kept looks.stop;
  }
  list_ends s old new (Err cut) whole prefix = list_cut s old new prefix

-- nothing was asked of the books, and nothing happens
quiet_ends : {S : Type 0} {K : KeptOf S} {own : BooksOf S} (a : S) (wanted : Option Ask) (s : Stream) (text : List ℕ)
    (old new : Option (List ℕ)) (written : Result (Unit {0}) WriteFailed)
    → ((sure : List ℕ → Type 0) (h : History) → AskGoes sure wanted h s text [] h s) → ListAsked wanted text []
    → OnOk written (Appends old new text) → OnErr written (AppendsPrefix old new text)
    → HappensBy K own a (AskEnds wanted s s old new written (K.is_clean a)) a
quiet_ends {K = K} a wanted s text old new (Ok done) goes list whole prefix = record {
  told = [];
  happened = λ honest h reached stands.
      (h, reached, stands, (text, goes (Sure (K.is_clean a)) h, (whole, list)), assured h reached);
  calls = refl;
  stops = no_stops refl;
}
quiet_ends {K = K} a wanted s text old new (Err cut) goes list whole prefix = record {
  told = [];
  happened = λ honest h reached stands.
      (h, reached, stands, (text, goes (λ t. K.is_clean a) h, prefix), assured h reached);
  calls = refl;
  stops = no_stops refl;
}

-- an unread line is answered
pub unread_ends : {S : Type 0} {K : KeptOf S} {own : BooksOf S} (a : S) (wanted : Option Ask) (s : Stream)
    (old new : Option (List ℕ)) (written : Result (Unit {0}) WriteFailed) → None ≡ wanted
    → OnOk written (Appends old new unread_text) → OnErr written (AppendsPrefix old new unread_text)
    → HappensBy K own a (AskEnds wanted s s old new written (K.is_clean a)) a
unread_ends {K = K} {own = own} a wanted s old new written e whole prefix =
    subst (λ (w : Option Ask). HappensBy K own a (AskEnds w s s old new written (K.is_clean a)) a) e
    (quiet_ends a None s unread_text old new written (λ sure h. (refl, refl, refl, refl)) tt whole prefix)

no_list : (wanted : Option Ask) (text : List ℕ)
    → IsSomeAnd wanted (λ asked. ask_copies asked ≡ true) → ListAsked wanted text []
no_list None text p = tt
no_list (Some (ask.Command command)) text p = tt
no_list (Some (ask.List its_list)) text p = cc p

-- a line for which there was no memory is answered
pub memory_ends : {S : Type 0} {K : KeptOf S} {own : BooksOf S} (a : S) (wanted : Option Ask) (s : Stream)
    (old new : Option (List ℕ)) (written : Result (Unit {0}) WriteFailed)
    → IsSomeAnd wanted (λ asked. ask_copies asked ≡ true)
    → OnOk written (Appends old new (refusal_text refusal.Memory))
    → OnErr written (AppendsPrefix old new (refusal_text refusal.Memory))
    → HappensBy K own a (AskEnds wanted s s old new written (K.is_clean a)) a
memory_ends a wanted s old new written copied whole prefix =
    quiet_ends a wanted s (refusal_text refusal.Memory) old new written
    (λ sure h. ask_without_memory sure wanted h s copied) (no_list wanted (refusal_text refusal.Memory) copied) whole
    prefix
