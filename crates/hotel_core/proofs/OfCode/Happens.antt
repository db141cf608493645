-- What happened over books, made of its parts.
use Rattle.std.proofs.Common.{◌≡◌, ◌∙◌, Bool, true, false, List, [], ◌∷◌, ◌++◌, length, map, zip, refl, sym, ap, arith}
use Rattle.std.proofs.Common.{subst}
use Rattle.hotel_books.proofs.Names.{Stream, Command, History, Reply, Rows, Runs, Passes, failure_in}
use Rattle.hotel_books.proofs.Names.{StepsIf, false≢true, rows_of, start}
use Rattle.hotel_model.proofs.Starts.StartRows.{rows_of_start}
use Rattle.hotel_model.proofs.{Invariants.Assurance.assured, LeadsOn.leads_of, RefusalsKept.refusals_keep}
use Rattle.hotel_core.specs.Books.Happens.{Happens}
use Rattle.hotel_core.specs.Books.Stepped.{Stepped, RefusalsKeepRows, RunsFollow, StepsLead}
use Rattle.hotel_model.specs.Leads.{Leads}
use Rattle.keycard_rules.specs.Leaves.{Leaves}
use Rattle.keycard_rules.proofs.CallsTogether.{together}
use Rattle.keycard_rules.specs.declared.kept.Kept.{Ghosts as KeptOf}
use Rattle.hotel_books.specs.Books.Stops.{StopsThrough}
use Rattle.hotel_core.proofs.OfCode.StopsAfter.{no_stops}
use Rattle.hotel_books.specs.declared.books.Books.{Ghosts as BooksOf}
use Rattle.hotel_core.proofs.OfCode.StopsAfter.{stops_once, stops_then}

-- what happened over books that are clean as it ends led on from the history that they stood for
pub clean_leads : {S : Type 0} (K : KeptOf S) (rows : S → Rows) {went : History → History → Type 0} {old new : S}
    → Happens K rows old went new → K.is_clean new → Leads (rows old) went (rows new)
clean_leads K rows {new = new} happened clean = leads_of clean (happened (K.clean_honest new clean))

pub steps_lead : {S : Type 0} (K : KeptOf S) (B : BooksOf S) → StepsLead K B
steps_lead K B old new asked step clean = clean_leads K B.rows step.happened clean

pub kept_by : (failed : Bool) (h : History) (s : Stream) (command : Command) (reply : Reply) (h' : History)
    (s' : Stream)
    → failed ≡ true → StepsIf failed h s command reply h' s' → h' ≡ h
kept_by true h s command reply h' s' e step = step.0
kept_by false h s command reply h' s' e step = absurd (false≢true e)

-- sound rows are those of a history
pub refusals_keep_rows : {S : Type 0} (K : KeptOf S) (B : BooksOf S) → RefusalsKeepRows K B
refusals_keep_rows K B old new asked step clean sound tells =
    let h = start (B.rows old.0) in
    let stands = sym (rows_of_start (B.rows old.0) sound) in
    let p = step.happened (K.clean_honest new.0 clean) h sound (λ _. stands) in
    let same = refusals_keep h p.0 old.1 new.1 asked.0 asked.1 p.3 tells in
    p.2 clean ∙ ap rows_of same ∙ sym stands

module _ {S : Type 0} (K : KeptOf S) (B : BooksOf S) where
  -- each command's call
  calls_of : (old new : S × Stream) (commands : List Command) (replies : List Reply)
      → length replies ≡ length commands → Passes (Stepped K B) old (zip commands replies) new
      → Passes (Leaves K) old.0 (map failure_in replies) new.0
  calls_of old new [] [] e p = ap (λ (s : S × Stream). s.0) p
  calls_of old new [] (reply ∷ replies) e p = absurd (omega (arith, e))
  calls_of old new (command ∷ commands) [] e p = absurd (omega (arith, e))
  calls_of old new (command ∷ commands) (reply ∷ replies) e p =
      (p.0.0, p.1.leaves, calls_of p.0 new commands replies (omega (arith, e)) p.2)

  -- each command is a step of the run
  runs : (old new : S × Stream) (commands : List Command) (replies : List Reply)
      → length replies ≡ length commands → Passes (Stepped K B) old (zip commands replies) new
      → Happens K B.rows old.0 (λ h h'. Runs h old.1 commands replies h' new.1) new.0
  runs old new [] [] e p =
      subst (λ (s : S × Stream). Happens K B.rows old.0 (λ h h'. Runs h old.1 [] [] h' s.1) s.0) (sym p)
      (λ honest h reached stands. (h, reached, stands, (refl, refl), assured h reached))
  runs old new [] (reply ∷ replies) e p = absurd (omega (arith, e))
  runs old new (command ∷ commands) [] e p = absurd (omega (arith, e))
  runs old new (command ∷ commands) (reply ∷ replies) e p = λ honest h reached stands.
      let n : length replies ≡ length commands = omega (arith, e) in
      let later = together K p.0.0 new.0 (map failure_in replies) (calls_of p.0 new commands replies n p.2) in
      let k = p.1.happened (later.since.was_honest honest) h reached stands in
      let l = runs p.0 new commands replies n p.2 honest k.0 k.1 k.2 in
      (l.0, l.1, l.2, (k.0, p.0.1, k.3, l.3), l.4)

  -- and each leaves to a stop what a command does
  stops_of : (old new : S × Stream) (asked : List (Command × Reply)) → Passes (Stepped K B) old asked new
      → StopsThrough K B old.0 new.0
  stops_of old new [] p = no_stops (ap (λ (s : S × Stream). s.0) p)
  stops_of old new (first ∷ later) p =
      stops_then (stops_once old.1 first.0 p.1.leaves.since p.1.stop) (stops_of p.0 new later p.2)

  pub runs_follow : RunsFollow K B
  runs_follow old new commands replies r =
      let calls = calls_of old new commands replies r.each r.through in
      record {
        happened = runs old new commands replies r.each r.through;
        led = clean_leads K B.rows (runs old new commands replies r.each r.through);
        calls = calls;
        leaves = together K old.0 new.0 (map failure_in replies) calls;
        stops = stops_of old new (zip commands replies) r.through;
      }

-- two lists of one length beside each other, with one more at the end of each
pub zip-push : {A B : Type 0} (xs : List A) (ys : List B) (x : A) (y : B)
    → length ys ≡ length xs → zip (xs ++ x ∷ []) (ys ++ y ∷ []) ≡ zip xs ys ++ (x, y) ∷ []
zip-push [] [] x y e = refl
zip-push [] (head ∷ ys) x y e = absurd (omega (arith, e))
zip-push (head ∷ xs) [] x y e = absurd (omega (arith, e))
zip-push (first ∷ xs) (second ∷ ys) x y e =
    ap (λ later. (first, second) ∷ later) (zip-push xs ys x y (omega (arith, e)))
