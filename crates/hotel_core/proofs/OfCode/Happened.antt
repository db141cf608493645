-- What happened, also where books failed for good.
use Rattle.std.proofs.Common.{◌≡◌, ◌⊎◌, Bool, true, false, inl, inr, refl, ap, sym, ◌∙◌, subst, arith}
use Rattle.hotel_core.specs.Refinement.StepOnRows.{IsMadeWith, StopsIn}
use Rattle.hotel_books.specs.Books.Stops.{StopsStep}
use Rattle.hotel_model.specs.Leads.{Leads}
use Rattle.hotel_books.proofs.Names.{Change, Outcome, Rows, answered, grown, made, made_by, past}
use Rattle.hotel_books.proofs.Names.{Stream, words, Command, Reply, History, rows_of, Reached, Steps, StepsIf}
use Rattle.hotel_books.proofs.Names.{IsCommand, IsReply, is_failed, outcome_on, GoesIf, Assured}
use Rattle.hotel_core.specs.Refinement.StepOnRows.{StepsAs}
use Rattle.hotel_books.specs.declared.books.Books.{Ghosts as BooksOf}
use Rattle.keycard_rules.proofs.Drawing.{past-zero}
use Rattle.keycard_rules.specs.Draw.{MovedAtMost}
use Rattle.keycard_rules.specs.declared.kept.Kept.{Ghosts as KeptOf}
use Rattle.hotel_model.proofs.{Lifted.Runs.steps_lift, Invariants.Assurance.assured}
use Rattle.hotel_core.proofs.OfCode.FailuresCounted.{failed_same}

-- a step that didn't fail ended clean and went from the history; one that failed moved the source by no more than it
-- may
step_went : {S : Type 0} {K : KeptOf S} {B : BooksOf S} {old new : S} (h : History) (s s' : Stream)
    (command : Command) (reply : Reply)
    → IsCommand command → IsReply reply
    → StepsAs K B (λ rows. outcome_on rows (words 64 s) command) old new s s' reply → K.is_honest new
    → Reached h → (K.is_clean old → B.rows old ≡ rows_of h)
    → (h' : History) × Reached h' × (K.is_clean new → B.rows new ≡ rows_of h')
    × Steps h s command reply h' s' × Assured h'
step_went {K = K} {B = B} {old = old} {new = new} h s s' command reply n r t honest reached stands =
    by (is_failed reply) refl
  where
    by : (b : Bool) → is_failed reply ≡ b → (h' : History) × Reached h' × (K.is_clean new → B.rows new ≡ rows_of h')
        × Steps h s command reply h' s' × Assured h'
    by false k =
        let clean = t.vouched honest k in
        let went = steps_lift h (B.rows old) s command reply (B.rows new) s'
        (reached, stands (t.since.was_clean clean)) n r (t.goes clean) in
        (went.0, went.1.0, (λ _. went.1.1), went.2, assured went.0 went.1.0)
    by true k = moved_by k (t.moved honest k)
      where
        same : is_failed reply ≡ true → K.is_clean new → B.rows new ≡ B.rows old
        same k clean = failed_same reply (outcome_on (B.rows old) (words 64 s) command) (B.rows old)
            (B.rows new) s s' k (t.goes clean)

        moved_by : is_failed reply ≡ true
            → (s' ≡ s) ⊎ (K.is_clean old × MovedAtMost (outcome_on (B.rows old) (words 64 s) command).examined s s')
            → (h' : History) × Reached h' × (K.is_clean new → B.rows new ≡ rows_of h')
            × Steps h s command reply h' s' × Assured h'
        moved_by k (inl e) = (
          h,
          reached,
          (λ clean. same k clean ∙ stands (t.since.was_clean clean)),
          subst (λ b. StepsIf b h s command reply h s') (sym k) (refl, (0, omega arith, e ∙ sym (past-zero s))),
          assured h reached,
        )
        moved_by k (inr (clean, m)) =
            let o = outcome_on (B.rows old) (words 64 s) command in
            let went = steps_lift h (B.rows old) s command reply (B.rows old) s' (reached, stands clean) n r
            (subst (λ b. GoesIf b o (B.rows old) s reply (B.rows old) s') (sym k) (refl, m)) in
            (went.0, went.1.0, (λ now. same k now ∙ went.1.1), went.2, assured went.0 went.1.0)

-- a stop in a step leaves nothing new, or the change of the model's answer
pub step_stops : {S : Type 0} {K : KeptOf S} {B : BooksOf S} {old new : S} (s : Stream) {s' : Stream}
    (command : Command) {reply : Reply}
    → IsCommand command → StepsAs K B (λ rows. outcome_on rows (words 64 s) command) old new s s' reply
    → StopsStep K B old s command new
step_stops {K = K} {B = B} {old = old} {new = new} s command n t = by t.stop
  where
    rows : Rows
    rows = B.rows old

    o : Outcome Change
    o = outcome_on rows (words 64 s) command

    leads : (change : Change) → IsMadeWith change o
        → Leads rows (λ h h'. h' ≡ grown h (answered h s command).happens) (made change rows)
    leads change is h stands =
        let later : Rows = made change rows in
        let rest = past o.examined s in
        let went = steps_lift h rows s command o.reply later rest stands n is.1
        (subst (λ b. GoesIf b o rows s o.reply later rest) (sym is.2)
        (refl, ap (λ x. made_by x rows) (sym is.0), refl)) in
        let stepped : StepsIf false h s command o.reply went.0 rest =
        subst (λ b. StepsIf b h s command o.reply went.0 rest) is.2 went.2 in
        (went.0, went.1, stepped.1, assured went.0 went.1.0)

    by : StopsIn K B (λ rows. outcome_on rows (words 64 s) command) old new → StopsStep K B old s command new
    by (inl none) = inl none
    by (inr (change, stop, made_with)) =
        inr (change, stop, λ honest clean. leads change (made_with honest clean))

-- the same, where the reply is what was given
pub step_happened : {S : Type 0} {K : KeptOf S} {B : BooksOf S} {old new : S} {s s' : Stream} {given : Reply}
    (h : History) (command : Command) (reply : Reply)
    → IsCommand command → IsReply reply → reply ≡ given
    → StepsAs K B (λ rows. outcome_on rows (words 64 s) command) old new s s' given → K.is_honest new
    → Reached h → (K.is_clean old → B.rows old ≡ rows_of h)
    → (h' : History) × Reached h' × (K.is_clean new → B.rows new ≡ rows_of h')
    × Steps h s command reply h' s' × Assured h'
step_happened {K = K} {B = B} {old = old} {new = new} {s = s} {s' = s'} h command reply n r e t honest reached stands =
    step_went h s s' command reply n r
    (subst (λ answer. StepsAs K B (λ rows. outcome_on rows (words 64 s) command) old new s s' answer) (sym e) t) honest
    reached stands
