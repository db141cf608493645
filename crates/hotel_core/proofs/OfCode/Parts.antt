-- The parts of a step, one after the other.
use Rattle.std.proofs.Common.{ℕ, ◌≡◌, Bool, true, false, Option, Some, None, Result, Ok, Err, refl, ap, sym, ◌∙◌}
use Rattle.std.proofs.Common.{arith, subst, IsErrAnd, List, [], ◌∷◌, ◌++◌, ◌+◌, ◌⊎◌, inl, inr, nat_lt, cond}
use Rattle.hotel_books.proofs.Names.{false≢true, Stream, past, Counts, LookFault, Since, since_refl, since_then, one_of}
use Rattle.hotel_books.proofs.Names.{Change, Reply, Refused, Refusal, Store, Rows, number_after, is_failed, Outcome}
use Rattle.hotel_books.proofs.Names.{refused, accepted, unless, made, GoesIf, Goes, made_by, AreWhole, Finds}
use Rattle.hotel_core.specs.Refinement.StepOnRows.{StepsAs}
use Rattle.keycard_rules.proofs.{Sinces.stays_then, CallsTogether.counted_told, CallsTogether.counted_none}
use Rattle.hotel_core.proofs.OfCode.Counting.{faults, none_more, tells, untold}
use Rattle.keycard_rules.specs.{Leaves.Leaves, Leaves.StaysClean}
use Rattle.hotel_books.specs.Books.Changes.{ChangesAfter}
use Rattle.hotel_core.specs.Refinement.StepOnRows.{StopsIn}
use Rattle.hotel_core.specs.Refinement.StepOnRows.{IsMadeWith}
use Rattle.hotel_model.specs.Ranges.{IsReply}
use Rattle.hotel_books.proofs.Names.{AnyRows, failure_in, reply_of, refusal_of, first_refusal}
use Rattle.hotel_books.specs.declared.books.Books.{Ghosts as BooksOf}
use Rattle.keycard_rules.proofs.Drawing.{past-zero}
use Rattle.keycard_rules.specs.Draw.{MovedAtMost}
use Rattle.keycard_rules.specs.declared.kept.Kept.{Ghosts as KeptOf}

-- From the state start to now no row changed, and this is known of the rows at the start, if the state is clean now;
-- no failure was counted; a stop leaves nothing new; and where v is true the books were asked, and it is clean now if
-- it is honest.
pub record SoFar {S : Type 0} (K : KeptOf S) (B : BooksOf S) (v : Bool) (facts : Rows → Type 0)
    (start now : S) : Type 0 where
  pub facts_hold : K.is_clean now → facts (B.rows start)
  pub same : K.is_clean now → B.rows now ≡ B.rows start
  pub since : Since K start now
  pub vouched : v ≡ true → K.is_honest now → K.is_clean now
  pub stays : K.is_honest now → K.is_clean start → K.is_clean now
  pub counted : K.is_honest now → (why : LookFault) → K.failures now why ≡ K.failures start why
  pub stop : K.leaves_no_more start now

-- at the start this is known
pub given : {S : Type 0} {K : KeptOf S} {B : BooksOf S} (facts : Rows → Type 0) {start : S}
    → (K.is_clean start → facts (B.rows start)) → SoFar K B false facts start start
given {K = K} facts {start = start} h = record {
  facts_hold = h;
  same = λ _. refl;
  since = since_refl;
  vouched = λ e. absurd (false≢true e);
  stays = λ _ clean. clean;
  counted = λ honest why. refl;
  stop = K.no_more_refl start;
}

-- at the start nothing is known
pub begun : {S : Type 0} {K : KeptOf S} {B : BooksOf S} {start : S} → SoFar K B false AnyRows start start
begun = given AnyRows (λ _. tt)

-- the facts, in the rows as they are now
pub at_now : {S : Type 0} {K : KeptOf S} {B : BooksOf S} {v : Bool} {facts : Rows → Type 0} {start now : S}
    → SoFar K B v facts start now → K.is_clean now → facts (B.rows now)
at_now {facts = facts} s clean = subst facts (sym (s.same clean)) (s.facts_hold clean)

-- what was clean at the start is so now
pub stays_so : {S : Type 0} {K : KeptOf S} {B : BooksOf S} {v : Bool} {facts : Rows → Type 0} {start now : S}
    → SoFar K B v facts start now → K.is_honest now → StaysClean K start now
stays_so s honest clean = inl (s.stays honest clean)

-- what stayed clean up to a call stays so after it
pub stayed : {S : Type 0} {K : KeptOf S} {B : BooksOf S} {v : Bool} {facts : Rows → Type 0} {start old new : S}
    → SoFar K B v facts start old → Since K old new → (K.is_honest new → StaysClean K old new)
    → K.is_honest new → StaysClean K start new
stayed s since stays honest = stays_then (stays_so s (since.was_honest honest)) since (stays honest) s.since

-- something more is known, by a call that reported no failure
pub then_asked : {S : Type 0} {K : KeptOf S} {B : BooksOf S} {v : Bool} {facts more : Rows → Type 0} {start old new : S}
    → SoFar K B v facts start old → (K.is_clean new → B.rows new ≡ B.rows old) → Leaves K old None new
    → K.leaves_no_more old new → (K.is_clean old → K.is_clean new → more (B.rows start)) → SoFar K B true more start new
then_asked {K = K} s same l stop known = record {
  facts_hold = λ clean. known (l.since.was_clean clean) clean;
  same = λ clean. same clean ∙ s.same (l.since.was_clean clean);
  since = since_then s.since l.since;
  vouched = λ _ honest. l.vouched honest refl;
  stays = λ honest _. l.vouched honest refl;
  counted = λ honest why. counted_none why _ _ _ (s.counted (l.since.was_honest honest) why) (l.counted honest why);
  stop = K.no_more_trans _ _ _ s.stop stop;
}

-- what a search leaves that found something
pub leaves_found : {S A : Type 0} {K : KeptOf S} {B : BooksOf S} {are_whole : Rows → Type 0} {why : Refusal}
    {wanted : Rows → Option A} {old new : S} {a : A} → Finds K B are_whole why wanted old new (Ok a)
    → Leaves K old None new
leaves_found f = record {
  since = f.since;
  counted = λ honest. f.counted honest (λ k. absurd (false≢true k));
  vouched = λ honest _. f.vouched honest refl;
  stays = f.stays;
}

-- something was found
pub then_found : {S A : Type 0} {K : KeptOf S} {B : BooksOf S} {v : Bool} {facts : Rows → Type 0}
    {are_whole : Rows → Type 0} {why : Refusal} {wanted : Rows → Option A} {start old new : S} {a : A}
    → SoFar K B v facts start old → Finds K B are_whole why wanted old new (Ok a)
    → SoFar K B true (λ rs. facts rs × (wanted rs ≡ Some a)) start new
then_found {wanted = wanted} s f = then_asked s f.same (leaves_found f) f.stop
    (λ before clean. (s.facts_hold before, ap wanted (sym (s.same before)) ∙ f.answer clean))

goes_at : (b : Bool) (o : Outcome Change) (rows later : Rows) (source : Stream) (why : Refusal)
    → (b ≡ false → o ≡ refused why) → later ≡ rows → GoesIf b o rows source (Refused why) later source
goes_at true o rows later source why h same = (same, (0, omega arith, sym (past-zero source)))
goes_at false o rows later source why h same =
    let e = h refl in (
      sym (ap (λ x. x.reply) e),
      same ∙ ap (λ x. made_by x.happens rows) (sym e),
      sym (past-zero source) ∙ ap (λ x. past x.examined source) (sym e),
    )

-- nothing was found, or the search failed
stopped_by : {S A : Type 0} {K : KeptOf S} {B : BooksOf S} {v : Bool} {facts : Rows → Type 0}
    {are_whole : Rows → Type 0} {why : Refusal} {wanted : Rows → Option A} {start old new : S} {e : Refusal}
    {outcome : Rows → Outcome Change} {source : Stream}
    → SoFar K B v facts start old → Finds K B are_whole why wanted old new (Err e)
    → (AreWhole (B.rows start) → facts (B.rows start) → are_whole (B.rows start))
    → (facts (B.rows start) → wanted (B.rows start) ≡ None → is_failed (Refused why) ≡ false
    → outcome (B.rows start) ≡ refused why)
    → StepsAs K B outcome start new source source (Refused e)
stopped_by {K = K} {B = B} {are_whole = are_whole} {wanted = wanted} {start = start} {old = old} {new = new} {e = e}
    {outcome = outcome} {source = source} s f whole h = record {
      goes = λ clean. goes_at (is_failed (Refused e)) (outcome (B.rows start)) (B.rows start) (B.rows new) source e
          (λ k. let a = f.answer clean k in
          h (s.facts_hold (f.since.was_clean clean)) (ap wanted (sym (s.same (f.since.was_clean clean)))
          ∙ a.0) (ap (λ x. is_failed (Refused x)) (sym a.1) ∙ k) ∙ ap refused (sym a.1))
          (f.same clean ∙ s.same (f.since.was_clean clean));
      since = since_then s.since f.since;
      vouched = λ honest k. f.vouched honest k;
      stays = stayed s f.since f.stays;
      moved = λ honest k. inl refl;
      counted = λ honest w why. counted_told (failure_in (Refused e)) why _ _ _
          (s.counted (f.since.was_honest honest) why) (f.counted honest (λ k before. subst are_whole
          (sym (s.same before)) (whole (w (s.since.was_clean before)) (s.facts_hold before))) why);
      stop = inl (
        K.no_more_trans _ _ _ s.stop f.stop,
        λ clean. f.same clean ∙ s.same (f.since.was_clean clean),
      );
    }

-- the reply of a refusal that was passed on
pub passed_on : (r : Result Reply Refusal) (why : Refusal) → IsErrAnd r (λ e. e ≡ why) → reply_of r ≡ Refused why
passed_on (Ok answer) why h = absurd h
passed_on (Err e) why h = ap Refused h

pub stopped_whole : {S A : Type 0} {K : KeptOf S} {B : BooksOf S} {v : Bool} {facts : Rows → Type 0}
    {are_whole : Rows → Type 0} {why : Refusal} {wanted : Rows → Option A} {start old new : S} {e : Refusal}
    {outcome : Rows → Outcome Change} {source : Stream} (r : Result Reply Refusal)
    → IsErrAnd r (λ x. x ≡ e) → SoFar K B v facts start old → Finds K B are_whole why wanted old new (Err e)
    → (AreWhole (B.rows start) → facts (B.rows start) → are_whole (B.rows start))
    → (facts (B.rows start) → wanted (B.rows start) ≡ None → is_failed (Refused why) ≡ false
    → outcome (B.rows start) ≡ refused why)
    → StepsAs K B outcome start new source source (reply_of r)
stopped_whole {K = K} {B = B} {start = start} {new = new} {e = e} {outcome = outcome}
    {source = source} r p s f whole h =
    subst (λ answer. StepsAs K B outcome start new source source answer)
    (sym (passed_on r e p)) (stopped_by s f whole h)

-- what sound books have wasn't there, or the search failed
pub halted : {S A : Type 0} {K : KeptOf S} {B : BooksOf S} {v : Bool} {facts : Rows → Type 0}
    {are_whole : Rows → Type 0} {wanted : Rows → Option A} {start old new : S} {e : Refusal}
    {outcome : Rows → Outcome Change} {source : Stream} (r : Result Reply Refusal)
    → IsErrAnd r (λ x. x ≡ e) → SoFar K B v facts start old → Finds K B are_whole Store wanted old new (Err e)
    → (AreWhole (B.rows start) → facts (B.rows start) → are_whole (B.rows start))
    → StepsAs K B outcome start new source source (reply_of r)
halted r p s f whole = stopped_whole r p s f whole (λ k n x. absurd (false≢true (sym x)))

pub stopped : {S A : Type 0} {K : KeptOf S} {B : BooksOf S} {v : Bool} {facts : Rows → Type 0} {why : Refusal}
    {wanted : Rows → Option A} {start old new : S} {e : Refusal} {outcome : Rows → Outcome Change}
    {source : Stream} (r : Result Reply Refusal)
    → IsErrAnd r (λ x. x ≡ e) → SoFar K B v facts start old → Finds K B AnyRows why wanted old new (Err e)
    → (facts (B.rows start) → wanted (B.rows start) ≡ None → outcome (B.rows start) ≡ refused why)
    → StepsAs K B outcome start new source source (reply_of r)
stopped r p s f h = stopped_whole r p s f (λ w k. tt) (λ k n x. h k n)

-- a refusal, where the checks come to it
pub refuses : {S : Type 0} {K : KeptOf S} {B : BooksOf S} {facts : Rows → Type 0} {start now : S}
    {outcome : Rows → Outcome Change} {source : Stream} (why : Refusal)
    → is_failed (Refused why) ≡ false → SoFar K B true facts start now
    → (facts (B.rows start) → outcome (B.rows start) ≡ refused why)
    → StepsAs K B outcome start now source source (Refused why)
refuses {B = B} {start = start} {now = now} {outcome = outcome} {source = source} why k s h = record {
  goes = λ clean. goes_at (is_failed (Refused why)) (outcome (B.rows start)) (B.rows start) (B.rows now) source why
      (λ _. h (s.facts_hold clean)) (s.same clean);
  since = s.since;
  vouched = λ honest _. s.vouched refl honest;
  stays = stays_so s;
  moved = λ honest e. absurd (false≢true (sym k ∙ e));
  counted = λ honest w cause. none_more _ cause _ _ (untold (Refused why) k) (s.counted honest cause);
  stop = inl (s.stop, s.same);
}

-- where the source moved by what a step examines, it did by what an equal one does
abbrev MovedBy : Type 0 → ℕ → Stream → Stream → Type 0
MovedBy was n source rest = (rest ≡ source) ⊎ (was × MovedAtMost n source rest)

moved_as : (mid was : Type 0) (n m : ℕ) (source rest : Stream)
    → (mid → was × (n ≡ m)) → MovedBy mid n source rest → MovedBy was m source rest
moved_as mid was n m source rest h (inl e) = inl e
moved_as mid was n m source rest h (inr (c, k)) = let d = h c in inr (d.0, subst (λ x. MovedAtMost x source rest) d.1 k)

-- what the end of a step says of a stop, it says of one from the start, where nothing new was left before it
pub stops_from : {S : Type 0} (K : KeptOf S) (B : BooksOf S) (outcome last : Rows → Outcome Change) (start mid new : S)
    → ChangesAfter K B.rows B.leaves_change → Since K mid new → (K.is_clean mid → K.is_clean start)
    → (K.is_clean mid → B.rows mid ≡ B.rows start) → K.leaves_no_more start mid
    → (K.is_honest new → K.is_clean start → K.is_clean mid)
    → ((change : Change) → K.is_clean mid → IsMadeWith change (last (B.rows mid))
    → IsMadeWith change (outcome (B.rows start)))
    → StopsIn K B last mid new → StopsIn K B outcome start new
stops_from K B outcome last start mid new after since was same before still as_last (inl (none, kept)) = inl (
  K.no_more_trans start mid new before none,
  λ clean. kept clean ∙ same (since.was_clean clean),
)
stops_from K B outcome last start mid new after since was same before still as_last (inr (change, stop, made)) = inr (
  change,
  after change start mid new was same before stop,
  λ honest clean. let then = still honest clean in as_last change then (made honest then),
)

-- the step goes on as one that ends it
pub ends : {S : Type 0} {K : KeptOf S} {B : BooksOf S} {v : Bool} {facts : Rows → Type 0} {start old new : S}
    {outcome last : Rows → Outcome Change} {source rest : Stream} {answer : Reply}
    → ChangesAfter K B.rows B.leaves_change → SoFar K B v facts start old
    → StepsAs K B last old new source rest answer
    → (facts (B.rows start) → outcome (B.rows start) ≡ last (B.rows start))
    → StepsAs K B outcome start new source rest answer
ends {K = K} {B = B} {start = start} {old = old} {new = new} {outcome = outcome} {last = last} {source = source}
    {rest = rest} {answer = answer} after s t h = record {
      goes = λ clean.
          let before = t.since.was_clean clean in
          let g : Goes (last (B.rows start)) (B.rows start) source answer (B.rows new) rest =
          subst (λ rs. Goes (last rs) rs source answer (B.rows new) rest) (s.same before) (t.goes clean) in
          subst (λ o. Goes o (B.rows start) source answer (B.rows new) rest) (sym (h (s.facts_hold before))) g;
      since = since_then s.since t.since;
      vouched = t.vouched;
      stays = stayed s t.since t.stays;
      moved = λ honest k. moved_as (K.is_clean old) (K.is_clean start) (last (B.rows old)).examined
          (outcome (B.rows start)).examined source rest
          (λ before. (
            s.since.was_clean before,
            ap (λ rs. (last rs).examined) (s.same before)
                ∙ ap (λ (o : Outcome Change). o.examined) (sym (h (s.facts_hold before))),
          )) (t.moved honest k);
      counted = λ honest w why. counted_told (failure_in answer) why _ _ _ (s.counted (t.since.was_honest honest) why)
          (t.counted honest (λ before. subst AreWhole (sym (s.same before)) (w (s.since.was_clean before))) why);
      stop = stops_from K B outcome last start old new after t.since s.since.was_clean s.same s.stop
          (λ honest clean. s.stays (t.since.was_honest honest) clean)
          (λ change then made_so. subst (λ o. IsMadeWith change o)
          (ap last (s.same then) ∙ sym (h (s.facts_hold then))) made_so) t.stop;
    }

pub only : {A : Type 0} {x y : A} → Some x ≡ Some y → x ≡ y
only e = cc

made_at : (b : Bool) (answer : Reply) (change : Change) (rows later : Rows) (source : Stream)
    → b ≡ false → later ≡ made change rows → GoesIf b (accepted answer change) rows source answer later source
made_at true answer change rows later source k same = cc
made_at false answer change rows later source k same = (refl, same, sym (past-zero source))

-- the change was made
pub makes : {S : Type 0} {K : KeptOf S} {B : BooksOf S} {old new : S} (answer : Reply)
    (change : Change) (source : Stream)
    → IsReply answer → is_failed answer ≡ false → (K.is_clean new → B.rows new ≡ made change (B.rows old))
    → Leaves K old None new → B.leaves_change change old new
    → StepsAs K B (λ _. accepted answer change) old new source source answer
makes {K = K} {B = B} {old = old} {new = new} answer change source r k m l stop = record {
  goes = λ clean. made_at (is_failed answer) answer change (B.rows old) (B.rows new) source k (m clean);
  since = l.since;
  vouched = λ honest _. l.vouched honest refl;
  stays = l.stays;
  moved = λ honest e. absurd (false≢true (sym k ∙ e));
  counted = λ honest whole. subst (λ told. Counts (λ why. one_of why told) (K.failures old) (K.failures new))
      (sym (untold answer k)) (l.counted honest);
  stop = inr (change, stop, λ honest clean. (refl, r, k));
}

-- a change that was not made
pub fails : {S : Type 0} {K : KeptOf S} {B : BooksOf S} {old new : S} (answer : Reply) (change : Change)
    (fault : LookFault) (why : Refusal) (source : Stream)
    → IsReply answer → is_failed answer ≡ false → why ≡ refusal_of fault → (K.is_clean new → B.rows new ≡ B.rows old)
    → Leaves K old (Some fault) new → B.leaves_change change old new
    → StepsAs K B (λ _. accepted answer change) old new source source (Refused why)
fails {K = K} {B = B} {old = old} {new = new} answer change fault why source range k e m l stop =
    subst (λ r. StepsAs K B (λ _. accepted answer change) old new source source (Refused r)) (sym e) (record {
      goes = λ clean. goes_at (is_failed (Refused (refusal_of fault))) (accepted answer change) (B.rows old)
          (B.rows new) source (refusal_of fault) (λ k. absurd (false≢true (sym k ∙ faults fault))) (m clean);
      since = l.since;
      vouched = λ honest k. absurd (false≢true (sym k ∙ faults fault));
      stays = l.stays;
      moved = λ honest k. inl refl;
      counted = λ honest whole. subst (λ told. Counts (λ why. one_of why told) (K.failures old) (K.failures new))
          (sym (tells fault)) (l.counted honest);
      stop = inr (change, stop, λ honest clean. (refl, range, k));
    })

-- a refusal of the checks, passed on
pub barred : {S : Type 0} {K : KeptOf S} {B : BooksOf S} {facts : Rows → Type 0} {start now : S} {e : Refusal}
    {outcome : Rows → Outcome Change} {source : Stream} (r : Result Reply Refusal)
    → IsErrAnd r (λ x. x ≡ e) → is_failed (Refused e) ≡ false → SoFar K B true facts start now
    → (facts (B.rows start) → outcome (B.rows start) ≡ refused e)
    → StepsAs K B outcome start now source source (reply_of r)
barred {K = K} {B = B} {start = start} {now = now} {e = e} {outcome = outcome} {source = source} r p k s h =
    subst (λ answer. StepsAs K B outcome start now source source answer) (sym (passed_on r e p)) (refuses e k s h)

-- the first of these checks that refuses, and others after them
pub bars_refuse : {X : Type 0} (checks later : List (Option Refusal)) (o : Outcome X) (why : Refusal)
    → first_refusal checks ≡ Some why → unless (checks ++ later) o ≡ refused why
bars_refuse [] later o why e = cc
bars_refuse (Some other ∷ checks) later o why e = ap refused (only e)
bars_refuse (None ∷ checks) later o why e = bars_refuse checks later o why e

-- these checks pass
pub bars_pass : {X : Type 0} (checks later : List (Option Refusal)) (o : Outcome X)
    → first_refusal checks ≡ None → unless (checks ++ later) o ≡ unless later o
bars_pass [] later o e = refl
bars_pass (Some other ∷ checks) later o e = cc
bars_pass (None ∷ checks) later o e = bars_pass checks later o e

-- the number after so many
pub number_is : (n m : ℕ) → number_after n ≡ Some m → n + 1 ≡ m
number_is n m e = at (nat_lt n 9999999) n m e
  where
    at : (b : Bool) (n m : ℕ) → cond b (Some (n + 1)) None ≡ Some m → n + 1 ≡ m
    at true n m e = only e
    at false n m e = cc
