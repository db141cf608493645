-- Parts of a step that check the books.
use Rattle.std.proofs.Common.{◌≡◌, Bool, true, false, Option, Some, None, Result, Ok, Err, refl, ap, sym, ◌∙◌}
use Rattle.std.proofs.Common.{ℕ, IsErrAnd, List, [], ◌∷◌, is_some, subst}
use Rattle.hotel_books.proofs.Names.{false≢true, failure_in, Stream, Change, Reply, Refused, Refusal, Store}
use Rattle.hotel_books.proofs.Names.{Rows, is_failed, Outcome, refused, Finds, AnyRows, reply_of, first_refusal}
use Rattle.hotel_core.specs.Refinement.StepOnRows.{StepsAs}
use Rattle.hotel_books.proofs.Names.{Link, card_at, has_link_on, needs}
use Rattle.hotel_books.specs.declared.books.Books.{Ghosts as BooksOf}
use Rattle.hotel_model.specs.declared.reply.Refusal.TheVariants.{NoCard, CardDiffers}
use Rattle.hotel_core.specs.Refinement.FindsChecked.{FindsChecked}
use Rattle.hotel_core.proofs.OfCode.Parts.{SoFar, at_now, halted, barred, leaves_found, then_asked}
use Rattle.hotel_core.proofs.OfCode.Counting.{unfailed, untold}
use Rattle.keycard_rules.specs.{declared.kept.Kept.Ghosts as KeptOf, Leaves.Leaves}

-- what a search leaves that found nothing, or failed
leaves_unfound : {S A : Type 0} {K : KeptOf S} {B : BooksOf S} {why e : Refusal} {wanted : Rows → Option A}
    {old new : S}
    → Finds K B AnyRows why wanted old new (Err e) → Leaves K old (failure_in (Refused e)) new
leaves_unfound f = record {
  since = f.since;
  counted = λ honest. f.counted honest (λ k before. tt);
  vouched = λ honest n. f.vouched honest (unfailed (Refused _) n);
  stays = f.stays;
}

module _ {S : Type 0} {K : KeptOf S} {B : BooksOf S} {checks : Rows → List (Option Refusal)} {old new : S} where
  -- what is wanted isn't there, and the checks refuse that; or the search failed
  pub refused_unfound : {A : Type 0} {why e : Refusal} {wanted : Rows → Option A} (r : Result (Unit {0}) Refusal)
      → IsErrAnd r (λ x. x ≡ e) → Finds K B AnyRows why wanted old new (Err e)
      → (wanted (B.rows old) ≡ None → first_refusal (checks (B.rows old)) ≡ Some why)
      → FindsChecked K B checks old new r
  refused_unfound (Ok done) p f h = absurd p
  refused_unfound (Err x) p f h = rw p (record {
    answer = λ clean k. let a = f.answer clean k in h a.0 ∙ ap Some (sym a.1);
    same = f.same;
    leaves = leaves_unfound f;
    stop = f.stop;
  })

  -- what is wanted is there, and the checks refuse it
  pub refused_found : {A : Type 0} {why other : Refusal} {wanted : Rows → Option A} {a : A}
      → Finds K B AnyRows other wanted old new (Ok a) → is_failed (Refused why) ≡ false
      → (wanted (B.rows old) ≡ Some a → first_refusal (checks (B.rows old)) ≡ Some why)
      → FindsChecked K B checks old new (Err why)
  refused_found f k h = record {
    answer = λ clean _. h (f.answer clean);
    same = f.same;
    leaves = subst (λ told. Leaves K old told new) (sym (untold (Refused _) k)) (leaves_found f);
    stop = f.stop;
  }

  -- what is wanted is there, and the checks pass
  pub passed_found : {A : Type 0} {other : Refusal} {wanted : Rows → Option A} {a : A} {done : Unit {0}}
      → Finds K B AnyRows other wanted old new (Ok a)
      → (wanted (B.rows old) ≡ Some a → first_refusal (checks (B.rows old)) ≡ None)
      → FindsChecked K B checks old new (Ok done)
  passed_found f h = record {
    answer = λ clean. h (f.answer clean);
    same = f.same;
    leaves = leaves_found f;
    stop = f.stop;
  }

  -- memory or the store failed
  failed : {e : Refusal} → FindsChecked K B checks old new (Err e) → is_failed (Refused e) ≡ true
      → Finds {A = Unit {0}} K B AnyRows Store (λ rs. None) old new (Err e)
  failed f k = record {
    answer = λ clean n. absurd (false≢true (sym n ∙ k));
    same = f.same;
    since = f.leaves.since;
    vouched = λ honest n. f.leaves.vouched honest (untold (Refused _) n);
    stays = f.leaves.stays;
    counted = λ honest w. f.leaves.counted honest;
    stop = f.stop;
  }

  module _ {v : Bool} {facts : Rows → Type 0} {start : S} where
    -- the checks pass
    pub then_passed : {done : Unit {0}} → SoFar K B v facts start old → FindsChecked K B checks old new (Ok done)
        → SoFar K B true (λ rs. facts rs × (first_refusal (checks rs) ≡ None)) start new
    then_passed s f = then_asked s f.same f.leaves f.stop (λ before clean. (
      s.facts_hold before,
      ap (λ rs. first_refusal (checks rs)) (sym (s.same before)) ∙ f.answer clean,
    ))

    -- one of the checks refuses
    then_refused : {e : Refusal} → SoFar K B v facts start old → FindsChecked K B checks old new (Err e)
        → is_failed (Refused e) ≡ false
        → SoFar K B true (λ rs. facts rs × (first_refusal (checks rs) ≡ Some e)) start new
    then_refused s f k =
        let l = subst (λ told. Leaves K old told new) (untold (Refused _) k) f.leaves in
        then_asked s f.same l f.stop (λ before clean. (
          s.facts_hold before,
          ap (λ rs. first_refusal (checks rs)) (sym (s.same before)) ∙ f.answer clean k,
        ))

    -- one of the checks refuses, or a search failed
    pub refused_first : {e : Refusal} {outcome : Rows → Outcome Change} {source : Stream} (r : Result Reply Refusal)
        → IsErrAnd r (λ x. x ≡ e) → SoFar K B v facts start old → FindsChecked K B checks old new (Err e)
        → (facts (B.rows start) → first_refusal (checks (B.rows start)) ≡ Some e → outcome (B.rows start) ≡ refused e)
        → StepsAs K B outcome start new source source (reply_of r)
    refused_first {e = e} {outcome = outcome} {source = source} r p s f h = by (is_failed (Refused e)) refl
      where
        by : (b : Bool) → is_failed (Refused e) ≡ b → StepsAs K B outcome start new source source (reply_of r)
        by true k = halted r p s (failed f k) (λ w x. tt)
        by false k = barred r p k (then_refused s f k) (λ x. h x.0 x.1)

-- the checks of the card that a note names
abbrev pub bars_of_card : Rows → ℕ → Link → List (Option Refusal)
bars_of_card rows number link =
    needs (is_some (card_at rows number)) NoCard ∷ needs (has_link_on rows number link) CardDiffers ∷ []

second_holds : (a b : Bool) → first_refusal (needs a NoCard ∷ needs b CardDiffers ∷ []) ≡ None → b ≡ true
second_holds true true e = refl
second_holds true false e = cc
second_holds false b e = cc

-- where they pass, the card has the link in the rows as they are now
pub has_link_now : {S : Type 0} {K : KeptOf S} {B : BooksOf S} {v : Bool} {facts : Rows → Type 0}
    {start now : S} (number : ℕ) (link : Link)
    → SoFar K B v facts start now → ((rows : Rows) → facts rows → first_refusal (bars_of_card rows number link) ≡ None)
    → K.is_clean now → has_link_on (B.rows now) number link ≡ true
has_link_now {B = B} {now = now} number link s h clean =
    second_holds (is_some (card_at (B.rows now) number)) (has_link_on (B.rows now) number link)
    (h (B.rows now) (at_now s clean))
