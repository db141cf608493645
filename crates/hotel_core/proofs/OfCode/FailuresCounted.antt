-- What a step that went by parts leaves: over sound rows its failure was counted.
use Rattle.std.proofs.Common.{◌≡◌, Bool, true, false, sym}
use Rattle.hotel_books.proofs.Names.{false≢true, Stream, Change, Reply, Rows, IsSound, start, Outcome, is_failed}
use Rattle.hotel_books.proofs.Names.{AreWhole, GoesIf, Goes}
use Rattle.hotel_core.specs.Refinement.StepOnRows.{StepsAs}
use Rattle.hotel_books.proofs.Names.{failure_in}
use Rattle.hotel_books.specs.declared.books.Books.{Ghosts as BooksOf}
use Rattle.hotel_core.proofs.OfCode.Counting.{unfailed}
use Rattle.keycard_rules.specs.Leaves.{Leaves}
use Rattle.hotel_model.proofs.{Starts.StartRows.rows_of_start, Lifted.Whole.rows_are_whole}
use Rattle.keycard_rules.specs.declared.kept.Kept.{Ghosts as KeptOf}

-- sound rows are whole, since a desk can start with them
sound_whole : (rows : Rows) → IsSound rows → AreWhole rows
sound_whole rows sound = rows_are_whole (start rows) rows (sound, sym (rows_of_start rows sound))

-- a step by parts over rows that are sound leaves what any call does
pub step_leaves : {S : Type 0} {K : KeptOf S} {B : BooksOf S} {outcome : Rows → Outcome Change} {old new : S}
    {source rest : Stream} {answer : Reply}
    → (K.is_clean old → IsSound (B.rows old)) → StepsAs K B outcome old new source rest answer
    → Leaves K old (failure_in answer) new
step_leaves {B = B} {old = old} {answer = answer} sound step = record {
  since = step.since;
  counted = λ honest. step.counted honest (λ clean. sound_whole (B.rows old) (sound clean));
  vouched = λ honest none. step.vouched honest (unfailed answer none);
  stays = step.stays;
}

-- a failed step changed no row
pub failed_same : (given : Reply) (o : Outcome Change) (rows later : Rows) (source rest : Stream)
    → is_failed given ≡ true → Goes o rows source given later rest → later ≡ rows
failed_same given o rows later source rest e g = by (is_failed given) e g
  where
    by : (b : Bool) → b ≡ true → GoesIf b o rows source given later rest → later ≡ rows
    by true k went = went.0
    by false k went = absurd (false≢true k)
