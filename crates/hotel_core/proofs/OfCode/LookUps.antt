-- What a look-up of the books finds.
use Rattle.std.proofs.Common.{◌≡◌, Bool, false, Option, Some, None, Result, Ok, Err, IsSome, refl, ap, sym, ◌∙◌, subst}
use Rattle.hotel_books.proofs.Names.{false≢true, LookFault, Counts, Refused, Refusal, Store, Rows, is_failed, one_of}
use Rattle.hotel_books.proofs.Names.{AnyRows, Finds, refusal_of}
use Rattle.hotel_books.specs.declared.books.Books.{Ghosts as BooksOf}
use Rattle.hotel_core.proofs.OfCode.Counting.{faults, none_more, tells, untold}
use Rattle.keycard_rules.proofs.CallsTogether.{counted_none}
use Rattle.hotel_books.specs.Books.Reads.{LooksUp}
use Rattle.hotel_books.specs.Refinement.Finds.{known, there_or}
use Rattle.keycard_rules.specs.declared.kept.Kept.{Ghosts as KeptOf}

module _ {S A : Type 0} {K : KeptOf S} {B : BooksOf S} {old new : S}
    (kept_rows : (a b : S) → K.is_kept a b → B.rows b ≡ B.rows a) where
  -- a look-up that failed finds nothing
  failed : {R X : Type 0} {takes_memory : Bool} {said : R → X} {x : X} {are_whole : Rows → Type 0} {why : Refusal}
      {wanted : Rows → Option A} (fault : LookFault)
      → LooksUp K takes_memory said x old new (Err fault)
      → Finds K B are_whole why wanted old new (Err (refusal_of fault))
  failed fault l = record {
    answer = λ clean k. absurd (false≢true (sym k ∙ faults fault));
    same = λ clean. kept_rows old new (l.looks.kept clean);
    since = l.looks.leaves.since;
    vouched = λ honest k. absurd (false≢true (sym k ∙ faults fault));
    stays = l.looks.leaves.stays;
    stop = l.looks.stop;
    counted = λ honest whole. subst (λ told. Counts (λ why. one_of why told) (K.failures old) (K.failures new))
        (sym (tells fault)) (l.looks.leaves.counted honest);
  }

  -- a look-up that answered finds what it answered
  answered : {R X : Type 0} {takes_memory : Bool} {said : R → X} {x : X} {r : R} {are_whole : Rows → Type 0}
      {why : Refusal} {wanted : Rows → Option A} {a : A}
      → LooksUp K takes_memory said x old new (Ok r) → (K.is_clean new → wanted (B.rows old) ≡ Some a)
      → Finds K B are_whole why wanted old new (Ok a)
  answered l is = record {
    answer = is;
    same = λ clean. kept_rows old new (l.looks.kept clean);
    since = l.looks.leaves.since;
    vouched = λ honest k. l.looks.leaves.vouched honest refl;
    stays = l.looks.leaves.stays;
    stop = l.looks.stop;
    counted = λ honest whole. l.looks.leaves.counted honest;
  }

  -- what is known of the books
  pub knows : {takes_memory : Bool} {are_whole : Rows → Type 0} {why : Refusal} (wanted : Rows → A)
      (r : Result A LookFault) (result : Result A Refusal)
      → LooksUp K takes_memory (λ a. a) (wanted (B.rows old)) old new r → result ≡ known r
      → Finds K B are_whole why (λ rows. Some (wanted rows)) old new result
  knows {are_whole = are_whole} {why = why} wanted (Ok a) result l e =
      subst (λ x. Finds K B are_whole why (λ rows. Some (wanted rows)) old new x) (sym e)
      (answered l (λ clean. ap Some (sym (l.answer (K.clean_honest new clean)))))
  knows {are_whole = are_whole} {why = why} wanted (Err fault) result l e =
      subst (λ x. Finds K B are_whole why (λ rows. Some (wanted rows)) old new x) (sym e) (failed fault l)

  -- what stands there, or the refusal where nothing does
  pub finds_there : {takes_memory : Bool} {why : Refusal} (wanted : Rows → Option A)
      (r : Result (Option A) LookFault) (result : Result A Refusal) → is_failed (Refused why) ≡ false
      → LooksUp K takes_memory (λ a. a) (wanted (B.rows old)) old new r → result ≡ there_or why r
      → Finds K B AnyRows why wanted old new result
  finds_there {why = why} wanted (Ok (Some a)) result k l e =
      subst (λ x. Finds K B AnyRows why wanted old new x) (sym e)
      (answered l (λ clean. sym (l.answer (K.clean_honest new clean))))
  finds_there {why = why} wanted (Ok None) result k l e =
      subst (λ x. Finds K B AnyRows why wanted old new x) (sym e) (record {
        answer = λ clean _. (sym (l.answer (K.clean_honest new clean)), refl);
        same = λ clean. kept_rows old new (l.looks.kept clean);
        since = l.looks.leaves.since;
        vouched = λ honest _. l.looks.leaves.vouched honest refl;
        stays = l.looks.leaves.stays;
        stop = l.looks.stop;
        counted = λ honest whole cause. none_more _ cause _ _ (untold (Refused why) k)
            (counted_none cause _ _ _ refl (l.looks.leaves.counted honest cause));
      })
  finds_there {why = why} wanted (Err fault) result k l e =
      subst (λ x. Finds K B AnyRows why wanted old new x) (sym e) (failed fault l)

  -- what stands there in whole books
  pub finds_whole : {takes_memory : Bool} (wanted : Rows → Option A)
      (r : Result (Option A) LookFault) (result : Result A Refusal)
      → LooksUp K takes_memory (λ a. a) (wanted (B.rows old)) old new r → result ≡ there_or Store r
      → Finds K B (λ rows. IsSome (wanted rows)) Store wanted old new result
  finds_whole wanted (Ok (Some a)) result l e =
      subst (λ x. Finds K B (λ rows. IsSome (wanted rows)) Store wanted old new x) (sym e)
      (answered l (λ clean. sym (l.answer (K.clean_honest new clean))))
  finds_whole wanted (Ok None) result l e =
      subst (λ x. Finds K B (λ rows. IsSome (wanted rows)) Store wanted old new x) (sym e) (record {
        answer = λ clean k. absurd (false≢true (sym k));
        same = λ clean. kept_rows old new (l.looks.kept clean);
        since = l.looks.leaves.since;
        vouched = λ honest k. absurd (false≢true (sym k));
        stays = l.looks.leaves.stays;
        stop = l.looks.stop;
        counted = λ honest whole.
            let before = l.looks.leaves.since.was_clean (l.looks.leaves.vouched honest refl) in
            absurd (false≢true (subst IsSome (sym (l.answer honest)) (whole refl before)));
      })
  finds_whole wanted (Err fault) result l e =
      subst (λ x. Finds K B (λ rows. IsSome (wanted rows)) Store wanted old new x) (sym e) (failed fault l)
