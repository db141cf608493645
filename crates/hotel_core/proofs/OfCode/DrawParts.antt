-- A draw as a part of a step.
use Rattle.std.proofs.Common.{ℕ, ◌≡◌, Bool, true, false, Option, Some, None, Result, Ok, Err, IsErrAnd, List, refl, ap}
use Rattle.std.proofs.Common.{sym, ◌∙◌, arith, subst, option_map, inl, inr}
use Rattle.hotel_books.proofs.Names.{false≢true, Stream, since_then, Draw, Draws, fault_in}
use Rattle.keycard_rules.proofs.Sinces.{stays_then}
use Rattle.keycard_rules.specs.Leaves.{Leaves}
use Rattle.hotel_books.proofs.Names.{draw_from, drawn, words, past, Change, Reply, Refused, Refusal, NoFreshCode}
use Rattle.hotel_books.proofs.Names.{said_of, Rows, codes_in, is_failed, Outcome, accepted, by_draw, made, GoesIf}
use Rattle.hotel_books.proofs.Names.{made_by, AreWhole, DrawsCode, Drew, DrewNone, drawn_or, has_failed}
use Rattle.hotel_core.specs.Refinement.StepOnRows.{StepsAs}
use Rattle.hotel_books.proofs.Names.{failure_at, failure_in, reply_of}
use Rattle.hotel_books.specs.declared.books.Books.{Ghosts as BooksOf}
use Rattle.keycard_rules.specs.Draw.{MovedAtMost}
use Rattle.keycard_rules.specs.{declared.draw.DrawFault.DrawFault, declared.kept.Kept.Ghosts as KeptOf}
use Rattle.keycard_rules.specs.declared.draw.DrawFault.TheVariants as fault
use Rattle.hotel_books.specs.Books.Changes.{ChangesAfter}
use Rattle.hotel_core.specs.Refinement.StepOnRows.{IsMadeWith}
use Rattle.hotel_core.proofs.OfCode.Parts.{SoFar, passed_on, stayed, stops_from}
use Rattle.hotel_core.proofs.OfCode.Counting.{untold}
use Rattle.keycard_rules.proofs.CallsTogether.{counted_none, counted_told}

drew : (found : Result ℕ DrawFault) (issued : List ℕ) (source rest : Stream)
    → Draws issued source found rest → Drew (draw_from issued (words 64 source)) source rest (drawn_or found)
unfolding drawn
drew (Ok code) issued source rest d = d
drew (Err fault.NoFreshCode) issued source rest d = (refl, d.0, d.1)
drew (Err fault.Memory) issued source rest d = d
drew (Err fault.Store) issued source rest d = d

told_by_draw : (found : Result ℕ DrawFault) → fault_in found ≡ failure_at (drawn_or found)
told_by_draw (Ok code) = refl
told_by_draw (Err fault.NoFreshCode) = refl
told_by_draw (Err fault.Memory) = refl
told_by_draw (Err fault.Store) = refl

failed_moves : (found : Result ℕ DrawFault) (issued : List ℕ) (source rest : Stream)
    → has_failed (drawn_or found) ≡ true → Draws issued source found rest
    → MovedAtMost (draw_from issued (words 64 source)).examined source rest
unfolding drawn
failed_moves (Ok code) issued source rest e d = absurd (false≢true e)
failed_moves (Err fault.NoFreshCode) issued source rest e d = absurd (false≢true e)
failed_moves (Err fault.Memory) issued source rest e d = d
failed_moves (Err fault.Store) issued source rest e d = d

-- a draw over books
pub draws : {S : Type 0} {K : KeptOf S} {B : BooksOf S} {is_kept : S → S → Type 0} {issued : S → List ℕ} {old new : S}
    {source rest : Stream} (found : Result ℕ DrawFault) (result : Result ℕ Refusal) → result ≡ drawn_or found
    → ((a b : S) → is_kept a b → B.rows b ≡ B.rows a) → ((a : S) → issued a ≡ codes_in (B.rows a))
    → (K.is_honest new → Draws (issued old) source found rest)
    → (K.is_clean new → is_kept old new)
    → Leaves K old (fault_in found) new → K.leaves_no_more old new
    → (K.never_fails → fault_in found ≡ None)
    → DrawsCode K B old new source rest result
draws {K = K} {B = B} {old = old} {new = new} {source = source} {rest = rest} found result e kept_rows issued_are d k
    l stop sure = subst (λ r. DrawsCode K B old new source rest r) (sym e) (record {
      answer = λ clean. drew found _ source rest
          (subst (λ codes. Draws codes source found rest) (issued_are old) (d (K.clean_honest new clean)));
      same = λ clean. kept_rows old new (k clean);
      moved = λ honest k. failed_moves found _ source rest k
          (subst (λ codes. Draws codes source found rest) (issued_are old) (d honest));
      leaves = subst (λ told. Leaves K old told new) (told_by_draw found) l;
      stop = stop;
      sure = λ n. sym (told_by_draw found) ∙ sure n;
    })

undrawn_at : (b : Bool) (o : Outcome Change) (draw : Draw) (rows later : Rows) (source rest : Stream) (why : Refusal)
    (reply_with : ℕ → Reply) (change_with : ℕ → Change)
    → o ≡ by_draw draw reply_with change_with → later ≡ rows → DrewNone b draw source rest why
    → GoesIf b o rows source (Refused why) later rest
undrawn_at true o draw rows later source rest why reply_with change_with e same d =
    (same, (d.0, (let h : draw.examined ≡ o.examined = ap (λ x. x.examined) (sym e) in omega (arith, h, d.1)), d.2))
undrawn_at false o draw rows later source rest why reply_with change_with e same d = (
  ap Refused d.0 ∙ (ap (λ c. said_of c (Refused NoFreshCode) reply_with) (sym d.1) ∙ ap (λ x. x.reply) (sym e)),
  same ∙ (ap (λ c. made_by (option_map change_with c) rows) (sym d.1) ∙ ap (λ x. made_by x.happens rows) (sym e)),
  d.2 ∙ ap (λ x. past x.examined source) (sym e),
)

-- the source moved by at most what a draw examines, and so by what a step by it does
examined_by : (o : Outcome Change) (mid draw : Draw) (source rest : Stream)
    (reply_with : ℕ → Reply) (change_with : ℕ → Change)
    → o ≡ by_draw draw reply_with change_with → mid ≡ draw → MovedAtMost mid.examined source rest
    → MovedAtMost o.examined source rest
examined_by o mid draw source rest reply_with change_with e same m =
    subst (λ n. MovedAtMost n source rest)
    (ap (λ (x : Draw). x.examined) same ∙ ap (λ (x : Outcome Change). x.examined) (sym e)) m

-- no code was drawn
pub undrawn : {S : Type 0} {K : KeptOf S} {B : BooksOf S} {facts : Rows → Type 0} {start old new : S}
    {source rest : Stream} {e : Refusal} {outcome : Rows → Outcome Change} (r : Result Reply Refusal)
    (reply_with : ℕ → Reply) (change_with : ℕ → Change)
    → IsErrAnd r (λ x. x ≡ e) → SoFar K B true facts start old → DrawsCode K B old new source rest (Err e)
    → (facts (B.rows start)
    → outcome (B.rows start) ≡ by_draw (draw_from (codes_in (B.rows start)) (words 64 source)) reply_with change_with)
    → StepsAs K B outcome start new source rest (reply_of r)
undrawn {K = K} {B = B} {start = start} {old = old} {new = new} {source = source} {rest = rest} {e = e}
    {outcome = outcome} r reply_with change_with p s d h =
    subst (λ answer. StepsAs K B outcome start new source rest answer) (sym (passed_on r e p)) (record {
      goes = λ clean.
          let before = d.leaves.since.was_clean clean in
          undrawn_at (is_failed (Refused e)) (outcome (B.rows start)) (draw_from (codes_in (B.rows start))
          (words 64 source)) (B.rows start) (B.rows new) source rest e reply_with change_with
          (h (s.facts_hold before)) (d.same clean ∙ s.same before)
          (subst (λ rs. DrewNone (is_failed (Refused e)) (draw_from (codes_in rs) (words 64 source)) source rest e)
          (s.same before) (d.answer clean));
      since = since_then s.since d.leaves.since;
      vouched = λ honest k. d.leaves.vouched honest (untold (Refused e) k);
      stays = stayed s d.leaves.since d.leaves.stays;
      moved = λ honest k.
          let before = s.vouched refl (d.leaves.since.was_honest honest) in
          inr (
            s.since.was_clean before,
            examined_by (outcome (B.rows start)) (draw_from (codes_in (B.rows old)) (words 64 source))
                (draw_from (codes_in (B.rows start)) (words 64 source)) source rest reply_with change_with
                (h (s.facts_hold before)) (ap (λ rs. draw_from (codes_in rs) (words 64 source)) (s.same before))
                (d.moved honest k),
          );
      counted = λ honest w why. counted_told (failure_in (Refused e)) why _ _ _
          (s.counted (d.leaves.since.was_honest honest) why) (d.leaves.counted honest why);
      stop = inl (
        K.no_more_trans _ _ _ s.stop d.stop,
        λ clean. d.same clean ∙ s.same (d.leaves.since.was_clean clean),
      );
    })

made_after : (b : Bool) (o : Outcome Change) (draw : Draw) (code : ℕ) (reply_with : ℕ → Reply)
    (change_with : ℕ → Change) (rows mid later : Rows) (source rest : Stream) (answer : Reply)
    → o ≡ by_draw draw reply_with change_with → draw.code ≡ Some code → rest ≡ past draw.examined source → mid ≡ rows
    → GoesIf b (accepted (reply_with code) (change_with code)) mid rest answer later rest
    → GoesIf b o rows source answer later rest
made_after true o draw code reply_with change_with rows mid later source rest answer e c moved same g = (
  g.0 ∙ same,
  (draw.examined, (let h : draw.examined ≡ o.examined = ap (λ x. x.examined) (sym e) in omega (arith, h)), moved),
)
made_after false o draw code reply_with change_with rows mid later source rest answer e c moved same g = (
  g.0 ∙ (ap (λ x. said_of x (Refused NoFreshCode) reply_with) (sym c) ∙ ap (λ x. x.reply) (sym e)),
  g.1 ∙ (ap (made (change_with code)) same
      ∙ (ap (λ x. made_by (option_map change_with x) rows) (sym c) ∙ ap (λ x. made_by x.happens rows) (sym e))),
  moved ∙ ap (λ x. past x.examined source) (sym e),
)

-- where a code was drawn, the step says the change that is made with it
drawn_made : (change : Change) (o : Outcome Change) (draw : Draw) (code : ℕ) (reply_with : ℕ → Reply)
    (change_with : ℕ → Change)
    → o ≡ by_draw draw reply_with change_with → draw.code ≡ Some code
    → IsMadeWith change (accepted (reply_with code) (change_with code)) → IsMadeWith change o
drawn_made change o draw code reply_with change_with e c made_so =
    let with_code : Option ℕ → Outcome Change = λ found. record {
      reply = said_of found (Refused NoFreshCode) reply_with;
      happens = option_map change_with found;
      examined = draw.examined;
    } in
    subst (λ x. IsMadeWith change x) (ap with_code (sym c) ∙ sym e) made_so

-- a code was drawn, and the change with it ended the step
pub drawn_ends : {S : Type 0} {K : KeptOf S} {B : BooksOf S} {v : Bool} {facts : Rows → Type 0}
    {start old mid new : S} {source rest : Stream} {code : ℕ} {outcome : Rows → Outcome Change} {answer : Reply}
    → ChangesAfter K B.rows B.leaves_change → (reply_with : ℕ → Reply) (change_with : ℕ → Change)
    → SoFar K B v facts start old → DrawsCode K B old mid source rest (Ok code)
    → StepsAs K B (λ _. accepted (reply_with code) (change_with code)) mid new rest rest answer
    → (facts (B.rows start)
    → outcome (B.rows start) ≡ by_draw (draw_from (codes_in (B.rows start)) (words 64 source)) reply_with change_with)
    → StepsAs K B outcome start new source rest answer
drawn_ends {K = K} {B = B} {start = start} {old = old} {mid = mid} {new = new} {source = source} {rest = rest}
    {code = code} {outcome = outcome} {answer = answer} after reply_with change_with s d t h = record {
      goes = λ clean.
          let then = t.since.was_clean clean in
          let before = d.leaves.since.was_clean then in
          let drawn = d.answer then in
          made_after (is_failed answer) (outcome (B.rows start)) (draw_from (codes_in (B.rows start)) (words 64 source))
          code reply_with change_with (B.rows start) (B.rows mid) (B.rows new) source rest answer
          (h (s.facts_hold before))
          (ap (λ rs. (draw_from (codes_in rs) (words 64 source)).code) (sym (s.same before)) ∙ drawn.0)
          (drawn.1 ∙ ap (λ rs. past (draw_from (codes_in rs) (words 64 source)).examined source) (s.same before))
          (d.same then ∙ s.same before) (t.goes clean);
      since = since_then s.since (since_then d.leaves.since t.since);
      vouched = t.vouched;
      stays = λ honest.
          let then = t.since.was_honest honest in
          stays_then (stayed s d.leaves.since d.leaves.stays then) t.since (t.stays honest)
          (since_then s.since d.leaves.since);
      moved = λ honest k.
          let then = d.leaves.vouched (t.since.was_honest honest) refl in
          let before = d.leaves.since.was_clean then in
          inr (
            s.since.was_clean before,
            examined_by (outcome (B.rows start)) (draw_from (codes_in (B.rows old)) (words 64 source))
                (draw_from (codes_in (B.rows start)) (words 64 source)) source rest reply_with change_with
                (h (s.facts_hold before)) (ap (λ rs. draw_from (codes_in rs) (words 64 source)) (s.same before))
                (_, omega arith, (d.answer then).1),
          );
      counted = λ honest w why.
          let then = t.since.was_honest honest in
          counted_told (failure_in answer) why _ _ _
          (counted_none why _ _ _ (s.counted (d.leaves.since.was_honest then) why) (d.leaves.counted then why))
          (t.counted honest (λ then. subst AreWhole (sym (d.same then ∙ s.same (d.leaves.since.was_clean then)))
          (w (s.since.was_clean (d.leaves.since.was_clean then)))) why);
      stop = stops_from K B outcome (λ _. accepted (reply_with code) (change_with code)) start mid new after t.since
          (λ then. s.since.was_clean (d.leaves.since.was_clean then))
          (λ then. d.same then ∙ s.same (d.leaves.since.was_clean then)) (K.no_more_trans _ _ _ s.stop d.stop)
          (λ honest clean. d.leaves.vouched (t.since.was_honest honest) refl)
          (λ change then made_so.
          let before = d.leaves.since.was_clean then in
          drawn_made change (outcome (B.rows start)) (draw_from (codes_in (B.rows start)) (words 64 source)) code
          reply_with change_with (h (s.facts_hold before))
          (ap (λ rs. (draw_from (codes_in rs) (words 64 source)).code) (sym (s.same before)) ∙ (d.answer then).0)
          made_so)
          t.stop;
    }
