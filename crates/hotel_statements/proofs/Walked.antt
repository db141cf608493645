-- One statement whose rows are handed over, one at a time.
use Rattle.std.proofs.Common.{◌≡◌, ◌≢◌, ◌⊎◌, ◌≤◌, ◌+◌, inl, inr, refl, sym, ap, subst, ◌∙◌, List, [], ◌∷◌}
use Rattle.std.proofs.Common.{◌++◌, ℕ, suc, IsTrue, Bool, false, true}
use Rattle.std.proofs.Common.{Option, Some, None, Ok, Err, Result, All, length, length-append, map}
use Rattle.std.proofs.Common.{append_assoc, arith}
use Rattle.std.specs.Prelude.{option_copied, OnOk, IfOk, IfErr, IsErrAnd}
use Rattle.std.proofs.lemmas.List.{map-append, length-map}
use Rattle.std.specs.Borrow.{Bor}
use Rattle.sqlite_value.specs.declared.value.Value.TheVariants.{Null}
use Rattle.sqlite_trees.specs.declared.store.Store.{Ghosts}
use Rattle.sqlite_trees.specs.View.{doubt}
use Rattle.sqlite.specs.Order.{Row}
use Rattle.sqlite.specs.Query.{Query, IsAnswer}
use Rattle.sqlite.specs.Program.{overlay}
use Rattle.sqlite.specs.Effect.{Database}
use Rattle.sqlite.specs.Held.{Held, state}
use Rattle.sqlite.specs.Given.{HasGiven, HasBegun, Advances, FailsToAdvance}
use Rattle.sqlite.specs.Next.{HasMoved}
use Rattle.sqlite.specs.State.{State, HasCleanDisk, IsUnchanged, Survives, CommitsShowing, Shown, Begins}
use Rattle.sqlite.specs.State.{FailsToQuery}
use Rattle.sqlite.specs.declared.error.Error.{Error}
use Rattle.sqlite.specs.declared.rows.stream.Rows.{Rows}
use Rattle.sqlite.proofs.Callers.{begins_as, reads_as, begun_plain, given_begin}
use Rattle.sqlite.proofs.StateLemmas.{survives_then}
use Rattle.keycard_rules.specs.declared.issued.LookFault.{LookFault}
use Rattle.keycard_rules.specs.declared.issued.LookFault.TheVariants as look
use Rattle.hotel_books.specs.declared.books.walks.WalkFault.{WalkFault}
use Rattle.hotel_books.specs.declared.books.walks.WalkFault.TheVariants as why
use Rattle.keycard_rules.specs.Calls.{Passes}
use Rattle.hotel_books.specs.Books.Walks.{TakesPrefix, Hands, failure_of}
use Rattle.hotel_books.proofs.OfCode.Walking.{one_more, all_taken}
use Rattle.hotel_statements.specs.declared.walk.TheConstants.{MOST_ROWS}
use Rattle.hotel_statements.specs.Schema.{desk_schema}
use Rattle.hotel_statements.specs.Books.{IsDesk, IsKept, IsBooks, KeepsRows}
use Rattle.hotel_statements.specs.LookUps.{Asks, LeavesNoMore, fault_of, ShowsUnread}
use Rattle.hotel_statements.specs.Walks.{SaysRows, HandsOne, WalkFails, WalksRows}
use Rattle.hotel_statements.proofs.Keeps.{Stays, keeps_books, keeps_rows, then_keeps, then_survives, begun_opened}
use Rattle.hotel_statements.proofs.Keeps.{begun_is_open, next_stays, next_opened}
use Rattle.hotel_statements.proofs.Since.{then_unchanged, error_later, clean_before}
use Rattle.hotel_statements.proofs.Looked.{command_is, plain_in, all_crash, fault_books, fault_keeps}

-- the disk returned what was written, or it did not
clean_or_not : (s : State) → HasCleanDisk s ⊎ (HasCleanDisk s → ⊥)
unfolding doubt
clean_or_not s = go s.is_clean
  where
    go : (clean : Bool) → (doubt clean ≡ 0) ⊎ (doubt clean ≡ 0 → ⊥)
    go true = inl refl
    go false = inr (λ e. cc)

-- the rows after some that are a prefix where the disk returned what was written
pub chosen : {A : Type 0} (s : State) (taken rows : List A)
    → (HasCleanDisk s → (rest : List A) × (rows ≡ taken ++ rest))
    → (rest : List A) × (HasCleanDisk s → taken ++ rest ≡ rows)
chosen s taken rows prefix = elim (clean_or_not s) [
  | inl clean ↦ let it = prefix clean in (it.0, λ _. sym it.1)
  | inr other ↦ ([], λ clean. absurd (other clean))
]

-- what a failed walk handed over
pub failed_walk : {S A : Type 0} (after after_stop : S → A → S → Type 0) (rows : List A) (sink end : S)
    (fault : WalkFault) (cause : LookFault) → failure_of (Err fault) ≡ Some cause
    → TakesPrefix after rows sink end → Hands after after_stop rows sink end (Err fault)
failed_walk after after_stop rows sink end why.Memory cause is prefix = prefix
failed_walk after after_stop rows sink end why.Store cause is prefix = prefix
failed_walk after after_stop rows sink end why.Stopped cause is prefix = absurd cc

store_fault : (fault : WalkFault) → failure_of (Err fault) ≡ Some look.Store → fault ≡ why.Store
store_fault why.Memory is = absurd (let k = is in cc)
store_fault why.Store is = refl
store_fault why.Stopped is = absurd (let k = is in cc)

-- ---- the rows that a statement gives

-- they begin an answer
pub answers_on : (text : List ℕ) (params : Row) (q : Query) → Asks text q → (old s : State) → IsBooks s → IsKept s
    → s.now ≡ old.now
    → (given : List Row) → Begins text params s given
    → (tail : List Row) × IsAnswer q (overlay old.now.trees []) params (given ++ tail)
answers_on text params q asks old s books kept same given start =
    let first = (begins_as text params s s desk_schema (books.desk kept).schema _
    (command_is q _ asks.query).1 asks.plain asks.listing given start).1 in
    (first.0, subst (λ (d : Database). IsAnswer q (overlay d.trees []) params (given ++ first.0)) same (first.1 Null))

pub not_all : (P : Row → Type 0) (given : List Row) (row : Row) (tail : List Row) → ¬ P row
    → ¬ All P ((given ++ row ∷ []) ++ tail)
not_all P [] row tail unread all = unread (all 0 row (omega arith))
not_all P (r ∷ given) row tail unread all =
    not_all P given row tail unread (λ i d lt. all (suc i) d (omega (arith, lt)))

module _ {A : Type 0} (of : Row → A) (text : List ℕ) (params : Row) (old : State) (rows : List A)
    (says : SaysRows of text params old rows) where
  -- those so far are a prefix
  pub begins : (s : State) → IsBooks s → IsKept s → IsKept old → s.now ≡ old.now
      → (given : List Row) → Begins text params s given
      → (rest : List A) × (rows ≡ map of given ++ rest)
  begins s books kept was same given start =
      let q = says.0 in
      let asks = says.1 in
      let all = answers_on text params q asks old s books kept same given start in
      let tail = all.0 in
      let answer = all.1 in
      (map of tail, sym (says.2 was (map of (given ++ tail)) (given ++ tail, answer, refl)) ∙ map-append of given tail)

  -- and at the end all of them
  pub ends : (s new : State) → IsBooks s → IsKept s → IsKept old → s.now ≡ old.now → (given : List Row)
      → Shown text params s new given → map of given ≡ rows
  ends s new books kept was same given shown =
      let q = says.0 in
      let asks = says.1 in
      let answer = (reads_as text params s new desk_schema (books.desk kept).schema _
      (command_is q _ asks.query).1 asks.plain asks.listing given shown).answer Null in
      says.2 was (map of given)
      (given, subst (λ (d : Database). IsAnswer q (overlay d.trees []) params given) same answer, refl)

-- ---- part-way through a walk

-- What the sink took are the rows that the statement gave, so many; the books are as they were.
pub record IsUnderWay {S A K : Type 0} (g : Ghosts S) (of : Row → A) (after : K → A → K → Type 0)
    (text : List ℕ) (params : Row)
    (old now : Held S) (sink end : K) (count : ℕ) : Type 0 where
  pub books : IsBooks (state g now)
  pub keeps : KeepsRows (state g old) (state g now)
  pub crash : LeavesNoMore (state g old) (state g now)
  pub unchanged : HasCleanDisk (state g now) → IsUnchanged (state g old) (state g now)
  pub taken : List A
  pub counted : length taken ≡ count
  pub takes : Passes after sink taken end
  pub given : IsKept (state g now) → (rows : List Row) × HasGiven g text params now rows × (taken ≡ map of rows)

module _ {S A K : Type 0} (g : Ghosts S) (of : Row → A) (IsReadable : Row → Type 0)
    (after after_stop : K → A → K → Type 0) (text : List ℕ)
    (params : Row) (old : Held S) (sink : K) where
  abbrev Walking : Held S → K → ℕ → Type 0
  Walking now end count = IsUnderWay g of after text params old now sink end count

  abbrev Ends : List A → Held S → K → Result (Unit {0}) WalkFault → Type 0
  Ends rows now end result =
      WalksRows (WalkFails IsReadable text params) after after_stop rows (state g old) (state g now) sink end result

  -- ---- the query begins, or is refused

  module _ (books : IsBooks (state g old)) (asks : (q : Query) × Asks text q) (new : Held S)
      (mode : old.in_transaction ≡ false → new.in_transaction ≡ false)
      (survives : Survives (state g old) (state g new) (CommitsShowing text params (state g old))) where
    pub starts : (HasCleanDisk (state g new) → HasBegun g text params old new) → Walking new sink 0
    starts begun =
        let plain = λ (desk : IsDesk (state g old)). plain_in text asks.0 (state g old) asks.1 desk in
        let stays : HasCleanDisk (state g new) → IsDesk (state g old) → Stays (state g old) (state g new) =
        λ clean desk. inl (begun_plain g text params old new (plain desk) (begun clean)).1 in
        let keeps = keeps_rows (state g old) (state g new) _ books mode survives stays
        (λ clean is_open. begun_opened g text params old new (begun clean)) in
        record {
          books = keeps_books (state g old) (state g new) _ books mode survives stays
              (λ clean is_open. begun_opened g text params old new (begun clean));
          keeps = keeps;
          crash = all_crash text params (state g old) (state g new) books asks mode survives;
          unchanged = λ clean.
              let before = (keeps (clean, begun_is_open g text params old new (begun clean))).0 in
              (begun_plain g text params old new (plain (books.desk before)) (begun clean)).1;
          counted = refl;
          taken = [];
          takes = refl;
          given = λ kept.
              ([], (begun_plain g text params old new (plain (books.desk (keeps kept).0)) (begun kept.0)).0, refl);
        }

    pub refused : (rows : List A) (e : Error)
        → (HasCleanDisk (state g new) → FailsToQuery text params (state g old) (state g new) e)
        → (fault : WalkFault) → failure_of (Err fault) ≡ Some (fault_of e) → Ends rows new sink (Err fault)
    refused rows e fails fault is = record {
      books = fault_books text params (state g old) (state g new) books asks mode survives e fails;
      keeps = fault_keeps text params (state g old) (state g new) books asks mode survives e fails;
      open_on = λ _ none. absurd (let k = is in cc);
      cause = λ clean store. inl (inl (e, let k = is in cc, fails clean));
      hands =
          (rows, failed_walk after after_stop rows sink sink fault (fault_of e) is ([], rows, refl, refl), λ _. refl);
      crash = all_crash text params (state g old) (state g new) books asks mode survives;
    }

  -- the rows that were taken are a prefix
  prefix : (rows : List A) → SaysRows of text params (state g old) rows
      → (mid : Held S) (now : K) (count : ℕ) (so_far : Walking mid now count)
      → HasCleanDisk (state g mid) → (rest : List A) × (rows ≡ so_far.taken ++ rest)
  prefix rows says mid now count so_far clean =
      let kept : IsKept (state g mid) = (clean, (so_far.unchanged clean).0.is_open) in
      let it = so_far.given kept in
      let more = so_far.keeps kept in
      let rest = begins of text params (state g old) rows says (state g mid) so_far.books kept more.0 more.1 it.0
      (given_begin g text params mid it.0 it.1) in
      (rest.0, rest.1 ∙ ap (λ ts. ts ++ rest.0) (sym it.2))

  -- ---- one more row

  module _ (mid new : Rows S g) (result : Result (Option (Bor Row)) Error) (moved : HasMoved g mid result new) (now : K)
      (count : ℕ) (so_far : Walking mid.conn.now now count) where
    after_next : HasCleanDisk (state g new.conn.now) → Stays (state g mid.conn.now) (state g new.conn.now)
    after_next clean =
        next_stays (state g mid.conn.now) (state g new.conn.now) result (moved.same clean) (moved.kept clean)

    still_books : IsBooks (state g new.conn.now)
    still_books = keeps_books (state g mid.conn.now)
        (state g new.conn.now) _ so_far.books moved.mode moved.survives (λ clean _. after_next clean)
        (λ clean. next_opened (state g mid.conn.now) (state g new.conn.now) (after_next clean))

    one_keeps : KeepsRows (state g mid.conn.now) (state g new.conn.now)
    one_keeps = keeps_rows (state g mid.conn.now)
        (state g new.conn.now) _ so_far.books moved.mode moved.survives (λ clean _. after_next clean)
        (λ clean. next_opened (state g mid.conn.now) (state g new.conn.now) (after_next clean))

    still_keeps : KeepsRows (state g old) (state g new.conn.now)
    still_keeps = then_keeps (state g old) (state g mid.conn.now) (state g new.conn.now) so_far.keeps one_keeps

    still_survives : LeavesNoMore (state g old) (state g new.conn.now)
    still_survives = survives_then (state g old) (state g mid.conn.now) (state g new.conn.now) _ _ _ (λ _ db none. none)
        (λ _ db none. absurd none) so_far.crash moved.survives

    was_clean : HasCleanDisk (state g new.conn.now) → HasCleanDisk (state g mid.conn.now)
    was_clean clean = omega (arith, moved.survives.clean, clean)

    answered_open : (r : Option (Bor Row)) → result ≡ Ok r → HasCleanDisk (state g new.conn.now)
        → IsTrue (state g new.conn.now).is_open
    answered_open r is clean = (subst (λ x. OnOk x (IsUnchanged (state g mid.conn.now) (state g new.conn.now)))
        is (moved.same clean)).0.is_open

    still_unchanged : (r : Option (Bor Row)) → result ≡ Ok r → HasCleanDisk (state g new.conn.now)
        → IsUnchanged (state g old) (state g new.conn.now)
    still_unchanged r is = then_unchanged (state g old) (state g mid.conn.now)
        (state g new.conn.now) was_clean so_far.unchanged so_far.crash
        (λ clean. subst (λ x. OnOk x (IsUnchanged (state g mid.conn.now) (state g new.conn.now))) is (moved.same clean))

    -- the rows that were given before, where the disk returned what was written
    given_before : HasCleanDisk (state g new.conn.now)
        → IsKept (state g mid.conn.now) × (rows : List Row) × HasGiven g text params mid.conn.now rows
    given_before clean =
        let kept : IsKept (state g mid.conn.now) = (was_clean clean, (so_far.unchanged (was_clean clean)).0.is_open) in
        let it = so_far.given kept in
        (kept, it.0, it.1)

    module _ (row : Bor Row) (is : result ≡ Ok (Some row)) where
      given_more : IsKept (state g new.conn.now) → (rows : List Row)
          × HasGiven g text params new.conn.now (rows ++ row.now ∷ []) × (so_far.taken ≡ map of rows)
      given_more kept =
          let it = so_far.given (one_keeps kept).0 in (
            it.0,
            subst (λ r. IfOk r (λ row. Advances g mid.conn.now new.conn.now (option_copied row))) is
                (moved.ok kept.0) text params it.0 it.1,
            it.2,
          )

      pub goes_on : (end : K) → after now (of row.now) end → Walking new.conn.now end (count + 1)
      goes_on end took = record {
        books = still_books;
        keeps = still_keeps;
        crash = still_survives;
        unchanged = still_unchanged (Some row) is;
        counted = length-append so_far.taken (of row.now ∷ []) ∙ ap (λ n. n + 1) so_far.counted;
        taken = so_far.taken ++ of row.now ∷ [];
        takes = all_taken after _ _ _ (one_more after (so_far.taken ++ of row.now ∷ []) (of row.now) [] _ _ _
            (so_far.taken, refl, so_far.takes) took);
        given = λ kept. let it = given_more kept in (
          it.0 ++ row.now ∷ [],
          it.1,
          ap (λ ts. ts ++ of row.now ∷ []) it.2 ∙ sym (map-append of it.0 (row.now ∷ [])),
        );
      }

      -- the row was not taken
      pub left : (rows : List A) (says : SaysRows of text params (state g old) rows) (end : K) (fault : WalkFault)
          → HandsOne after after_stop (of row.now) now end (Err fault) → (fault ≡ why.Store → ¬ IsReadable row.now)
          → Ends rows new.conn.now end (Err fault)
      left rows says end fault hands unread = record {
        books = still_books;
        keeps = still_keeps;
        crash = still_survives;
        open_on = λ clean _. answered_open (Some row) is clean;
        cause = λ clean store. inl (inr (one_unread clean (unread (store_fault fault store))));
        hands = go fault hands;
      }
        where
          one_unread : HasCleanDisk (state g new.conn.now) → ¬ IsReadable row.now
              → IsKept (state g old) × ShowsUnread desk_schema IsReadable text params (state g old).now.trees
          one_unread clean unreadable =
              let kept : IsKept (state g new.conn.now) = (clean, answered_open (Some row) is clean) in
              let it = given_more kept in
              let more = still_keeps kept in
              let start = given_begin g text params new.conn.now (it.0 ++ row.now ∷ []) it.1 in
              let all = answers_on text params says.0 says.1 (state g old)
              (state g new.conn.now) still_books kept more.1 (it.0 ++ row.now ∷ []) start in (
                more.0,
                (
                  says.0,
                  says.1,
                  (it.0 ++ row.now ∷ []) ++ all.0,
                  all.1,
                  not_all IsReadable it.0 row.now all.0 unreadable,
                ),
              )

          value : A
          value = of row.now

          prefix : HasCleanDisk (state g new.conn.now) → (rest : List A) × (rows ≡ (so_far.taken ++ value ∷ []) ++ rest)
          prefix clean =
              let kept : IsKept (state g new.conn.now) = (clean, answered_open (Some row) is clean) in
              let it = given_more kept in
              let more = still_keeps kept in
              let start = given_begin g text params new.conn.now (it.0 ++ row.now ∷ []) it.1 in
              let rest = begins of text params (state g old) rows says
              (state g new.conn.now) still_books kept more.0 more.1 (it.0 ++ row.now ∷ []) start in (
                rest.0,
                rest.1 ∙ ap (λ ts. ts ++ rest.0) (map-append of it.0 (row.now ∷ [])
                    ∙ ap (λ ts. ts ++ value ∷ []) (sym it.2)),
              )

          rest : (rest : List A) × (HasCleanDisk (state g new.conn.now) → (so_far.taken ++ value ∷ []) ++ rest ≡ rows)
          rest = chosen (state g new.conn.now) (so_far.taken ++ value ∷ []) rows prefix

          are : HasCleanDisk (state g new.conn.now) → so_far.taken ++ value ∷ rest.0 ≡ rows
          are clean = sym (append_assoc so_far.taken (value ∷ []) rest.0) ∙ rest.1 clean

          go : (w : WalkFault) → HandsOne after after_stop value now end (Err w)
              → (handed : List A) × Hands after after_stop handed sink end (Err w)
              × (HasCleanDisk (state g new.conn.now) → handed ≡ rows)
          go why.Stopped stop =
              (so_far.taken ++ value ∷ rest.0, (so_far.taken, value, rest.0, refl, now, so_far.takes, stop), are)
          go why.Memory same = (
            so_far.taken ++ value ∷ rest.0,
            (so_far.taken, value ∷ rest.0, refl, subst (Passes after sink so_far.taken) (sym same) so_far.takes),
            are,
          )
          go why.Store same = (
            so_far.taken ++ value ∷ rest.0,
            (so_far.taken, value ∷ rest.0, refl, subst (Passes after sink so_far.taken) (sym same) so_far.takes),
            are,
          )

    -- ---- no further row

    pub ended : result ≡ Ok None → (rows : List A) → SaysRows of text params (state g old) rows
        → Ends rows new.conn.now now (Ok tt)
    ended is rows says = record {
      books = still_books;
      keeps = still_keeps;
      crash = still_survives;
      open_on = λ clean _. answered_open None is clean;
      cause = λ _ store. absurd (let k = store in cc);
      hands = (
        so_far.taken,
        so_far.takes,
        λ clean.
            let kept : IsKept (state g new.conn.now) = (clean, answered_open None is clean) in
            let before = (one_keeps kept).0 in
            let first = so_far.keeps before in
            let it = so_far.given before in
            let shown = subst (λ r. IfOk r (λ row. Advances g mid.conn.now new.conn.now (option_copied row))) is
            (moved.ok kept.0) text params it.0 it.1 in
            it.2 ∙ ends of text params (state g old) rows says (state g mid.conn.now)
            (state g new.conn.now) so_far.books before first.0 first.1 it.0 shown,
      );
    }

    pub broken_off : (rows : List A) → SaysRows of text params (state g old) rows → (e : Error) → result ≡ Err e
        → (fault : WalkFault) → failure_of (Err fault) ≡ Some (fault_of e) → Ends rows new.conn.now now (Err fault)
    broken_off rows says e failed fault is =
        let rest = chosen (state g new.conn.now) so_far.taken rows
        (λ clean. prefix rows says mid.conn.now now count so_far (was_clean clean)) in
        record {
          books = still_books;
          keeps = still_keeps;
          crash = still_survives;
          open_on = λ _ none. absurd (let k = is in cc);
          cause = λ clean store.
              let it = given_before clean in
              let fails = subst (λ x. IfErr x (FailsToAdvance g mid.conn.now new.conn.now)) failed
              (moved.err clean) text params it.1 it.2 in
              inl (inl (
                e,
                let k = is in cc,
                error_later (state g old) (state g mid.conn.now)
                    (state g new.conn.now) was_clean so_far.unchanged so_far.crash text params
                    says.0 says.1 so_far.books clean e fails,
              ));
          hands = (
            so_far.taken ++ rest.0,
            failed_walk after after_stop _ sink now fault (fault_of e) is (so_far.taken, rest.0, refl, so_far.takes),
            rest.1,
          );
        }

  -- after as many rows as a counter counts
  pub cut : (mid : Held S) (now : K) (count : ℕ) → MOST_ROWS ≤ count → Walking mid now count → (rows : List A)
      → SaysRows of text params (state g old) rows → Ends rows mid now (Err why.Store)
  cut mid now count many so_far rows says =
      let rest = chosen (state g mid) so_far.taken rows (prefix rows says mid now count so_far) in
      record {
        books = so_far.books;
        keeps = so_far.keeps;
        crash = so_far.crash;
        open_on = λ clean _. (so_far.unchanged clean).0.is_open;
        cause = λ clean _.
            let kept : IsKept (state g mid) = (clean, (so_far.unchanged clean).0.is_open) in
            let it = so_far.given kept in
            let more = so_far.keeps kept in
            let start = given_begin g text params mid it.0 it.1 in
            let all =
            answers_on text params says.0 says.1 (state g old) (state g mid) so_far.books kept more.1 it.0 start in
            let long : MOST_ROWS ≤ length (it.0 ++ all.0) =
            omega (arith, many, so_far.counted, ap length it.2, length-map it.0 of, length-append it.0 all.0) in
            inr (more.0, (says.0, says.1, it.0 ++ all.0, all.1, long));
        hands = (so_far.taken ++ rest.0, (so_far.taken, rest.0, refl, so_far.takes), rest.1);
      }

-- ---- a walk after a look-up, and a look-up that failed before it

module _ {A K : Type 0} {Fails : State → State → Type 0} (after after_stop : K → A → K → Type 0) (rows : List A)
    (old mid : State) (sink : K) where
  pub then_walks : {Then : State → State → Type 0} (new : State) (end : K) (result : Result (Unit {0}) WalkFault)
      → KeepsRows old mid → (HasCleanDisk mid → IsTrue mid.is_open)
      → LeavesNoMore old mid → ((HasCleanDisk new → HasCleanDisk mid) → HasCleanDisk new → Then mid new → Fails old new)
      → WalksRows Then after after_stop rows mid new sink end result
      → WalksRows Fails after after_stop rows old new sink end result
  then_walks new end result keeps open_on crash later walked = record {
    books = walked.books;
    keeps = then_keeps old mid new keeps walked.keeps;
    open_on = walked.open_on;
    cause = λ clean store. later (clean_before mid new walked.crash) clean (walked.cause clean store);
    hands = walked.hands;
    crash = then_survives old mid new open_on crash walked.crash;
  }

  pub not_begun : (result : Result (Unit {0}) WalkFault) (cause : LookFault)
      → IsErrAnd result (λ fault. failure_of (Err fault) ≡ Some cause) → IsBooks mid → KeepsRows old mid
      → LeavesNoMore old mid → (HasCleanDisk mid → cause ≢ look.Memory → Fails old mid)
      → WalksRows Fails after after_stop rows old mid sink sink result
  not_begun (Ok done) cause is books keeps crash fails = absurd is
  not_begun (Err fault) cause is books keeps crash fails = record {
    books = books;
    keeps = keeps;
    open_on = λ _ none. absurd (let k = is in cc);
    cause = λ clean store. fails clean (λ memory. let k = is in cc);
    hands = (rows, failed_walk after after_stop rows sink sink fault cause is ([], rows, refl, refl), λ _. refl);
    crash = crash;
  }
