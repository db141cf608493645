-- A whole table whose rows are read, one at a time: what that leaves of the connection.
use Rattle.std.proofs.Common.{◌≡◌, inl, inr, sym, ap, subst, ◌∙◌, List, [], ◌∷◌, ◌++◌, ℕ, OnOk, IfOk, IfErr, Ok, Err}
use Rattle.std.proofs.Common.{Result, Option, Some, None, IsTrue, ◌≢◌, false, refl, arith}
use Rattle.std.specs.Prelude.{option_copied}
use Rattle.std.specs.Borrow.{Bor}
use Rattle.sqlite_value.specs.declared.value.Value.TheVariants.{Null}
use Rattle.sqlite_trees.specs.declared.store.Store.{Ghosts}
use Rattle.sqlite.specs.Order.{Row}
use Rattle.sqlite.specs.Tree.{Trees}
use Rattle.sqlite.specs.Query.{Query, IsAnswer}
use Rattle.sqlite.specs.Program.{overlay}
use Rattle.sqlite.specs.Effect.{Database}
use Rattle.sqlite.specs.Held.{Held, state}
use Rattle.sqlite.specs.Given.{HasGiven, HasBegun, Advances, FailsToAdvance}
use Rattle.sqlite.specs.Next.{HasMoved}
use Rattle.sqlite.specs.Listing.{understood}
use Rattle.sqlite.specs.Schema.{Schema}
use Rattle.sqlite.specs.State.{State, HasCleanDisk, IsUnchanged, Begins, Shown, Survives, CommitsShowing, FailsToQuery}
use Rattle.sqlite.specs.declared.error.Error.{Error}
use Rattle.sqlite.specs.declared.rows.stream.Rows.{Rows}
use Rattle.sqlite.proofs.Callers.{IsPlain, begins_as, reads_as, begun_plain, given_begin, never_commits}
use Rattle.sqlite.proofs.StateLemmas.{survives_then, survives_weaker}
use Rattle.keycard_rules.specs.declared.issued.LookFault.{LookFault}
use Rattle.keycard_rules.specs.declared.issued.LookFault.TheVariants as why
use Rattle.hotel_statements.specs.declared.version.Version.{Version}
use Rattle.hotel_statements.specs.Schema.{HasTablesOf}
use Rattle.hotel_statements.specs.Books.{IsKept, KeepsRows}
use Rattle.hotel_statements.specs.LookUps.{AsksOf, fault_of, FailsIn, ShowsUnread, LeavesNoMore}
use Rattle.hotel_statements.specs.WholeTables.{IsOurs, ReadsPart}
use Rattle.hotel_statements.proofs.Keeps.{Stays, fails_stay, fail_opened, then_keeps, begun_opened, begun_is_open}
use Rattle.hotel_statements.proofs.Keeps.{next_stays, next_opened}
use Rattle.hotel_statements.proofs.Since.{then_unchanged, query_then}
use Rattle.hotel_statements.proofs.Looked.{command_is, is_store}
use Rattle.hotel_statements.proofs.Walked.{not_all}

abbrev HasTables : Version → State → Type 0
HasTables version s = HasTablesOf version s.now.schema × (s.now ≡ s.committed)

has_still : (version : Version) {db now : Database} → now ≡ db → HasTablesOf version db.schema
    → HasTablesOf version now.schema
has_still version same has = (has.0, ap (λ (d : Database). d.schema) same ∙ has.1)

ours_stay : (version : Version) (old new : State) → Stays old new → HasTables version old → IsTrue new.is_open
    → HasTables version new × (new.now ≡ old.now)
ours_stay version old new (inl same) has is_open =
    let now = same.0.now_is in
    ((has_still version now has.0, now ∙ has.1 ∙ sym same.0.committed_is), now)
ours_stay version old new (inr back) has is_open =
    let undone = back.undone is_open in
    let now : new.now ≡ old.now = undone.0 ∙ sym has.1 in
    ((has_still version now has.0, undone.0 ∙ sym undone.1), now)

module _ (version : Version) (old new : State) (P : Trees → Type 0) (ours : IsOurs version old)
    (mode : old.in_transaction ≡ false → new.in_transaction ≡ false) (survives : Survives old new P)
    (stays : HasCleanDisk new → IsKept old → Stays old new)
    (opened : HasCleanDisk new → IsTrue new.is_open → IsTrue old.is_open) where
  was_kept : IsKept new → IsKept old
  was_kept kept = (omega (arith, survives.clean, kept.0), opened kept.0 kept.1)

  after : (kept : IsKept new) → HasTables version new × (new.now ≡ old.now)
  after kept = let was = was_kept kept in ours_stay version old new (stays kept.0 was) (ours.tables was) kept.1

  read_ours : IsOurs version new
  read_ours = record { autocommit = mode ours.autocommit; tables = λ kept. (after kept).0 }

  read_keeps : KeepsRows old new
  read_keeps kept = (was_kept kept, (after kept).1)

-- Part-way through a table: the statement has given some rows, of which this is known, and left all as it was.
pub record IsPartRead {S : Type 0} (g : Ghosts S) (version : Version) (text : List ℕ) (old now : Held S)
    (Known : List Row → Type 0) : Type 0 where
  pub ours : IsOurs version (state g now)
  pub keeps : KeepsRows (state g old) (state g now)
  pub crash : LeavesNoMore (state g old) (state g now)
  pub unchanged : HasCleanDisk (state g now) → IsUnchanged (state g old) (state g now)
  pub given : IsKept (state g now) → (rows : List Row) × HasGiven g text [] now rows × Known rows

module _ {S : Type 0} (g : Ghosts S) (version : Version) (text : List ℕ) (q : Query)
    (asks : (schema : Schema) → HasTablesOf version schema → AsksOf schema text q)
    (old : Held S) (ours : IsOurs version (state g old)) where
  asks_at : (s : State) → IsOurs version s → IsKept s → AsksOf s.now.schema text q
  asks_at s here kept = asks s.now.schema (here.tables kept).0

  plain_at : (s : State) → IsOurs version s → IsKept s → IsPlain (understood s.now.schema text)
  plain_at s here kept = (asks_at s here kept).plain

  -- what is read of the table, unless the statement fails or a row can't be read
  abbrev Reads : {R : Type 0} → (Row → Type 0) → (R → Trees → Type 0) → Held S → Result R LookFault → Type 0
  Reads IsReadable Says now result =
      ReadsPart version (λ s t. FailsIn s.now.schema IsReadable text [] s t) Says (state g old) (state g now) result

  -- the rows that are given begin an answer
  answers_on : (s : State) → IsOurs version s → IsKept s → s.now ≡ (state g old).now → (given : List Row)
      → Begins text [] s given
      → (tail : List Row) × IsAnswer q (overlay (state g old).now.trees []) [] (given ++ tail)
  answers_on s here kept same given start =
      let asked = asks_at s here kept in
      let first = (begins_as text [] s s s.now.schema refl _
      (command_is q _ asked.query).1 asked.plain asked.listing given start).1 in
      (first.0, subst (λ (d : Database). IsAnswer q (overlay d.trees []) [] (given ++ first.0)) same (first.1 Null))

  -- ---- the query begins, or is refused

  module _ (new : Held S) (mode : old.in_transaction ≡ false → new.in_transaction ≡ false)
      (survives : Survives (state g old) (state g new) (CommitsShowing text [] (state g old))) where
    begun_crash : LeavesNoMore (state g old) (state g new)
    begun_crash = survives_weaker (state g old) (state g new) _ _
        (λ _ db commits kept. never_commits text [] (state g old) db (plain_at (state g old) ours kept) commits)
        survives

    pub starts : (Known : List Row → Type 0) → Known [] → (HasCleanDisk (state g new) → HasBegun g text [] old new)
        → IsPartRead g version text old new Known
    starts Known none begun =
        let stays : HasCleanDisk (state g new) → IsKept (state g old) → Stays (state g old) (state g new) =
        λ clean kept. inl (begun_plain g text [] old new (plain_at (state g old) ours kept) (begun clean)).1 in
        let opened : HasCleanDisk (state g new) → IsTrue (state g new).is_open → IsTrue (state g old).is_open =
        λ clean _. begun_opened g text [] old new (begun clean) in
        let keeps = read_keeps version (state g old) (state g new) _ ours mode survives stays opened in
        let gives : IsKept (state g new) → HasGiven g text [] new [] × IsUnchanged (state g old) (state g new) =
        λ kept. begun_plain g text [] old new (plain_at (state g old) ours (keeps kept).0) (begun kept.0) in
        record {
          ours = read_ours version (state g old) (state g new) _ ours mode survives stays opened;
          keeps = keeps;
          crash = begun_crash;
          unchanged = λ clean. (gives (clean, begun_is_open g text [] old new (begun clean))).1;
          given = λ kept. ([], (gives kept).0, none);
        }

    pub refused : {R : Type 0} (IsReadable : Row → Type 0) (Says : R → Trees → Type 0) (e : Error) (fault : LookFault)
        → fault ≡ fault_of e
        → (HasCleanDisk (state g new) → FailsToQuery text [] (state g old) (state g new) e)
        → Reads IsReadable Says new (Err fault)
    refused IsReadable Says e fault is fails =
        let stays : HasCleanDisk (state g new) → IsKept (state g old) → Stays (state g old) (state g new) =
        λ clean kept. fails_stay text [] (state g old) (state g new) e (plain_at (state g old) ours kept)
        (fails clean) in
        let opened : HasCleanDisk (state g new) → IsTrue (state g new).is_open → IsTrue (state g old).is_open =
        λ clean. fail_opened text [] (state g old) (state g new) e (fails clean) in
        record {
          ours = read_ours version (state g old) (state g new) _ ours mode survives stays opened;
          keeps = read_keeps version (state g old) (state g new) _ ours mode survives stays opened;
          says = λ _. tt;
          open_on = λ _ _. tt;
          unchanged = λ _ _. tt;
          cause = λ clean other. inl (e, sym is ∙ is_store fault other, fails clean);
          crash = begun_crash;
        }

  -- ---- one more row

  module _ {Known : List Row → Type 0} (mid new : Rows S g) (result : Result (Option (Bor Row)) Error)
      (moved : HasMoved g mid result new) (so_far : IsPartRead g version text old mid.conn.now Known) where
    after_next : HasCleanDisk (state g new.conn.now) → Stays (state g mid.conn.now) (state g new.conn.now)
    after_next clean =
        next_stays (state g mid.conn.now) (state g new.conn.now) result (moved.same clean) (moved.kept clean)

    still_ours : IsOurs version (state g new.conn.now)
    still_ours = read_ours version (state g mid.conn.now)
        (state g new.conn.now) _ so_far.ours moved.mode moved.survives (λ clean _. after_next clean)
        (λ clean. next_opened (state g mid.conn.now) (state g new.conn.now) (after_next clean))

    one_keeps : KeepsRows (state g mid.conn.now) (state g new.conn.now)
    one_keeps = read_keeps version (state g mid.conn.now)
        (state g new.conn.now) _ so_far.ours moved.mode moved.survives (λ clean _. after_next clean)
        (λ clean. next_opened (state g mid.conn.now) (state g new.conn.now) (after_next clean))

    still_keeps : KeepsRows (state g old) (state g new.conn.now)
    still_keeps = then_keeps (state g old) (state g mid.conn.now) (state g new.conn.now) so_far.keeps one_keeps

    still_survives : LeavesNoMore (state g old) (state g new.conn.now)
    still_survives = survives_then (state g old) (state g mid.conn.now) (state g new.conn.now) _ _ _ (λ _ db none. none)
        (λ _ db none. absurd none) so_far.crash moved.survives

    was_clean : HasCleanDisk (state g new.conn.now) → HasCleanDisk (state g mid.conn.now)
    was_clean clean = omega (arith, moved.survives.clean, clean)

    still_unchanged : (r : Option (Bor Row)) → result ≡ Ok r → HasCleanDisk (state g new.conn.now)
        → IsUnchanged (state g old) (state g new.conn.now)
    still_unchanged r is = then_unchanged (state g old) (state g mid.conn.now)
        (state g new.conn.now) was_clean so_far.unchanged so_far.crash
        (λ clean. subst (λ x. OnOk x (IsUnchanged (state g mid.conn.now) (state g new.conn.now))) is (moved.same clean))

    kept_on : (r : Option (Bor Row)) → result ≡ Ok r → HasCleanDisk (state g new.conn.now)
        → IsKept (state g new.conn.now)
    kept_on r is clean = (clean, (still_unchanged r is clean).0.is_open)

    module _ (row : Bor Row) (is : result ≡ Ok (Some row)) where
      given_more : IsKept (state g new.conn.now) → (rows : List Row)
          × HasGiven g text [] new.conn.now (rows ++ row.now ∷ []) × Known rows
      given_more kept =
          let it = so_far.given (one_keeps kept).0 in (
            it.0,
            subst (λ r. IfOk r (λ row. Advances g mid.conn.now new.conn.now (option_copied row))) is
                (moved.ok kept.0) text [] it.0 it.1,
            it.2,
          )

      pub goes_on : (Now : List Row → Type 0) → ((rows : List Row) → Known rows → Now (rows ++ row.now ∷ []))
          → IsPartRead g version text old new.conn.now Now
      goes_on Now more = record {
        ours = still_ours;
        keeps = still_keeps;
        crash = still_survives;
        unchanged = still_unchanged (Some row) is;
        given = λ kept. let it = given_more kept in (it.0 ++ row.now ∷ [], it.1, more it.0 it.2);
      }

      -- the row isn't read
      pub left : {R : Type 0} (IsReadable : Row → Type 0) (Says : R → Trees → Type 0) (fault : LookFault)
          → (fault ≢ why.Memory → ¬ IsReadable row.now) → Reads IsReadable Says new.conn.now (Err fault)
      left IsReadable Says fault unread = record {
        ours = still_ours;
        keeps = still_keeps;
        says = λ _. tt;
        open_on = λ _ _. tt;
        unchanged = λ _ _. tt;
        cause = λ clean other. inr (shows clean (unread other));
        crash = still_survives;
      }
        where
          shows : HasCleanDisk (state g new.conn.now) → ¬ IsReadable row.now
              → IsKept (state g old)
              × ShowsUnread (state g old).now.schema IsReadable text [] (state g old).now.trees
          shows clean unreadable =
              let kept = kept_on (Some row) is clean in
              let it = given_more kept in
              let was = still_keeps kept in
              let start = given_begin g text [] new.conn.now (it.0 ++ row.now ∷ []) it.1 in
              let all = answers_on (state g new.conn.now) still_ours kept was.1 (it.0 ++ row.now ∷ []) start in (
                was.0,
                (
                  q,
                  asks_at (state g old) ours was.0,
                  (it.0 ++ row.now ∷ []) ++ all.0,
                  all.1,
                  not_all IsReadable it.0 row.now all.0 unreadable,
                ),
              )

    -- ---- no further row

    pub ended : {R : Type 0} (IsReadable : Row → Type 0) (Says : R → Trees → Type 0) (r : R) → result ≡ Ok None
        → ((rows : List Row) → Known rows → IsAnswer q (overlay (state g old).now.trees []) [] rows
        → Says r (state g old).now.trees)
        → Reads IsReadable Says new.conn.now (Ok r)
    ended IsReadable Says r is says = record {
      ours = still_ours;
      keeps = still_keeps;
      says = λ kept.
          let before = (one_keeps kept).0 in
          let it = so_far.given before in
          let shown : Shown text [] (state g mid.conn.now) (state g new.conn.now) it.0 =
          subst (λ r. IfOk r (λ row. Advances g mid.conn.now new.conn.now (option_copied row))) is
          (moved.ok kept.0) text [] it.0 it.1 in
          let asked = asks_at (state g mid.conn.now) so_far.ours before in
          let answer = (reads_as text [] (state g mid.conn.now) (state g new.conn.now)
          (state g mid.conn.now).now.schema refl _
          (command_is q _ asked.query).1 asked.plain asked.listing it.0 shown).answer Null in
          says it.0 it.2 (subst (λ (d : Database). IsAnswer q (overlay d.trees []) [] it.0)
          (so_far.keeps before).1 answer);
      open_on = λ _ clean. (still_unchanged None is clean).0.is_open;
      unchanged = λ _. still_unchanged None is;
      cause = λ _. tt;
      crash = still_survives;
    }

    pub broken_off : {R : Type 0} (IsReadable : Row → Type 0) (Says : R → Trees → Type 0) (e : Error)
        (fault : LookFault)
        → result ≡ Err e → fault ≡ fault_of e → Reads IsReadable Says new.conn.now (Err fault)
    broken_off IsReadable Says e fault failed is = record {
      ours = still_ours;
      keeps = still_keeps;
      says = λ _. tt;
      open_on = λ _ _. tt;
      unchanged = λ _ _. tt;
      cause = λ clean other.
          let same = so_far.unchanged (was_clean clean) in
          let before : IsKept (state g mid.conn.now) = (was_clean clean, same.0.is_open) in
          let it = so_far.given before in
          let fails = subst (λ x. IfErr x (FailsToAdvance g mid.conn.now new.conn.now)) failed
          (moved.err clean) text [] it.0 it.1 in
          inl (
            e,
            sym is ∙ is_store fault other,
            query_then (state g old) (state g mid.conn.now) (state g new.conn.now) same so_far.crash text [] e
                (plain_at (state g mid.conn.now) so_far.ours before) fails,
          );
      crash = still_survives;
    }

  -- after as many rows as a counter counts
  pub cut : {R : Type 0} {Known : List Row → Type 0} (IsReadable : Row → Type 0) (Says : R → Trees → Type 0)
      (mid : Held S) → IsPartRead g version text old mid Known → Reads IsReadable Says mid (Err why.Memory)
  cut IsReadable Says mid so_far = record {
    ours = so_far.ours;
    keeps = so_far.keeps;
    says = λ _. tt;
    open_on = λ _ _. tt;
    unchanged = λ _ _. tt;
    cause = λ _ other. absurd (other refl);
    crash = so_far.crash;
  }

-- the same of a connection that shows as much, and of a result that is this one
pub moved_to : {R : Type 0} (version : Version) (Fails : State → State → Type 0) (Says : R → Trees → Type 0)
    (old : State) {mid new : State} {first result : Result R LookFault} → first ≡ result → mid ≡ new
    → ReadsPart version Fails Says old mid first → ReadsPart version Fails Says old new result
moved_to version Fails Says old {mid} {new} {first} same is reads =
    subst (ReadsPart version Fails Says old new) same (subst (λ s. ReadsPart version Fails Says old s first) is reads)
