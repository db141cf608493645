-- One keyed statement, and the row that it finds.
use Rattle.std.proofs.Common.{OnOk, ◌≡◌, ◌≢◌, inl, inr, refl, sym, subst, List, [], ◌∷◌, ℕ, None, Some, Option, Ok, Err}
use Rattle.std.proofs.Common.{Result, IsTrue, false, map, All, arith}
use Rattle.sqlite_value.specs.declared.value.Value.TheVariants.{Null}
use Rattle.sqlite.specs.Order.{Row}
use Rattle.sqlite.specs.Query.{Query}
use Rattle.sqlite.specs.Effect.{Database, RefusesToRead}
use Rattle.sqlite.specs.Command.{Command}
use Rattle.sqlite.specs.Command.TheVariants.{Select, Rows}
use Rattle.sqlite.specs.Listing.{understood}
use Rattle.sqlite_trees.specs.declared.error.StoreError.{StoreError}
use Rattle.sqlite_trees.specs.declared.error.StoreError.TheVariants.{OutOfMemory}
use Rattle.sqlite.specs.State.{State, HasCleanDisk, QueriesRow, Shown, IsUnchanged, Survives, CommitsShowing}
use Rattle.sqlite.specs.State.{FailsToQuery, IsNotRun, FailsToShow, store_error}
use Rattle.sqlite.specs.declared.error.Error.{Error}
use Rattle.sqlite.specs.declared.error.Error.TheVariants.{QueryReturnedNoRows}
use Rattle.sqlite_resolve.specs.declared.compiled.Compiled.{Compiled}
use Rattle.sqlite_resolve.specs.declared.error.CompileError.{CompileError}
use Rattle.sqlite.proofs.Callers.{IsPlain, command_of, first_as, reads_as, never_commits}
use Rattle.sqlite.proofs.StateLemmas.{survives_weaker}
use Rattle.keycard_rules.specs.declared.issued.LookFault.{LookFault}
use Rattle.keycard_rules.specs.declared.issued.LookFault.TheVariants as why
use Rattle.hotel_statements.specs.Schema.{desk_schema}
use Rattle.hotel_statements.specs.Books.{IsDesk, IsKept, IsBooks, KeepsRows}
use Rattle.hotel_statements.specs.LookUps.{Asks, IsQuery, AnswersFirst, AnswersAll, LeavesNoMore, fault_of, FailsAt}
use Rattle.hotel_statements.proofs.Keeps.{Stays, query_stays, query_opened, keeps_books, keeps_rows, shown_stay}
use Rattle.hotel_statements.proofs.Keeps.{shown_opened, shown_is_open, first_is_open, none_is_open, shown_unchanged}
use Rattle.hotel_statements.proofs.Keeps.{first_unchanged}
use Rattle.hotel_statements.proofs.Keeps.{fails_stay, fail_opened}

-- no other failure is that no row was found
not_read : (command : Command) (limit : Option ℕ) (db : Database) (params : Row)
    → RefusesToRead limit command db params QueryReturnedNoRows → ⊥
not_read (Select q names) limit db params (inl h) = absurd (let e = h.0 in cc)
not_read (Select q names) limit db params (inr (inl h)) = absurd (let e = h.0 in cc)
not_read (Select q names) limit db params (inr (inr h)) = absurd (let e = h.0 in cc)
not_read (Rows values width names) limit db params h = absurd (let e = h.0 in cc)
not_read command limit db params h = absurd cc

not_store : (cause : StoreError) → QueryReturnedNoRows ≡ store_error cause → ⊥
not_store OutOfMemory e = absurd cc
not_store _ e = absurd cc

not_failed : (sql : List ℕ) (params : Row) (old new : State)
    → IsPlain (understood old.now.schema sql) → FailsToQuery sql params old new QueryReturnedNoRows → ⊥
unfolding FailsToQuery IsNotRun
not_failed sql params old new plain (inl (inl (inl h, same))) = absurd (let e = h.2 in cc)
not_failed sql params old new plain (inl (inl (inr (c, is, inl h), same))) = absurd (let e = h.1 in cc)
not_failed sql params old new plain (inl (inl (inr (c, is, inr (inl h)), same))) = absurd (let e = h.1 in cc)
not_failed sql params old new plain (inl (inl (inr (c, is, inr (inr h)), same))) = absurd (let e = h.1 in cc)
not_failed sql params old new plain (inl (inr h)) = not_store h.0 h.1
not_failed sql params old new plain (inr h) =
    let none = (subst IsPlain h.1.is plain).0 in
    not_read h.0.command old.step_limit _ _ (subst (FailsToShow old new sql h.0 _ QueryReturnedNoRows) none h.2).2

pub command_is : (q : Query) (r : Result Compiled CompileError)
    → IsQuery q r → (names : List (List ℕ)) × (command_of r ≡ Select (record { lets = []; body = q }) names)
command_is q (Ok c) is = is
command_is q (Err e) is = absurd is

pub plain_in : (text : List ℕ) (q : Query) (s : State) → Asks text q → IsDesk s → IsPlain (understood s.now.schema text)
plain_in text q s asks desk = subst (λ m. IsPlain (understood m text)) (sym desk.schema) asks.plain

pub is_store : (fault : LookFault) → fault ≢ why.Memory → fault ≡ why.Store
is_store why.Memory other = absurd (other refl)
is_store why.Store other = refl

first_unread : (IsReadable : Row → Type 0) (row first : Row) (more : List Row) → row ≡ first → ¬ IsReadable row
    → ¬ All IsReadable (first ∷ more)
first_unread IsReadable row first more is unread all = unread (subst IsReadable (sym is) (all 0 first (omega arith)))

-- A statement that a desk understands was asked for its first row, on a connection from old to new.
pub record AsksRow (text : List ℕ) (params : Row) (old new : State) (r : Result Row Error) : Type 0 where
  pub books : IsBooks old
  pub asked : (q : Query) × Asks text q
  pub runs : HasCleanDisk new → QueriesRow text params old new r
  pub mode : old.in_transaction ≡ false → new.in_transaction ≡ false
  pub survives : Survives old new (CommitsShowing text params old)

module _ {text : List ℕ} {params : Row} {old new : State} {r : Result Row Error} where
  pub asks_row : IsBooks old → (q : Query) × Asks text q → (HasCleanDisk new → QueriesRow text params old new r)
      → (old.in_transaction ≡ false → new.in_transaction ≡ false) → Survives old new (CommitsShowing text params old)
      → AsksRow text params old new r
  asks_row books asked runs mode survives =
      record { books = books; asked = asked; runs = runs; mode = mode; survives = survives }

module _ {text : List ℕ} {params : Row} {old new : State} {r : Result Row Error}
    (it : AsksRow text params old new r) where
  stays : HasCleanDisk new → IsDesk old → Stays old new
  stays clean desk = query_stays text params old new r (plain_in text it.asked.0 old it.asked.1 desk) (it.runs clean)

  opened : HasCleanDisk new → IsTrue new.is_open → IsTrue old.is_open
  opened clean = query_opened text params old new r (it.runs clean)

  look_keeps : KeepsRows old new
  look_keeps = keeps_rows old new _ it.books it.mode it.survives stays opened

  pub looked : IsBooks new × KeepsRows old new × LeavesNoMore old new
  looked = (
    keeps_books old new _ it.books it.mode it.survives stays opened,
    look_keeps,
    survives_weaker old new _ _ (λ _ db commits kept. never_commits text params old db
        (plain_in text it.asked.0 old it.asked.1 (it.books.desk kept)) commits) it.survives,
  )

  pub look_found : {A : Type 0} (out : Row → A) (row : Row) (x : A)
      → r ≡ Ok row → x ≡ out row → IsKept new → (q : Query) → Asks text q
      → AnswersFirst out q params old.now.trees (Some x)
  look_found out row x is reads kept q asks =
      let desk = it.books.desk (look_keeps kept).0 in
      let got =
      (first_as text params old new desk_schema desk.schema _ (command_is q _ asks.query).1 asks.plain asks.listing row
      (subst (QueriesRow text params old new) is (it.runs kept.0))).1 in
      (row, got.0, got.1 Null, reads)

  pub look_lost : {A : Type 0} (out : Row → A) → r ≡ Err QueryReturnedNoRows → IsKept new → (q : Query)
      → Asks text q → AnswersFirst out q params old.now.trees None
  unfolding QueriesRow
  look_lost out is kept q asks =
      go (it.books.desk (look_keeps kept).0) (subst (QueriesRow text params old new) is (it.runs kept.0))
    where
      go : IsDesk old → QueriesRow text params old new (Err QueryReturnedNoRows)
          → AnswersFirst out q params old.now.trees None
      go desk (inl h) = absurd (not_failed text params old new (plain_in text q old asks desk) h)
      go desk (inr h) = (reads_as text params old new desk_schema desk.schema _
          (command_is q _ asks.query).1 asks.plain asks.listing [] h.1).answer Null

  look_open : (row : Row) → r ≡ Ok row → HasCleanDisk new → IsTrue new.is_open
  look_open row is clean =
      first_is_open text params old new row (subst (QueriesRow text params old new) is (it.runs clean))

  none_open : r ≡ Err QueryReturnedNoRows → HasCleanDisk new → IsTrue new.is_open
  none_open is clean = none_is_open text params old new (subst (QueriesRow text params old new) is (it.runs clean))

  plain_then : HasCleanDisk new → IsTrue new.is_open → IsPlain (understood old.now.schema text)
  plain_then clean is_open = plain_in text it.asked.0 old it.asked.1 (it.books.desk (look_keeps (clean, is_open)).0)

  pub look_unchanged : (row : Row) → r ≡ Ok row → HasCleanDisk new → IsUnchanged old new
  look_unchanged row is clean = first_unchanged text params old new row (plain_then clean (look_open row is clean))
      (subst (QueriesRow text params old new) is (it.runs clean))

  pub none_unchanged : r ≡ Err QueryReturnedNoRows → HasCleanDisk new → IsUnchanged old new
  unfolding QueriesRow
  none_unchanged is clean = go (subst (QueriesRow text params old new) is (it.runs clean))
    where
      plain : IsPlain (understood old.now.schema text)
      plain = plain_then clean (none_open is clean)

      go : QueriesRow text params old new (Err QueryReturnedNoRows) → IsUnchanged old new
      go (inl h) = absurd (not_failed text params old new plain h)
      go (inr h) = shown_unchanged text params old new [] plain h.1

  -- ---- why it failed

  pub look_failed : (IsReadable : Row → Type 0) (e : Error) → r ≡ Err e → (e ≡ QueryReturnedNoRows → ⊥)
      → fault_of e ≢ why.Memory
      → HasCleanDisk new → FailsAt IsReadable text params old new
  unfolding QueriesRow
  look_failed IsReadable e is other cause clean = go (subst (QueriesRow text params old new) is (it.runs clean))
    where
      go : QueriesRow text params old new (Err e) → FailsAt IsReadable text params old new
      go (inl h) = inl (e, is_store (fault_of e) cause, h)
      go (inr h) = absurd (other h.0)

  pub look_unread : (IsReadable : Row → Type 0) (row : Row) → r ≡ Ok row → ¬ IsReadable row → HasCleanDisk new
      → FailsAt IsReadable text params old new
  look_unread IsReadable row is unread clean =
      let kept : IsKept new = (clean, look_open row is clean) in
      let got = look_found (λ v. v) row row is refl kept it.asked.0 it.asked.1 in
      inr (
        (look_keeps kept).0,
        (it.asked.0, it.asked.1, got.0 ∷ got.1, got.2, first_unread IsReadable row got.0 got.1 got.3 unread),
      )

-- ---- all rows of an answer

module _ (text : List ℕ) (params : Row) (old new : State) (books : IsBooks old) (asked : (q : Query) × Asks text q)
    (mode : old.in_transaction ≡ false → new.in_transaction ≡ false)
    (survives : Survives old new (CommitsShowing text params old)) where
  pub all_crash : LeavesNoMore old new
  all_crash = survives_weaker old new _ _ (λ _ db commits kept. never_commits text params old db
      (plain_in text asked.0 old asked.1 (books.desk kept)) commits) survives

  module _ (rows : List Row) (shown : HasCleanDisk new → Shown text params old new rows) where
    all_stays : HasCleanDisk new → IsDesk old → Stays old new
    all_stays clean desk = shown_stay text params old new rows (plain_in text asked.0 old asked.1 desk) (shown clean)

    all_opened : HasCleanDisk new → IsTrue new.is_open → IsTrue old.is_open
    all_opened clean is_open = shown_opened text params old new rows (shown clean)

    pub all_books : IsBooks new
    all_books = keeps_books old new _ books mode survives all_stays all_opened

    pub all_keeps : KeepsRows old new
    all_keeps = keeps_rows old new _ books mode survives all_stays all_opened

    pub all_found : {A : Type 0} (out : Row → A) (all : List A) → all ≡ map out rows → IsKept new → (q : Query)
        → Asks text q → AnswersAll out q params old.now.trees all
    all_found out all reads kept q asks =
        let desk = books.desk (all_keeps kept).0 in (
          rows,
          (reads_as text params old new desk_schema desk.schema _
              (command_is q _ asks.query).1 asks.plain asks.listing rows (shown kept.0)).answer Null,
          reads,
        )

    all_open : HasCleanDisk new → IsTrue new.is_open
    all_open clean = shown_is_open text params old new rows (shown clean)

    pub all_unchanged : HasCleanDisk new → IsUnchanged old new
    all_unchanged clean =
        let before = (all_keeps (clean, all_open clean)).0 in
        shown_unchanged text params old new rows (plain_in text asked.0 old asked.1 (books.desk before)) (shown clean)

    pub all_unread : (IsReadable : Row → Type 0) → ¬ All IsReadable rows → HasCleanDisk new
        → FailsAt IsReadable text params old new
    all_unread IsReadable unread clean =
        let kept : IsKept new = (clean, all_open clean) in
        let before = (all_keeps kept).0 in
        let q = asked.0 in
        let asks = asked.1 in
        let answer =
        (reads_as text params old new desk_schema (books.desk before).schema _ (command_is q _ asks.query).1 asks.plain
        asks.listing rows (shown clean)).answer Null in
        inr (before, (q, asks, rows, answer, unread))

  module _ (e : Error) (fails : HasCleanDisk new → FailsToQuery text params old new e) where
    fault_stays : HasCleanDisk new → IsDesk old → Stays old new
    fault_stays clean desk = fails_stay text params old new e (plain_in text asked.0 old asked.1 desk) (fails clean)

    fault_opened : HasCleanDisk new → IsTrue new.is_open → IsTrue old.is_open
    fault_opened clean = fail_opened text params old new e (fails clean)

    pub fault_books : IsBooks new
    fault_books = keeps_books old new _ books mode survives fault_stays fault_opened

    pub fault_keeps : KeepsRows old new
    fault_keeps = keeps_rows old new _ books mode survives fault_stays fault_opened

    pub fault_cause : (IsReadable : Row → Type 0) → fault_of e ≢ why.Memory → HasCleanDisk new
        → FailsAt IsReadable text params old new
    fault_cause IsReadable cause clean = inl (e, is_store (fault_of e) cause, fails clean)

pub on_ok_always : {A E P : Type 0} (r : Result A E) → P → OnOk r P
on_ok_always (Ok a) p = p
on_ok_always (Err e) p = tt
