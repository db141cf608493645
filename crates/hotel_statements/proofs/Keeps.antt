-- What a look-up leaves of the books.
use Rattle.std.proofs.Common.{◌≡◌, ◌⊎◌, inl, inr, sym, subst, ◌∙◌, List, [], ℕ, false, Option, None, Some, Ok, Err}
use Rattle.std.proofs.Common.{Result, IsTrue, arith}
use Rattle.std.specs.Prelude.{OnOk, IfErr}
use Rattle.sqlite_trees.specs.declared.store.Store.{Ghosts}
use Rattle.sqlite.specs.Held.{Held, state}
use Rattle.sqlite.specs.Given.{HasBegun}
use Rattle.sqlite.specs.Order.{Row}
use Rattle.sqlite.specs.Tree.{Trees}
use Rattle.sqlite.specs.Listing.{understood}
use Rattle.sqlite.specs.State.{State, HasCleanDisk, QueriesRow, Shown, FailsToQuery, IsNotRun, IsUnchanged}
use Rattle.sqlite.specs.State.{IsRolledBack, Survives, ShowsRows, FailsToShow, Fails, store_error}
use Rattle.sqlite_trees.specs.declared.error.StoreError.{StoreError}
use Rattle.sqlite_trees.specs.declared.error.StoreError.TheVariants.{OutOfMemory}
use Rattle.sqlite.specs.declared.error.Error.TheVariants.{QueryReturnedNoRows}
use Rattle.sqlite.specs.declared.error.Error.{Error}
use Rattle.sqlite.proofs.Callers.{IsPlain}
use Rattle.sqlite_schema.specs.declared.command.Returning.{Returning}
use Rattle.sqlite_resolve.specs.declared.compiled.Compiled.{Compiled}
use Rattle.sqlite.proofs.StateLemmas.{survives_then}
use Rattle.hotel_statements.specs.Books.{IsDesk, IsKept, IsBooks, KeepsRows}
use Rattle.hotel_statements.specs.LookUps.{LeavesNoMore}
use Rattle.hotel_statements.proofs.Books.{desk_shown}

abbrev pub Stays : State → State → Type 0
Stays old new = IsUnchanged old new ⊎ IsRolledBack old new

pub fails_stay : (sql : List ℕ) (params : Row) (old new : State) (e : Error)
    → IsPlain (understood old.now.schema sql) → FailsToQuery sql params old new e → Stays old new
unfolding FailsToQuery IsNotRun
fails_stay sql params old new e plain (inl (inl refused)) = inl refused.1
fails_stay sql params old new e plain (inl (inr failed)) = inr failed.3
fails_stay sql params old new e plain (inr h) =
    let none = (subst IsPlain h.1.is plain).0 in
    inl (subst (FailsToShow old new sql h.0 _ e) none h.2).3

pub query_stays : (sql : List ℕ) (params : Row) (old new : State) (r : Result Row Error)
    → IsPlain (understood old.now.schema sql) → QueriesRow sql params old new r
    → Stays old new
unfolding QueriesRow Shown
query_stays sql params old new (Ok row) plain (inl h) = inl h.1
query_stays sql params old new (Ok row) plain (inr h) =
    let none = (subst IsPlain h.1.1.is plain).0 in
    inl (subst (ShowsRows old new sql h.1.0 _ h.0) none h.1.2).3
query_stays sql params old new (Err e) plain (inl h) = fails_stay sql params old new e plain h
query_stays sql params old new (Err e) plain (inr h) =
    let none = (subst IsPlain h.1.1.is plain).0 in
    inl (subst (ShowsRows old new sql h.1.0 _ []) none h.1.2).3

desk_stays : (old new : State) → Stays old new → IsDesk old → IsTrue new.is_open → IsDesk new × (new.now ≡ old.now)
desk_stays old new (inl same) desk is_open =
    let now = same.0.now_is in
    (desk_shown desk.schema desk.tables now (now ∙ desk.settled ∙ sym same.0.committed_is), now)
desk_stays old new (inr back) desk is_open =
    let undone = back.undone is_open in
    let now : new.now ≡ old.now = undone.0 ∙ sym desk.settled in
    (desk_shown desk.schema desk.tables now (undone.0 ∙ sym undone.1), now)

-- Whatever the text is, a connection that is open now was open.
show_opened : (sql : List ℕ) (c : Compiled) (params : Row) (old new : State) (rows : List Row) (how : Option Returning)
    → ShowsRows old new sql c params rows how
    → IsTrue old.is_open
show_opened sql c params old new rows None h = h.3.0.was_open
show_opened sql c params old new rows (Some what) h = h.1.shown.was_open

failed_opened : (sql : List ℕ) (c : Compiled) (params : Row) (old new : State) (e : Error) (how : Option Returning)
    → FailsToShow old new sql c params e how → IsTrue new.is_open
    → IsTrue old.is_open
failed_opened sql c params old new e None h is_open = h.3.0.was_open
failed_opened sql c params old new e (Some what) (inl h) is_open = h.1.0.was_open
failed_opened sql c params old new e (Some what) (inr h) is_open = h.3.was_open is_open

pub fail_opened : (sql : List ℕ) (params : Row) (old new : State) (e : Error)
    → FailsToQuery sql params old new e → IsTrue new.is_open → IsTrue old.is_open
unfolding FailsToQuery IsNotRun
fail_opened sql params old new e (inl (inl h)) is_open = h.1.0.was_open
fail_opened sql params old new e (inl (inr h)) is_open = h.3.was_open is_open
fail_opened sql params old new e (inr h) is_open = failed_opened sql h.0 _ old new e h.0.returning h.2 is_open

pub query_opened : (sql : List ℕ) (params : Row) (old new : State) (r : Result Row Error)
    → QueriesRow sql params old new r → IsTrue new.is_open → IsTrue old.is_open
unfolding QueriesRow Shown
query_opened sql params old new (Ok row) (inl h) is_open = h.1.0.was_open
query_opened sql params old new (Ok row) (inr h) is_open = show_opened sql h.1.0 _ old new h.0 h.1.0.returning h.1.2
query_opened sql params old new (Err e) (inl h) is_open = fail_opened sql params old new e h is_open
query_opened sql params old new (Err e) (inr h) is_open = show_opened sql h.1.0 _ old new [] h.1.0.returning h.1.2

module _ (old new : State) (P : Trees → Type 0) (books : IsBooks old)
    (mode : old.in_transaction ≡ false → new.in_transaction ≡ false) (survives : Survives old new P)
    (stays : HasCleanDisk new → IsDesk old → Stays old new)
    (opened : HasCleanDisk new → IsTrue new.is_open → IsTrue old.is_open) where
  pub was_kept : IsKept new → IsKept old
  was_kept kept = (omega (arith, survives.clean, kept.0), opened kept.0 kept.1)

  pub keeps_books : IsBooks new
  keeps_books = record {
    autocommit = mode books.autocommit;
    desk = λ kept. let desk = books.desk (was_kept kept) in (desk_stays old new (stays kept.0 desk) desk kept.1).0;
  }

  pub keeps_rows : KeepsRows old new
  keeps_rows kept =
      let desk = books.desk (was_kept kept) in (was_kept kept, (desk_stays old new (stays kept.0 desk) desk kept.1).1)

pub shown_opened : (sql : List ℕ) (params : Row) (old new : State) (rows : List Row)
    → Shown sql params old new rows → IsTrue old.is_open
unfolding Shown
shown_opened sql params old new rows h = show_opened sql h.0 _ old new rows h.0.returning h.2

pub shown_stay : (sql : List ℕ) (params : Row) (old new : State) (rows : List Row)
    → IsPlain (understood old.now.schema sql) → Shown sql params old new rows → Stays old new
unfolding Shown
shown_stay sql params old new rows plain h =
    let none = (subst IsPlain h.1.is plain).0 in
    inl (subst (ShowsRows old new sql h.0 _ rows) none h.2).3

-- ---- a statement that showed rows left the connection open, whatever the text is

show_is_open : (sql : List ℕ) (c : Compiled) (params : Row) (old new : State) (rows : List Row) (how : Option Returning)
    → ShowsRows old new sql c params rows how
    → IsTrue new.is_open
show_is_open sql c params old new rows None h = h.3.0.is_open
show_is_open sql c params old new rows (Some what) h = h.1.shown.is_open

pub shown_is_open : (sql : List ℕ) (params : Row) (old new : State) (rows : List Row)
    → Shown sql params old new rows → IsTrue new.is_open
unfolding Shown
shown_is_open sql params old new rows h = show_is_open sql h.0 _ old new rows h.0.returning h.2

pub first_is_open : (sql : List ℕ) (params : Row) (old new : State) (row : Row)
    → QueriesRow sql params old new (Ok row) → IsTrue new.is_open
unfolding QueriesRow
first_is_open sql params old new row (inl h) = h.1.0.is_open
first_is_open sql params old new row (inr h) = shown_is_open sql params old new h.0 h.1

not_store : (cause : StoreError) → QueryReturnedNoRows ≡ store_error cause → ⊥
not_store OutOfMemory e = absurd cc
not_store _ e = absurd cc

none_show_open : (sql : List ℕ) (c : Compiled) (params : Row) (old new : State) (how : Option Returning)
    → FailsToShow old new sql c params QueryReturnedNoRows how → IsTrue new.is_open
none_show_open sql c params old new None h = h.3.0.is_open
none_show_open sql c params old new (Some what) (inl h) = h.1.0.is_open
none_show_open sql c params old new (Some what) (inr h) = absurd (not_store h.0 h.1)

none_fail_open : (sql : List ℕ) (params : Row) (old new : State)
    → FailsToQuery sql params old new QueryReturnedNoRows → IsTrue new.is_open
unfolding FailsToQuery IsNotRun
none_fail_open sql params old new (inl (inl h)) = h.1.0.is_open
none_fail_open sql params old new (inl (inr h)) = absurd (not_store h.0 h.1)
none_fail_open sql params old new (inr h) = none_show_open sql h.0 _ old new h.0.returning h.2

pub none_is_open : (sql : List ℕ) (params : Row) (old new : State)
    → QueriesRow sql params old new (Err QueryReturnedNoRows) → IsTrue new.is_open
unfolding QueriesRow
none_is_open sql params old new (inl h) = none_fail_open sql params old new h
none_is_open sql params old new (inr h) = shown_is_open sql params old new [] h.1

-- ---- a plain statement that was answered changed nothing

pub shown_unchanged : (sql : List ℕ) (params : Row) (old new : State) (rows : List Row)
    → IsPlain (understood old.now.schema sql)
    → Shown sql params old new rows → IsUnchanged old new
unfolding Shown
shown_unchanged sql params old new rows plain h =
    let none = (subst IsPlain h.1.is plain).0 in
    (subst (ShowsRows old new sql h.0 _ rows) none h.2).3

pub first_unchanged : (sql : List ℕ) (params : Row) (old new : State) (row : Row)
    → IsPlain (understood old.now.schema sql)
    → QueriesRow sql params old new (Ok row) → IsUnchanged old new
unfolding QueriesRow
first_unchanged sql params old new row plain (inl h) = h.1
first_unchanged sql params old new row plain (inr h) = shown_unchanged sql params old new h.0 plain h.1

-- ---- a query that began

pub begun_opened : {S : Type 0} (g : Ghosts S) (text : List ℕ) (params : Row) (old new : Held S)
    → HasBegun g text params old new → IsTrue (state g old).is_open
begun_opened g text params old new (inl h) = h.1.0.was_open
begun_opened g text params old new (inr h) = shown_opened text params (state g old) (state g new) _ h.1

pub begun_is_open : {S : Type 0} (g : Ghosts S) (text : List ℕ) (params : Row) (old new : Held S)
    → HasBegun g text params old new → IsTrue (state g new).is_open
begun_is_open g text params old new (inl h) = h.1.0.is_open
begun_is_open g text params old new (inr h) = shown_is_open text params (state g old) (state g new) _ h.1

-- and its next row

pub next_stays : {R : Type 0} (old new : State) (result : Result R Error) → OnOk result (IsUnchanged old new)
    → IfErr result (λ e. Fails old new ⊥ e ⊎ IsUnchanged old new) → Stays old new
next_stays old new (Ok row) same kept = inl same
next_stays old new (Err e) same kept = elim kept [ inl fails ↦ inr fails.3 | inr still ↦ inl still ]

pub next_opened : (old new : State) → Stays old new → IsTrue new.is_open → IsTrue old.is_open
next_opened old new (inl same) is_open = same.0.was_open
next_opened old new (inr back) is_open = back.was_open is_open

-- ---- two look-ups, the first of which was answered

pub then_keeps : (old mid new : State) → KeepsRows old mid → KeepsRows mid new → KeepsRows old new
then_keeps old mid new first then kept =
    let after = then kept in
    let before = first after.0 in
    (before.0, after.1 ∙ before.1)

pub then_survives : (old mid new : State)
    → (HasCleanDisk mid → IsTrue mid.is_open) → LeavesNoMore old mid → LeavesNoMore mid new
    → LeavesNoMore old new
then_survives old mid new open_on first then =
    survives_then old mid new _ _ _ (λ _ db none. none) (λ clean db none kept.
    let before : HasCleanDisk mid = omega (arith, then.clean, clean) in
    none (before, open_on before)) first then
