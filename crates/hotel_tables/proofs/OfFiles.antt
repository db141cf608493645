-- The books of a file, by what its opening answered, and its files after a close.
use Rattle.std.proofs.Common.{◌≡◌, refl, sym, ap, subst, ◌∙◌, inl, inr, length, Ok, Err, Result, ◌&&◌, arith}
use Rattle.std.specs.Prelude.{IfOk, IfErr, IsTrue}
use Rattle.sqlite_disk.specs.declared.Disk as disk
use Rattle.sqlite_trees.specs.declared.store.Store.{Ghosts}
use Rattle.sqlite_disk.specs.declared.Files.{Files}
use Rattle.sqlite_store.specs.declared.store.FileStore.{FileStore}
use Rattle.sqlite_store.specs.FileStore.{view}
use Rattle.sqlite_trees.specs.View.{IsClean}
use Rattle.sqlite.specs.declared.error.Error.{Error}
use Rattle.sqlite.specs.Schema.{Schema}
use Rattle.sqlite.specs.State.{State, IsLive}
use Rattle.sqlite.specs.Held.{Held, state}
use Rattle.sqlite.specs.Opening.{is_open_error}
use Rattle.sqlite.specs.Files.{file_state, IsClosed, FailsToClose}
use Rattle.sqlite.specs.Closing.{IsCopied}
use Rattle.hotel_model.proofs.OfTables.RowTests.{both}
use Rattle.keycard_rules.specs.declared.issued.LookFault.{LookFault}
use Rattle.keycard_rules.specs.declared.issued.LookFault.TheVariants as look
use Rattle.hotel_rows.specs.declared.open_fault.OpenFault.{OpenFault}
use Rattle.hotel_rows.specs.declared.open_fault.OpenFault.TheVariants as fault
use Rattle.hotel_statements.specs.LookUps.{fault_of}
use Rattle.hotel_tables.specs.TableBooks.{Tabled}
use Rattle.hotel_statements.specs.declared.version.Version.{Version}
use Rattle.hotel_statements.specs.declared.version.Version.TheVariants.{First, Second}
use Rattle.hotel_statements.specs.declared.version.Layout.{Layout}
use Rattle.hotel_statements.specs.Schema.{no_schema, schema_of, version_of, tables_of}
use Rattle.hotel_statements.proofs.SameSchema.{count_tables_of}
use Rattle.hotel_statements.specs.Books.{IsBooks}
use Rattle.hotel_statements.specs.Tables.{rows_in}
use Rattle.hotel_tables.specs.Opening.{IsCreated, IsOpened, fault_for}
use Rattle.hotel_tables.specs.Exits.{LeavesBare, LeavesDatabase}
use Rattle.hotel_tables.specs.Paths.{IsPathError}
use Rattle.hotel_tables.specs.Files.{AreBooksOf, IsWhyNone, HoldBooks}
use Rattle.hotel_tables.proofs.EmptyDesk.{empty_counted}
use Rattle.hotel_tables.proofs.Reopened.{files_keep_books}

-- a desk has tables
not_bare : (layout : Layout) (s : Schema) → s ≡ schema_of layout → ¬ (s ≡ no_schema)
not_bare layout s has none =
    let count : length (tables_of (version_of layout)) ≡ 0 =
    sym (count_tables_of layout) ∙ ap (λ (s : Schema). length s.tables) (sym has ∙ none) in
    some (version_of layout) count
  where
    some : (version : Version) → ¬ (length (tables_of version) ≡ 0)
    some First count = absurd (omega (arith, count))
    some Second count = absurd (omega (arith, count))

made_books : (old new : State) → ¬ ¬ (old.now.schema ≡ no_schema) → IsCreated old new → AreBooksOf old new
made_books old new bare created = record {
  made = λ _. (created.empty, created.crash);
  found = λ other. absurd (bare other);
  whole = λ layout lacks. absurd (bare (not_bare layout old.now.schema lacks.1));
  sound = λ kept. (empty_counted (rows_in new.now.trees) (created.empty kept)).sound;
  vouched = created.vouched;
}

found_books : (old new : State) → ¬ (old.now.schema ≡ no_schema) → IsOpened old new → AreBooksOf old new
found_books old new other opened = record {
  made = λ bare. absurd (other bare);
  found = λ _. (opened.schema, λ kept. (opened.was kept, opened.continues kept), opened.crash);
  whole = opened.whole;
  sound = opened.sound;
  vouched = opened.vouched;
}

module _ {S : Type 0} (g : Ghosts S) (old : Held S) where
  abbrev pub Answer : Type 0
  Answer = Result (Tabled S) (OpenFault × Held S)

  abbrev pub OfBooks : Answer → (State → Type 0) → Type 0
  OfBooks r P = IfOk r (λ b. P (state g b.conn))

  -- the books that were made of a database that has nothing
  pub all_made : (r : Answer) → OfBooks r (IsCreated (state g old))
      → (¬ ((state g old).now.schema ≡ no_schema) → r ≡ Err (fault.NotADesk, old))
      → OfBooks r (AreBooksOf (state g old))
  all_made (Ok b) created taken =
      made_books (state g old) (state g b.conn) (λ other. let is = taken other in cc) created
  all_made (Err e) created taken = tt

  abbrev last_of : Answer → Held S
  last_of (Ok b) = b.conn
  last_of (Err e) = e.1

  -- A database that isn't empty was given back, and an opening of it answered this.
  module _ (new : Held S) (why : OpenFault) (is : why ≡ fault.NotADesk)
      (left : (state g old).now.schema ≡ no_schema → LeavesBare g old new why)
      (taken : ¬ ((state g old).now.schema ≡ no_schema)
      → ◌≡◌ {A = Answer} (Err (why, new)) (Err (fault.NotADesk, old))) where
    other : ¬ ((state g old).now.schema ≡ no_schema)
    other bare = let it = left bare in never (fault_of it.error) (sym it.told ∙ is)
      where
        never : (cause : LookFault) → ¬ (fault_for cause ≡ fault.NotADesk)
        never look.Memory e = cc
        never look.Store e = cc

    same : new ≡ old
    same = ap last_of (taken other)

    pub all_found : (r : Answer) → OfBooks r (IsOpened (state g new)) → OfBooks r (AreBooksOf (state g old))
    all_found (Ok b) opened =
        found_books (state g old) (state g b.conn) other
        (subst (λ (c : Held S). IsOpened (state g c) (state g b.conn)) same opened)
    all_found (Err e) opened = tt

    pub none_found : (r : Answer) → IfErr r (λ e. LeavesDatabase g new e.1 e.0)
        → IfErr r (λ e. IsWhyNone g old e.1 e.0)
    none_found (Ok b) leaves = tt
    none_found (Err e) leaves = record {
      bare = λ bare. absurd (other bare);
      found = λ _. subst (λ (c : Held S). LeavesDatabase g c e.1 e.0) same leaves;
    }

-- an error of a path is one that openings have
pub path_error_opens : (e : Error) → IsPathError e → IsTrue (is_open_error e)
path_error_opens e (inl is) = subst (λ e. IsTrue (is_open_error e)) (sym is) refl
path_error_opens e (inr (inl is)) = subst (λ e. IsTrue (is_open_error e)) (sym is) refl
path_error_opens e (inr (inr is)) = subst (λ e. IsTrue (is_open_error e)) (sym is) refl

module _ {D : Type 0} {g : disk.Ghosts D} where
  -- what was closed is the books' connection, and its files are as the close promises
  pub holds_books : (conn closed : Held (FileStore D g)) (files : Files D)
      → closed ≡ conn → IsBooks (file_state closed) → IsLive (file_state closed)
      → (IsTrue (g.is_clean files.log && g.is_clean files.db) → IsCopied closed files) → HoldBooks conn files
  holds_books conn closed files same books live copied =
      subst (λ c. HoldBooks c files) same (λ log db. let it = copied (both _ _ log db) in
      (it, λ again opened found seen. (files_keep_books closed again files books live it opened found seen).2))

  abbrev pub IsStillThere : Held (FileStore D g) → Result (Files D) (Error × FileStore D g) → Type 0
  IsStillThere conn r = IfErr r (λ e. IsClosed conn e.1 × (IsClean (view e.1) → FailsToClose conn e.1 e.0))

  pub still_there : (conn closed : Held (FileStore D g)) (r : Result (Files D) (Error × FileStore D g))
      → closed ≡ conn → IsStillThere closed r → IsStillThere conn r
  still_there conn closed r same there = subst (λ c. IsStillThere c r) same there
