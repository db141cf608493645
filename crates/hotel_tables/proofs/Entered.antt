-- What is entered: a whole desk as it is, and one that lacks something of which a whole one is made.
use Rattle.std.proofs.Common.{◌≡◌, ◌⊎◌, inl, inr, refl, sym, ap, subst, ◌∙◌, ℕ, List, true, false, Result, Ok, Err}
use Rattle.std.proofs.Common.{IfErr, IsTrue, arith}
use Rattle.std.specs.Map.{keys_of}
use Rattle.sqlite.specs.Effect.{Database}
use Rattle.sqlite.specs.State.{State, HasCleanDisk, Survives}
use Rattle.sqlite.proofs.StateLemmas.{survives_then, survives_weaker}
use Rattle.sqlite_trees.specs.declared.store.Store.{Ghosts}
use Rattle.sqlite.specs.declared.error.Error.{Error}
use Rattle.sqlite.specs.Held.{Held, state}
use Rattle.keycard_rules.specs.declared.issued.LookFault.{LookFault}
use Rattle.keycard_rules.specs.declared.issued.LookFault.TheVariants as look
use Rattle.hotel_statements.specs.LookUps.{fault_of}
use Rattle.hotel_statements.specs.declared.version.Version.{Version}
use Rattle.hotel_statements.specs.declared.version.Layout.{Layout}
use Rattle.hotel_statements.specs.declared.version.Layout.TheVariants.{Eight, Nine}
use Rattle.hotel_statements.specs.Schema.{schema_of, version_of, is_whole}
use Rattle.hotel_statements.specs.Tables.{bare_rooms_in, rows_in, rows_of_version}
use Rattle.hotel_statements.specs.Books.{IsKept, IsBooks, IsBooksOf, KeepsRows}
use Rattle.hotel_statements.specs.Statements.{completes}
use Rattle.hotel_statements.specs.WholeTables.{IsOurs, AreTablesRead, ReadsTo}
use Rattle.hotel_statements.specs.declared.whole_tables.WholeTables.{WholeTables}
use Rattle.hotel_statements.specs.Upgrade.{AreRoomsIn, AreRoomsFor, IsWholeOf}
use Rattle.hotel_statements.proofs.SameSchema.{tables_there, one_version, whole_is, not_whole}
use Rattle.hotel_statements.proofs.Books.{desk_shown}
use Rattle.hotel_rows.specs.declared.open_fault.OpenFault.{OpenFault}
use Rattle.hotel_rows.specs.declared.open_fault.OpenFault.TheVariants as fault
use Rattle.hotel_tables.specs.declared.opening.Found.{Found}
use Rattle.hotel_tables.specs.Applied.{LeavesAll}
use Rattle.hotel_tables.specs.TableBooks.{IsCounted}
use Rattle.hotel_tables.specs.Opening.{Opens, Enters, FaultFits, FaultFitsIn, IsCompleted, IsSoundDesk, IsLaidOut}
use Rattle.hotel_tables.specs.Opening.{Lacks, IsOfCall, IsNoDesk, FailsToRead, MemoryFitsIn, fault_for}
use Rattle.hotel_tables.specs.Causes.{FailsToWrite}
use Rattle.hotel_tables.specs.Exits.{CallFails, LeavesDatabase}
use Rattle.hotel_tables.proofs.Opened.{fits_more, fits_call}
use Rattle.hotel_tables.proofs.Reread.{of_a_call}

pub ours_of : (layout : Layout) (s : State) → s.in_transaction ≡ false → (IsTrue s.is_open → s.now ≡ s.committed)
    → s.now.schema ≡ schema_of layout → IsOurs (version_of layout) s
ours_of layout s autocommit settled has =
    let there = tables_there layout in
    record { autocommit = autocommit; tables = λ kept. ((there.0, has ∙ there.1), settled kept.1) }

-- a database has the tables of one version only
fits_in : (failed : Version → Type 0) (layout : Layout) (db : Database) (why : OpenFault)
    → db.schema ≡ schema_of layout → FaultFits (failed (version_of layout)) (version_of layout) db.trees why
    → FaultFitsIn failed db why
fits_in failed layout db why has fits other is =
    subst (λ (v : Version). FaultFits (failed v) v db.trees why) (one_version layout other db.schema has is) fits

-- what is said of Memory over the tables of a version
abbrev MemoryFits : (Version → Type 0) → State → State → Version → Type 0
MemoryFits failed old new version =
    failed version ⊎ ((t : WholeTables) × ReadsTo version (AreTablesRead version) old new (Ok t))

memory_in : (failed : Version → Type 0) (layout : Layout) (old new : State) (why : OpenFault)
    → old.now.schema ≡ schema_of layout → (why ≡ fault.Memory → MemoryFits failed old new (version_of layout))
    → MemoryFitsIn failed old new why
memory_in failed layout old new why has told memory other is =
    subst (MemoryFits failed old new) (one_version layout other old.now.schema has is) (told memory)

-- a reading that failed is reported by its cause
memory_read : (failed : Type 0) (version : Version) (old new : State) (why : OpenFault)
    (r : Result WholeTables LookFault)
    → ReadsTo version (AreTablesRead version) old new r
    → IfErr r (λ cause. ◌≡◌ {A = Result Found OpenFault} (Err why) (Err (fault_for cause)))
    → (FailsToRead version old new look.Memory → failed) → why ≡ fault.Memory
    → failed ⊎ ((t : WholeTables) × ReadsTo version (AreTablesRead version) old new (Ok t))
memory_read failed version old new why (Ok t) reads told fails memory = inr (t, reads)
memory_read failed version old new why (Err look.Memory) reads told fails memory = inl (fails reads)
memory_read failed version old new why (Err look.Store) reads told fails memory =
    absurd (let store : ◌≡◌ {A = Result Found OpenFault} (Err why) (Err fault.Store) = told in cc)

is_memory : (why : LookFault) → fault_for why ≡ fault.Memory → why ≡ look.Memory
is_memory look.Memory is = refl
is_memory look.Store is = absurd (let both_are : fault.Store ≡ fault.Memory = is in cc)

pub sound_of : (s : State) → IsSoundDesk s → IsLaidOut s.now.schema
sound_of s (layout, desk, sound) = (layout, desk.schema)

-- ---- an opening that was refused

pub entered_not : {fails : LookFault → Version → Type 0} (layout : Layout) (old new : State) (why : OpenFault)
    → old.now.schema ≡ schema_of layout
    → ((cause : LookFault) → FailsToRead (version_of layout) old new cause → fails cause (version_of layout))
    → Opens (version_of layout) old new (Err why) → Enters fails old new (Err why)
entered_not {fails} layout old new why has read opens = record {
  autocommit = opens.ours.autocommit;
  books = tt;
  was = λ kept. (opens.keeps kept).0;
  continues = λ _. tt;
  whole = λ _ _ _. tt;
  same = λ kept. (opens.keeps kept).1;
  counted = λ _. tt;
  open_on = λ _. tt;
  fault = λ clean.
      fits_in (fails look.Store) layout old.now why has
      (fits_more (read look.Store) (version_of layout) old.now.trees why (opens.fault clean));
  memory =
      let r = opens.reading in
      memory_in (fails look.Memory) layout old new why has
      (memory_read (fails look.Memory (version_of layout)) (version_of layout) old new why r.0 r.1 r.2
      (read look.Memory));
  crash = λ kept. survives_weaker old new _ _ (λ _ db none. absurd (none kept)) opens.crash;
}

-- ---- a desk that was read

-- its rows are those of a desk of its version
pub books_read : (layout : Layout) {found : Found} {old new : State} → old.now.schema ≡ schema_of layout
    → Opens (version_of layout) old new (Ok found) → IsBooksOf layout new
books_read layout has opens = record {
  autocommit = opens.ours.autocommit;
  desk = λ kept. desk_shown has (opens.found kept).tables (opens.keeps kept).1 (opens.ours.tables kept).1;
}

-- ---- a whole desk

pub entered_whole : {fails : LookFault → Version → Type 0} (layout : Layout) {found : Found} (old new : State)
    → is_whole layout ≡ true → old.now.schema ≡ schema_of layout → Opens (version_of layout) old new (Ok found)
    → Enters fails old new (Ok found.counts)
entered_whole {fails} Eight {found} old new whole has opens =
    absurd (let no : false ≡ true = whole in cc)
entered_whole {fails} (Nine count) {found} old new whole has opens =
    let desk = has ∙ whole_is (Nine count) whole in
    record {
      autocommit = opens.ours.autocommit;
      books = record {
        autocommit = opens.ours.autocommit;
        desk = λ kept. desk_shown desk (opens.found kept).tables (opens.keeps kept).1 (opens.ours.tables kept).1;
      };
      was = λ kept. (opens.keeps kept).0;
      continues = λ kept. inl (desk, (opens.keeps kept).1);
      whole = λ other lacks kept. absurd (not_whole other lacks.0 (sym lacks.1 ∙ desk));
      same = λ _. tt;
      counted = λ kept.
          subst (λ (d : Database). IsCounted found.counts.kinds found.counts.nights (rows_in d.trees))
          (sym (opens.keeps kept).1)
          (opens.found kept).counted;
      open_on = opens.open_on;
      fault = λ _. tt;
      memory = tt;
      crash = λ kept. survives_weaker old new _ _ (λ _ db none. absurd (none kept)) opens.crash;
    }

-- ---- a desk that lacks something

module _ (layout : Layout) {found : Found} {old mid : State} (lacks : Lacks layout old.now.schema)
    (opens : Opens (version_of layout) old mid (Ok found)) where
  pub rooms_read : IsKept mid → AreRoomsFor (version_of layout) found.rooms.items mid.now.trees
  rooms_read kept =
      subst (λ (d : Database). AreRoomsFor (version_of layout) found.rooms.items d.trees) (sym (opens.keeps kept).1)
      (opens.found kept).rooms

  -- what is made of it, and what that leaves
  module _ {new : State} (autocommit : new.in_transaction ≡ false) (was : IsKept new → IsKept mid)
      (crash : Survives mid new (IsWholeOf (version_of layout) mid.now.trees)) where
    crash_whole : IsKept old → Survives old new (IsCompleted old.now)
    crash_whole kept =
        survives_then old mid new (λ _. IsKept old → ⊥) (IsWholeOf (version_of layout) mid.now.trees)
        (IsCompleted old.now) (λ _ db none. absurd (none kept))
        (λ clean db whole.
        let before : HasCleanDisk mid = omega (arith, crash.clean, clean) in
        let same = (opens.keeps (before, opens.open_on before)).1 in
        (layout, lacks, subst (λ (d : Database). IsWholeOf (version_of layout) d.trees db) same whole))
        opens.crash crash

    pub entered_made : {fails : LookFault → Version → Type 0} → IsBooks new
        → (IsKept new → rows_in new.now.trees ≡ rows_of_version (version_of layout) mid.now.trees)
        → (IsKept new → LeavesAll new) → (HasCleanDisk new → IsTrue new.is_open)
        → Enters fails old new (Ok found.counts)
    entered_made books made whole open_on = record {
      autocommit = autocommit;
      books = books;
      was = λ kept. (opens.keeps (was kept)).0;
      continues = λ kept. inr (layout, lacks, (books.desk kept).schema, rows kept);
      whole = λ _ _ kept. whole kept;
      same = λ _. tt;
      counted = λ kept.
          subst (IsCounted found.counts.kinds found.counts.nights) (sym (rows kept)) (opens.found (was kept)).counted;
      open_on = open_on;
      fault = λ _. tt;
      memory = tt;
      crash = crash_whole;
    }
      where
        rows : IsKept new → rows_in new.now.trees ≡ rows_of_version (version_of layout) old.now.trees
        rows kept =
            made kept
            ∙ ap (λ (d : Database). rows_of_version (version_of layout) d.trees) (opens.keeps (was kept)).1

    pub not_made : {fails : LookFault → Version → Type 0} (why : LookFault) → (IsKept new → new.now ≡ mid.now)
        → ((cause : LookFault) → why ≡ cause → fails cause (version_of layout)) → Enters fails old new
        (Err (fault_for why))
    not_made {fails} why same failed = record {
      autocommit = autocommit;
      books = tt;
      was = λ kept. (opens.keeps (was kept)).0;
      continues = λ _. tt;
      whole = λ _ _ _. tt;
      same = λ kept. same kept ∙ (opens.keeps (was kept)).1;
      counted = λ _. tt;
      open_on = λ _. tt;
      fault = λ _.
          fits_in (fails look.Store) layout old.now (fault_for why) lacks.1
          (fits_call (fails look.Store (version_of layout)) (version_of layout) old.now.trees why (failed look.Store));
      memory =
          memory_in (fails look.Memory) layout old new (fault_for why) lacks.1
          (λ is. inl (failed look.Memory (is_memory why is)));
      crash = crash_whole;
    }

-- ---- a fault of sound tables is one of a call

pub of_call : (failed : Version → Type 0) (s : State) (why : OpenFault) → FaultFitsIn failed s.now why → IsSoundDesk s
    → IsOfCall why
of_call failed s why fits (layout, desk, sound) =
    of_a_call (failed (version_of layout)) (version_of layout) s.now.trees why desk.tables sound
    (fits layout desk.schema)

module _ {S : Type 0} (g : Ghosts S) where
  -- the statements that failed are those for the desk's rooms; where none were asked for, they are those for any
  of_rooms : (layout : Layout) (rooms : List ℕ) (mid new : Held S) (e : Error)
      → (IsKept (state g mid) → AreRoomsFor (version_of layout) rooms (state g mid).now.trees)
      → FailsToWrite g (completes layout rooms) mid new e
      → (all : List ℕ) × (IsKept (state g mid) → AreRoomsIn all (state g mid).now.trees)
      × FailsToWrite g (completes layout all) mid new e
  of_rooms Eight rooms mid new e rooms_are failed = (rooms, rooms_are, failed)
  of_rooms (Nine count) rooms mid new e rooms_are failed =
      (keys_of (bare_rooms_in (state g mid).now.trees), λ _. refl, failed)

  -- the making of what a desk lacks failed
  pub completion_fails : (layout : Layout) (old mid new : Held S) (rooms : List ℕ) (e : Error)
      → Lacks layout (state g old).now.schema → KeepsRows (state g old) (state g mid)
      → (IsKept (state g mid) → AreRoomsFor (version_of layout) rooms (state g mid).now.trees)
      → FailsToWrite g (completes layout rooms) mid new e → (cause : LookFault) → fault_of e ≡ cause
      → CallFails g old new cause (version_of layout)
  completion_fails layout old mid new rooms e lacks same rooms_are failed cause is =
      let of = of_rooms layout rooms mid new e rooms_are failed in
      inr (record {
        layout = layout;
        lacks = lacks;
        read = mid;
        same = same;
        rooms = of.0;
        rooms_are = of.1;
        error = e;
        told = sym is;
        failed = of.2;
      })

  -- nothing was read: the tables are no desk's, or memory ran out
  pub unread : (c : Held S) (why : OpenFault) → c.in_transaction ≡ false
      → (IsLaidOut (state g c).now.schema → why ≡ fault.Memory) → IsNoDesk why
      → Survives (state g c) (state g c) (λ _. ⊥) → LeavesDatabase g c c why
  unread c why alone memory none still = record {
    outside = alone;
    same = λ kept. (kept, refl);
    crash = λ _. survives_weaker (state g c) (state g c) _ _ (λ _ db no. absurd no) still;
    foreign = λ _. none;
    fits = λ _ layout is.
        subst (FaultFits (CallFails g c c look.Store (version_of layout)) (version_of layout) (state g c).now.trees)
        (sym (memory (layout, is))) tt;
    memory = inl refl;
    kept = λ _ desk. subst IsOfCall (sym (memory (sound_of (state g c) desk))) tt;
  }

  -- its tables gave no books
  pub left_of : (layout : Layout) (old new : Held S) (why : OpenFault) → (state g old).now.schema ≡ schema_of layout
      → Enters (CallFails g old new) (state g old) (state g new) (Err why) → LeavesDatabase g old new why
  left_of layout old new why has enters = record {
    outside = enters.autocommit;
    same = λ kept. (enters.was kept, enters.same kept);
    crash = enters.crash;
    foreign = λ none. absurd (none (layout, has));
    fits = enters.fault;
    memory = inr enters.memory;
    kept = λ clean desk. of_call (CallFails g old new look.Store) (state g old) why (enters.fault clean) desk;
  }
