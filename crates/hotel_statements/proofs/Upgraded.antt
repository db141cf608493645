-- What is missing of a desk, made: its statements in turn, how their transaction ends, and what that leaves.
use Rattle.std.proofs.Common.{◌≡◌, ◌<◌, ◌≤◌, ◌+◌, ◌++◌, refl, sym, ap, ap₂, subst, ◌∙◌, List, [], ◌∷◌, ℕ, fold, take}
use Rattle.std.proofs.Common.{drop, length, get_or, map, false, Ok, Result, OnOk, IfErr, arith, nat_cmp, Greater}
use Rattle.std.specs.List.{AllByRecursion}
use Rattle.std.proofs.lemmas.Bool.Decides.{nat_tests}
use Rattle.std.proofs.lemmas.List.{take_all, take_more, take-append-drop, map_push, map-append, append_assoc}
use Rattle.std.proofs.lemmas.List.{append-nil}
use Rattle.std.proofs.lemmas.List.Sums.{fold_more}
use Rattle.std.proofs.lemmas.Result.{on_ok_weaker}
use Rattle.sqlite_catalog.specs.Listing.{IsSound}
use Rattle.sqlite_keyed.proofs.ListLemmas.{all_of}
use Rattle.sqlite_trees.specs.declared.store.Store.{Ghosts}
use Rattle.sqlite.specs.Effect.{Database}
use Rattle.sqlite.specs.Held.{Held, state}
use Rattle.sqlite.specs.Order.{Row}
use Rattle.sqlite.specs.State.{State, HasCleanDisk, KeepsCommit, Survives, ExecutesInside}
use Rattle.sqlite.specs.Steps.{FailsToCommit}
use Rattle.sqlite.specs.declared.error.Error.{Error}
use Rattle.hotel_model.specs.declared.rows.FitRow.{FitRow}
use Rattle.hotel_model.specs.Rows.{FitKey}
use Rattle.hotel_model.specs.Refits.{fit_row}
use Rattle.hotel_model.proofs.OfTables.KeysInOrder.{AllAfter, InOrder}
use Rattle.hotel_rows.specs.Joined.{joined_with, initial_fits, FitEntries}
use Rattle.hotel_statements.specs.declared.version.Version.TheVariants.{First}
use Rattle.hotel_statements.specs.declared.version.Layout.{Layout}
use Rattle.hotel_statements.specs.declared.version.Layout.TheVariants.{Eight, Nine}
use Rattle.hotel_statements.specs.declared.version.TheConstants.{INDEXES}
use Rattle.hotel_statements.specs.Schema.{version_of}
use Rattle.hotel_statements.specs.Tables.{rows_in, rows_of_version, fits_in, bare_rooms_in}
use Rattle.hotel_statements.specs.Books.{IsKept}
use Rattle.hotel_statements.specs.NewDesk.{MakesNew, AddsIndexes}
use Rattle.hotel_statements.specs.Statements.{RunsStatements, MakesBy, adds_first_fit, makes_new, makes_second}
use Rattle.hotel_statements.specs.Statements.{sets_version}
use Rattle.hotel_statements.specs.Steps.{IsMidOf, RunsStatement}
use Rattle.hotel_statements.specs.Upgrade.{AreRoomsFor, BecomesDesk, Completes, IsWholeOf, IsOutdated, IsFilling}
use Rattle.hotel_statements.specs.Upgrade.{with_first_fit, GivesFits}
use Rattle.hotel_statements.proofs.Answers.{fused}
use Rattle.hotel_statements.proofs.Transaction.{Begins, LeavesDesk, Committed, Finishes, start_mid, finished}
use Rattle.hotel_statements.proofs.Transaction.{start_kept, or_committed}
use Rattle.hotel_statements.proofs.Risen.{rooms_rise, keys_rise}
use Rattle.hotel_statements.proofs.Made.Desk.{same_tables, same_bare, same_desk, first_of_same}

-- ---- statements, one after the other

-- one statement, given what it makes, and its parameters as they are bound
pub gives_one : {S : Type 0} {g : Ghosts S} {text : List ℕ} {given : Row} {Before : State → Type 0} {fits : FitEntries}
    {old new : Held S} {r : Result (Unit {0}) Error} (params : Row)
    → RunsStatement text given (state g old) (state g new) r → RunsStatements g ((text, given) ∷ []) old new r
    → ((count : ℕ) → ExecutesInside 0 text params (state g old) (state g new) (Ok count)
    → GivesFits Before fits (state g old) (state g new)) → given ≡ params
    → MakesBy g ((text, params) ∷ []) (GivesFits Before fits) old new r
gives_one {g = g} {text = text} {old = old} {new = new} {r = r} params it answers step same = record {
  runs = subst (λ ps. RunsStatements g ((text, ps) ∷ []) old new r) same answers;
  made = λ clean. on_ok_weaker r (λ ran. step ran.0
      (subst (λ ps. ExecutesInside 0 text ps (state g old) (state g new) (Ok ran.0)) same ran.1)) (it.ran clean);
  kept = it.kept;
  survives = it.survives;
}

-- ---- the tables, and then the version

pub version_then : {a b c : State} → MakesNew a b × KeepsCommit a b → GivesFits IsOutdated [] b c
    → GivesFits (IsMidOf Eight) [] a c
version_then {a} {b} made did before =
    let first = made.0 (λ is_open. (before is_open).schema) in
    let was = before first.was_open in
    let last = did (λ _. record {
      schema = first.schema_is;
      inside = first.inside;
      tables = same_tables {version = First} a.now.trees b.now.trees first.rows was.tables tt;
      empty = first.empty;
    }) in
    let desk = last.desk in
    record {
      desk = record {
        was_open = first.was_open;
        is_open = desk.is_open;
        committed = desk.committed ∙ made.1.committed desk.was_open;
        mid = desk.mid;
        sound = desk.sound;
        bare_rows_are = desk.bare_rows_are ∙ same_bare a.now.trees b.now.trees first.rows;
      };
      fits_are = last.fits_are;
      numbered = last.numbered;
    }

-- ---- the rooms

-- what is made of those so far, and of one more
map_more : {X : Type 0} (f : ℕ → X) (rooms : List ℕ) (i room : ℕ) → i < length rooms → room ≡ get_or rooms i room
    → map f (take i rooms) ++ f room ∷ [] ≡ map f (take (i + 1) rooms)
map_more f rooms i room low is =
    ap (λ x. map f (take i rooms) ++ f x ∷ []) is
    ∙ sym (ap (map f) (take_more rooms i room low) ∙ map_push f (take i rooms) (get_or rooms i room))

-- those so far have their fits
abbrev pub GivesSoFar : List ℕ → ℕ → State → State → Type 0
GivesSoFar rooms i = GivesFits (IsMidOf Eight) (fold with_first_fit [] (take i rooms))

pub room_then : {a b c : State} (rooms : List ℕ) (i room : ℕ) → i < length rooms → room ≡ get_or rooms i room
    → GivesSoFar rooms i a b → GivesFits IsFilling (with_first_fit (fits_in b.now.trees) room) b c
    → GivesSoFar rooms (i + 1) a c
room_then rooms i room low is did next before =
    let first = did before in
    let last = next (λ _. record { mid = first.desk.mid; numbered = first.numbered }) in
    record {
      desk = record {
        was_open = first.desk.was_open;
        is_open = last.desk.is_open;
        committed = last.desk.committed ∙ first.desk.committed;
        mid = last.desk.mid;
        sound = last.desk.sound;
        bare_rows_are = last.desk.bare_rows_are ∙ first.desk.bare_rows_are;
      };
      fits_are = last.fits_are ∙ ap (λ fits. with_first_fit fits room) first.fits_are
          ∙ ap (with_first_fit (fold with_first_fit [] (take i rooms))) is
          ∙ sym (fold_more with_first_fit [] rooms i room low);
      numbered = last.numbered;
    }

-- ---- all of them, where they are in order

-- the fit that a room began with
abbrev first_of : ℕ → FitKey × FitRow
first_of room = ((room, 1), fit_row room 1 0 0)

-- the fits are of rooms before this one
abbrev AreEarlier : ℕ → FitEntries → Type 0
AreEarlier room fits = AllByRecursion (λ (e : FitKey × FitRow). e.0.0 < room) fits

put_last : (room : ℕ) (fits : FitEntries) → AreEarlier room fits → with_first_fit fits room ≡ fits ++ first_of room ∷ []
put_last room [] earlier = refl
put_last room (e ∷ fits) earlier =
    let over : nat_cmp room e.0.0 ≡ Greater = grind (arith, nat_tests, earlier.0) in
    rw over (ap (λ rest. e ∷ rest) (put_last room fits earlier.1))

all_behind : (room : ℕ) (rooms : List ℕ) (fits : FitEntries) → AllAfter nat_cmp room rooms
    → AllByRecursion (λ next. AreEarlier next fits) rooms
    → AllByRecursion (λ next. AreEarlier next (fits ++ first_of room ∷ [])) rooms
all_behind room [] fits after earlier = tt
all_behind room (x ∷ rooms) fits after earlier =
    let is = after.0 in
    let low : room < x = grind (arith, nat_tests, is) in
    (behind fits low earlier.0, all_behind room rooms fits after.1 earlier.1)
  where
    behind : (fits : FitEntries) → room < x → AreEarlier x fits → AreEarlier x (fits ++ first_of room ∷ [])
    behind [] low earlier = (low, tt)
    behind (e ∷ fits) low earlier = (earlier.0, behind fits low earlier.1)

all_put : (rooms : List ℕ) (fits : FitEntries) → InOrder nat_cmp rooms
    → AllByRecursion (λ room. AreEarlier room fits) rooms → fold with_first_fit fits rooms ≡ fits ++ map first_of rooms
all_put [] fits up earlier = sym (append-nil fits)
all_put (r ∷ rooms) fits up earlier =
    ap (λ so_far. fold with_first_fit so_far rooms) (put_last r fits earlier.0)
    ∙ all_put rooms (fits ++ first_of r ∷ []) up.1 (all_behind r rooms fits up.0 earlier.1)
    ∙ append_assoc fits (first_of r ∷ []) (map first_of rooms)

pub all_given : {rooms : List ℕ} {a b : State} (i : ℕ) → length rooms ≤ i → GivesSoFar rooms i a b
    → Completes Eight rooms a b
all_given {rooms} {a} {b} i past did before =
    let all = did before in (
      all.desk,
      λ rooms_are.
          let bare = bare_rooms_in a.now.trees in
          let up : InOrder nat_cmp rooms = subst (InOrder nat_cmp) (sym rooms_are) (keys_rise nat_cmp bare
          (rooms_rise {version = First} a.now.trees (before all.desk.was_open).tables)) in
          let fits : fold with_first_fit [] (take i rooms) ≡ initial_fits bare =
          ap (fold with_first_fit []) (take_all i rooms past)
          ∙ all_put rooms [] up (all_of (λ room. AreEarlier room []) (λ room. tt) rooms)
          ∙ ap (map first_of) rooms_are ∙ fused first_of (λ e. e.0) bare in
          ap₂ joined_with (all.fits_are ∙ fits) all.desk.bare_rows_are,
    )

-- the statements for those so far, and for one more
pub one_more : (rooms : List ℕ) (i room : ℕ) → i < length rooms → room ≡ get_or rooms i room
    → makes_second (take i rooms) ++ adds_first_fit room ∷ [] ≡ makes_second (take (i + 1) rooms)
one_more rooms i room low is =
    ap (λ more. makes_new ++ (sets_version ∷ more)) (map_more adds_first_fit rooms i room low is)

-- and for the others
pub with_others : (rooms : List ℕ) (i : ℕ)
    → makes_second (take i rooms) ++ map adds_first_fit (drop i rooms) ≡ makes_second rooms
with_others rooms i = ap (λ more. makes_new ++ (sets_version ∷ more))
    (sym (map-append adds_first_fit (take i rooms) (drop i rooms)) ∙ ap (map adds_first_fit) (take-append-drop i rooms))

-- ---- the indexes of a desk of the second version

pub indexes_made : (rooms : List ℕ) {a b : State} (count : ℕ) → AddsIndexes count INDEXES a b
    → Completes (Nine count) rooms a b
indexes_made rooms {a} {b} count did before =
    let has = did (λ is_open. (before is_open).schema) in
    let desk = same_desk a.now.trees b.now.trees has.rows (before has.was_open).tables in (
      record {
        was_open = has.was_open;
        is_open = has.is_open;
        committed = has.committed;
        mid = record { schema = has.schema_is; inside = has.inside; tables = desk.0 };
        sound = has.sound;
        bare_rows_are = same_bare a.now.trees b.now.trees (first_of_same a.now.trees b.now.trees has.rows).0;
      },
      λ _. desk.1,
    )

-- ---- the transaction

module _ {layout : Layout} (rooms : List ℕ) {old start mid : State} (b : Begins layout old start)
    (did : HasCleanDisk mid → Completes layout rooms start mid) (ran : Survives start mid (λ _. ⊥)) where
  clean_start : HasCleanDisk mid → HasCleanDisk start
  clean_start clean = omega (arith, ran.clean, clean)

  becomes : HasCleanDisk mid → BecomesDesk start mid
  becomes clean = (did clean (start_mid b (clean_start clean))).0

  leaves : HasCleanDisk mid → LeavesDesk start mid
  leaves clean =
      let desk = becomes clean in record { was_open = desk.was_open; committed = desk.committed; mid = desk.mid }

  -- how it ends, whatever rooms were given
  pub migrated : (new : State) (r : Result (Unit {0}) Error) → new.in_transaction ≡ false
      → (HasCleanDisk new → Committed mid new r) → (HasCleanDisk new → IfErr r (FailsToCommit mid new))
      → Survives mid new (λ db. db ≡ mid.now.trees) → Finishes layout old mid new r
  migrated = finished b leaves ran

  -- and where those are the desk's
  module _ (rooms_are : IsKept old → AreRoomsFor (version_of layout) rooms old.now.trees) where
    whole : HasCleanDisk mid → IsWholeOf (version_of layout) old.now.trees mid.now.trees
    whole clean =
        let desk = becomes clean in
        let are : AreRoomsFor (version_of layout) rooms start.now.trees =
        subst (λ (s : State). AreRoomsFor (version_of layout) rooms s.now.trees) (sym b.begun)
        (rooms_are (start_kept b (clean_start clean) desk.was_open)) in
        record {
          tables = desk.mid.tables;
          sound = subst (λ s. IsSound s mid.now.trees) desk.mid.schema desk.sound;
          rows_are = (did clean (start_mid b (clean_start clean))).1 are
              ∙ ap (λ (s : State). rows_of_version (version_of layout) s.now.trees) b.begun;
        }

    pub rows_made : (new : State) (r : Result (Unit {0}) Error) → Survives mid new (λ db. db ≡ mid.now.trees)
        → Finishes layout old mid new r
        → IsKept new → OnOk r (rows_in new.now.trees ≡ rows_of_version (version_of layout) old.now.trees)
    rows_made new r survives it kept = on_ok_weaker r (λ now. ap (λ (d : Database). rows_in d.trees) now
        ∙ (whole (omega (arith, survives.clean, kept.0))).rows_are) (it.made kept)

    pub whole_or_none : (new : State) → Survives old start (λ _. ⊥) → Survives mid new (λ db. db ≡ mid.now.trees)
        → Survives old new (IsWholeOf (version_of layout) old.now.trees)
    whole_or_none new began survives = or_committed began ran survives whole
