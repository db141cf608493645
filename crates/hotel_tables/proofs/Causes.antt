-- Why a look-up, a walk or a change answers Store.
use Rattle.std.proofs.Common.{◌≡◌, ◌≢◌, ◌⊎◌, inl, inr, true, refl, sym, ap, subst, ◌∙◌, List, Option, Some, None}
use Rattle.std.proofs.Common.{Result, Ok, Err, arith}
use Rattle.std.specs.Prelude.{IfErr}
use Rattle.std.specs.Result.{IsErr, IsErrAnd}
use Rattle.sqlite_trees.specs.declared.store.Store.{Ghosts}
use Rattle.sqlite.specs.Effect.{Database}
use Rattle.sqlite.specs.Held.{Held, state}
use Rattle.sqlite.specs.State.{State, HasCleanDisk, Survives}
use Rattle.sqlite.specs.Steps.{FailsToCommit}
use Rattle.sqlite.specs.declared.error.Error.{Error}
use Rattle.sqlite.proofs.StateLemmas.{survives_then}
use Rattle.keycard_rules.specs.declared.issued.LookFault.{LookFault}
use Rattle.keycard_rules.specs.declared.issued.LookFault.TheVariants as why
use Rattle.hotel_model.specs.declared.change.Change.{Change}
use Rattle.hotel_model.specs.declared.change.Change.TheVariants as change
use Rattle.hotel_statements.specs.Tables.{rows_in}
use Rattle.hotel_statements.specs.Books.{IsKept}
use Rattle.hotel_statements.specs.LookUps.{HasCause, LeavesNoMore}
use Rattle.hotel_statements.specs.Failures.{BareRoomFails, FitFails}
use Rattle.hotel_statements.specs.declared.look_ups.RoomCounts.{RoomCounts}
use Rattle.hotel_statements.specs.Statements.{Statement, RunsStatements}
use Rattle.hotel_statements.proofs.Since.{unchanged_then}
use Rattle.hotel_tables.specs.Applied.{known_after, told_for, known_for}
use Rattle.hotel_tables.specs.Causes.{ToldFails, HasLooked, AsksEnded, AsksTold, FailsToWrite}
use Rattle.hotel_tables.specs.Causes.{MakingFails}

-- ---- look-ups

-- what has a cause unless memory ran out has it where the store failed
pub of_store : {P : Type 0} (fault : LookFault) → (fault ≢ why.Memory → P) → fault ≡ why.Store → P
of_store fault fails is = fails (λ memory. let no : why.Memory ≡ why.Store = sym memory ∙ is in cc)

-- so of a look-up, whose answer was counted
pub looked : {R : Type 0} (Fails More : State → State → Type 0) (old new : State) (r result : Result R LookFault)
    → result ≡ r → (Fails old new → More old new) → HasCause Fails old new r → HasCleanDisk new
    → IfErr result (λ fault. fault ≡ why.Store → More old new)
looked {R = R} Fails More old new r result is more cause clean =
    subst (λ (x : Result R LookFault). IfErr x (λ fault. fault ≡ why.Store → More old new)) (sym is) (go r (cause
    clean))
  where
    go : (x : Result R LookFault) → IfErr x (λ fault. fault ≢ why.Memory → Fails old new)
        → IfErr x (λ fault. fault ≡ why.Store → More old new)
    go (Ok answer) fails = tt
    go (Err fault) fails = λ store. more (of_store fault fails store)

-- and of one that hands the error over
pub passed : {R P Q : Type 0} (fault : LookFault) (result : Result R LookFault)
    → IsErr result × IsErrAnd result (λ given. given ≡ fault) → (P → Q) → (fault ≢ why.Memory → P)
    → IfErr result (λ given. given ≡ why.Store → Q)
passed fault (Ok answer) h more fails = tt
passed fault (Err given) h more fails = λ store. more (of_store fault fails (sym h.1 ∙ store))

-- or hands over what one answered
pub handed : {R P : Type 0} (fault : LookFault) (result : Result R LookFault)
    → IsErr result × IsErrAnd result (λ given. given ≡ fault) → (fault ≡ why.Store → P)
    → IfErr result (λ given. given ≡ why.Store → P)
handed fault (Ok answer) h fails = tt
handed fault (Err given) h fails = λ store. fails (sym h.1 ∙ store)

-- ---- changes

module _ {S : Type 0} (g : Ghosts S) where
  -- of a transaction, a statement failed
  pub not_run : {statements : List Statement} (old start ended new : Held S) {e : Error} (r : Result (Unit {0}) Error)
      → start ≡ record old { in_transaction = true } → r ≡ Err e → RunsStatements g statements start ended (Err e)
      → Survives (state g ended) (state g new) (λ _. ⊥) → IfErr r (FailsToWrite g statements old new)
  not_run {statements = statements} old start ended new r begun is ran survives =
      subst (λ (x : Result (Unit {0}) Error). IfErr x (FailsToWrite g statements old new)) (sym is)
      (record { start = start; begun = begun; ended = ended; failed = inl (ran, survives) })

  -- or the commit
  pub not_committed : {statements : List Statement} (old start ended new : Held S) (u : Unit {0})
      (r : Result (Unit {0}) Error) → start ≡ record old { in_transaction = true }
      → RunsStatements g statements start ended (Ok u)
      → Survives (state g ended) (state g new) (λ db. db ≡ (state g ended).now.trees)
      → (HasCleanDisk (state g new) → IfErr r (FailsToCommit (state g ended) (state g new)))
      → IfErr r (FailsToWrite g statements old new)
  not_committed old start ended new u (Ok v) begun ran survives err = tt
  not_committed old start ended new u (Err e) begun ran survives err =
      record { start = start; begun = begun; ended = ended; failed = inr (ran, survives, err) }

  -- what is told where nothing is looked up
  abbrev nothing : Option RoomCounts
  nothing = Some (record { codes = 0; notes = 0; before = 0 })

  -- can be counted on
  untold : {known : Option RoomCounts} (count : Option RoomCounts → Option RoomCounts) → count nothing ≡ nothing
      → known ≡ nothing → count known ≡ None → ⊥
  untold {known = known} count is told none = let no : nothing ≡ None = sym is ∙ ap count (sym told) ∙ none in cc

  module _ (known : Option RoomCounts) (old new : Held S) where
    -- where that can't be counted on, it was looked up
    pub shows_open : (c : Change) → known_after c known ≡ None → AsksTold g c known old new → HasCleanDisk (state g new)
        → IsKept (state g new)
    shows_open (change.Begin day) none asks clean = absurd (untold (known_after (change.Begin day)) refl asks.0 none)
    shows_open (change.DayTo day) none asks clean = absurd (untold (known_after (change.DayTo day)) refl asks.0 none)
    shows_open (change.Kind kind) none asks clean = absurd (untold (known_after (change.Kind kind)) refl asks.0 none)
    shows_open (change.Room room kind code) none asks clean =
        absurd (untold (known_after (change.Room room kind code)) refl asks.0 none)
    shows_open (change.Reserved stay) none asks clean =
        absurd (untold (known_after (change.Reserved stay)) refl asks.0 none)
    shows_open (change.Cancelled party) none asks clean =
        absurd (untold (known_after (change.Cancelled party)) refl asks.0 none)
    shows_open (change.Issue card room leaves) none asks clean = (clean, asks.0.0.is_open)
    shows_open (change.Spare card) none asks clean = absurd (untold (known_after (change.Spare card)) refl asks.0 none)
    shows_open (change.CheckedOut party room) none asks clean =
        absurd (untold (known_after (change.CheckedOut party room)) refl asks.0 none)
    shows_open (change.Refit room code fit) none asks clean = (clean, asks.0.0.is_open)
    shows_open (change.Noted note lock_place secured insides) none asks clean = (clean, asks.0.0.is_open)

    module _ (clean : HasCleanDisk (state g new)) where
      -- what is told is what the rows tell
      pub told_is : (c : Change) → AsksTold g c known old new
          → (IsKept (state g new) → known ≡ told_for c (rows_in (state g old).now.trees))
          → known ≡ told_for c (rows_in (state g old).now.trees)
      told_is (change.Begin day) asks found = asks.0
      told_is (change.DayTo day) asks found = asks.0
      told_is (change.Kind kind) asks found = asks.0
      told_is (change.Room room kind code) asks found = asks.0
      told_is (change.Reserved stay) asks found = asks.0
      told_is (change.Cancelled party) asks found = asks.0
      told_is (change.Issue card room leaves) asks found = found (clean, asks.0.0.is_open)
      told_is (change.Spare card) asks found = asks.0
      told_is (change.CheckedOut party room) asks found = asks.0
      told_is (change.Refit room code fit) asks found = found (clean, asks.0.0.is_open)
      told_is (change.Noted note lock_place secured insides) asks found = found (clean, asks.0.0.is_open)

    pub told_asked : (c : Change) → AsksTold g c known old new → (new ≡ old) ⊎ HasLooked g old new
    told_asked (change.Begin day) asks = inl asks.1
    told_asked (change.DayTo day) asks = inl asks.1
    told_asked (change.Kind kind) asks = inl asks.1
    told_asked (change.Room room kind code) asks = inl asks.1
    told_asked (change.Reserved stay) asks = inl asks.1
    told_asked (change.Cancelled party) asks = inl asks.1
    told_asked (change.Issue card room leaves) asks = inr asks
    told_asked (change.Spare card) asks = inl asks.1
    told_asked (change.CheckedOut party room) asks = inl asks.1
    told_asked (change.Refit room code fit) asks = inr asks
    told_asked (change.Noted note lock_place secured insides) asks = inr asks

  module _ (old mid : Held S) where
    ended_asked : (c : Change) → AsksEnded g c old mid → (mid ≡ old) ⊎ HasLooked g old mid
    ended_asked (change.Begin day) asks = inl asks
    ended_asked (change.DayTo day) asks = inl asks
    ended_asked (change.Kind kind) asks = inl asks
    ended_asked (change.Room room kind code) asks = inl asks
    ended_asked (change.Reserved stay) asks = inl asks
    ended_asked (change.Cancelled party) asks = inr asks
    ended_asked (change.Issue card room leaves) asks = inl asks
    ended_asked (change.Spare card) asks = inl asks
    ended_asked (change.CheckedOut party room) asks = inr asks
    ended_asked (change.Refit room code fit) asks = inl asks
    ended_asked (change.Noted note lock_place secured insides) asks = inl asks

    -- a change that is told by a row ends no stay
    told_from : (new : Held S) (c : Change) → AsksEnded g c old mid → ToldFails c (state g mid) (state g new)
        → ToldFails c (state g old) (state g new)
    told_from new (change.Begin day) asks fails = absurd fails
    told_from new (change.DayTo day) asks fails = absurd fails
    told_from new (change.Kind kind) asks fails = absurd fails
    told_from new (change.Room room kind code) asks fails = absurd fails
    told_from new (change.Reserved stay) asks fails = absurd fails
    told_from new (change.Cancelled party) asks fails = absurd fails
    told_from new (change.Issue card room leaves) asks fails =
        subst (λ (h : Held S). BareRoomFails room (state g h) (state g new)) asks fails
    told_from new (change.Spare card) asks fails = absurd fails
    told_from new (change.CheckedOut party room) asks fails = absurd fails
    told_from new (change.Refit room code fit) asks fails =
        subst (λ (h : Held S). BareRoomFails room (state g h) (state g new)) asks fails
    told_from new (change.Noted note lock_place secured insides) asks fails =
        subst (λ (h : Held S). FitFails note.room note.fit (state g h) (state g new)) asks fails

  pub asked_then : {old mid new : Held S} → (mid ≡ old) ⊎ HasLooked g old mid → (new ≡ mid) ⊎ HasLooked g mid new
      → (new ≡ old) ⊎ HasLooked g old new
  asked_then (inl same) (inl more) = inl (more ∙ same)
  asked_then {old = old} {mid = mid} {new = new} (inl same) (inr more) = inr (subst (λ (h : Held S). HasLooked g h new)
      same more)
  asked_then {old = old} {mid = mid} {new = new} (inr asked) (inl more) = inr (subst (λ (h : Held S). HasLooked g old
      h) (sym more) asked)
  asked_then {old = old} {mid = mid} {new = new} (inr asked) (inr more) =
      let a = state g old in
      let b = state g mid in
      let c = state g new in
      let crash : LeavesNoMore a c =
      survives_then a b c (λ _. IsKept a → ⊥) (λ _. IsKept b → ⊥) (λ _. IsKept a → ⊥) (λ clean db none. none)
      (λ clean db none kept.
      let before : HasCleanDisk b = omega (arith, more.1.clean, clean) in
      none (before, asked.0.0.is_open)) asked.1 more.1 in
      inr (unchanged_then a b c asked.0 asked.1 more.0, crash)

  rows_asked : {old mid : Held S} → (mid ≡ old) ⊎ HasLooked g old mid → (state g mid).now ≡ (state g old).now
  rows_asked (inl same) = ap (λ (h : Held S). (state g h).now) same
  rows_asked (inr asked) = asked.0.0.now_is

  -- what failed after the stay that a change ends was looked up
  pub making_from : (old mid new : Held S) (c : Change) → AsksEnded g c old mid → MakingFails g c mid new
      → MakingFails g c old new
  making_from old mid new c asks (inl fails) = inl (told_from old mid new c asks fails)
  making_from old mid new c asks (inr fails) =
      let asked = ended_asked old mid c asks in
      inr (record {
        begins = fails.begins;
        asked = asked_then asked fails.asked;
        known = fails.known;
        is_known = subst (λ (d : Database). known_for c (rows_in d.trees) ≡ Some fails.known) (rows_asked asked)
            fails.is_known;
        error = fails.error;
        is_store = fails.is_store;
        failed = fails.failed;
      })
