-- The statements of a change, how their transaction ends, and what that leaves of the books.
use Rattle.std.proofs.Common.{◌≡◌, sym, ap, subst, ◌∙◌, List, ℕ, false, Ok, Err, Result, OnOk, OnErr, IfErr, IsErr}
use Rattle.std.proofs.Common.{IsTrue, arith}
use Rattle.std.proofs.lemmas.Result.{on_ok_weaker}
use Rattle.sqlite.specs.Effect.{Database}
use Rattle.sqlite.specs.Order.{Row}
use Rattle.sqlite.specs.State.{State, HasCleanDisk, KeepsCommit, Survives, ExecutesInside}
use Rattle.sqlite.specs.Steps.{FailsToCommit}
use Rattle.sqlite.specs.declared.error.Error.{Error}
use Rattle.hotel_model.specs.Rows.{Rows}
use Rattle.hotel_statements.specs.declared.version.Layout.TheVariants.{Nine}
use Rattle.hotel_statements.specs.declared.version.TheConstants.{INDEXES}
use Rattle.hotel_statements.specs.Tables.{rows_in}
use Rattle.hotel_statements.specs.Books.{IsKept, IsBooks}
use Rattle.hotel_books.specs.Refinement.Finds.{AnyRows}
use Rattle.hotel_statements.specs.Steps.{IsMidWith, MovesRows, RunsStatement, MakesRows, IsMadeOf}
use Rattle.hotel_statements.proofs.Transaction.{Begins, LeavesDesk, Committed, start_kept, start_mid, finished}
use Rattle.hotel_statements.proofs.Transaction.{none_new, or_committed}

-- ---- statements, one after the other

pub commit_then : {a b c : State} → KeepsCommit a b → KeepsCommit b c → KeepsCommit a c
commit_then one two = record {
  was_open = λ is_open. one.was_open (two.was_open is_open);
  committed = λ is_open. two.committed is_open ∙ one.committed (two.was_open is_open);
}

module _ {fits : Rows → Type 0} {f : Rows → Rows} {a b : State} where
  -- two, of which the second may fail, and wants something of the rows that the first leaves
  pub then_makes_if : {more : Rows → Type 0} {g : Rows → Rows} {c : State} {u : Unit {0}} {r : Result (Unit {0}) Error}
      → ((rows : Rows) → fits rows → more (f rows)) → MakesRows fits f a b (Ok u) → MakesRows more g b c r
      → MakesRows fits (λ rows. g (f rows)) a c r
  then_makes_if {more} {g} {c} {u} {r} still one two = record {
    made = λ clean. go r (was clean) (two.made clean);
    kept = λ clean. commit_then (one.kept (was clean)) (two.kept clean);
    survives = none_new one.survives two.survives;
  }
    where
      was : HasCleanDisk c → HasCleanDisk b
      was clean = omega (arith, two.survives.clean, clean)

      go : (r : Result (Unit {0}) Error) → HasCleanDisk b → OnOk r (IsMidWith more b → MovesRows b c g)
          → OnOk r (IsMidWith fits a → MovesRows a c (λ rows. g (f rows)))
      go (Err e) clean next = tt
      go (Ok u) clean next = λ mid.
          let first = one.made clean mid in
          let last = next (λ _. (first.mid, subst more (sym first.rows_are) (still _ (mid first.was_open).1))) in
          record {
            was_open = first.was_open;
            is_open = last.is_open;
            committed = last.committed ∙ first.committed;
            mid = last.mid;
            rows_are = last.rows_are ∙ ap g first.rows_are;
          }

  -- two, whatever the rows are
  pub then_makes : {g : Rows → Rows} {c : State} {u : Unit {0}} {r : Result (Unit {0}) Error}
      → MakesRows fits f a b (Ok u) → MakesRows AnyRows g b c r → MakesRows fits (λ rows. g (f rows)) a c r
  then_makes one two = then_makes_if (λ _ _. tt) one two

  -- what failed promises no rows
  pub failed : {others : Rows → Type 0} {make : Rows → Rows} {e : Error} (r : Result (Unit {0}) Error)
      → IsErr r → MakesRows fits f a b (Err e) → MakesRows others make a b r
  failed (Ok u) is it = absurd cc
  failed (Err why) is it = record { made = λ clean. tt; kept = it.kept; survives = it.survives }

-- the rows are the same by another word
pub as_made : {fits others : Rows → Type 0} {f g : Rows → Rows} {a b : State} {r : Result (Unit {0}) Error}
    → ((rows : Rows) → others rows → fits rows) → ((rows : Rows) → others rows → f rows ≡ g rows)
    → MakesRows fits f a b r → MakesRows others g a b r
as_made {fits} {others} {f} {g} {a} {b} {r} fit same it =
    record { made = λ clean. go r (it.made clean); kept = it.kept; survives = it.survives }
  where
    go : (r : Result (Unit {0}) Error) → OnOk r (IsMidWith fits a → MovesRows a b f)
        → OnOk r (IsMidWith others a → MovesRows a b g)
    go (Err e) made = tt
    go (Ok u) made = λ mid.
        let did = made (λ is_open. ((mid is_open).0, fit _ (mid is_open).1)) in
        record {
          was_open = did.was_open;
          is_open = did.is_open;
          committed = did.committed;
          mid = did.mid;
          rows_are = did.rows_are ∙ same _ (mid did.was_open).1;
        }

-- one statement, given what it makes of the rows, and its parameters as they are bound
pub makes_rows : {text : List ℕ} {given : Row} {fits : Rows → Type 0} {make : Rows → Rows} {old new : State}
    {r : Result (Unit {0}) Error} (params : Row) → RunsStatement text given old new r
    → ((count : ℕ) → ExecutesInside 0 text params old new (Ok count) → IsMidWith fits old → MovesRows old new make)
    → given ≡ params → MakesRows fits make old new r
makes_rows {text} {given} {fits} {make} {old} {new} {r} params it step same =
    record { made = λ clean. go r (it.ran clean); kept = it.kept; survives = it.survives }
  where
    go : (r : Result (Unit {0}) Error) → OnOk r ((count : ℕ) × ExecutesInside 0 text given old new (Ok count))
        → OnOk r (IsMidWith fits old → MovesRows old new make)
    go (Err e) ran = tt
    go (Ok u) ran = step ran.0 (subst (λ ps. ExecutesInside 0 text ps old new (Ok ran.0)) same ran.1)

-- ---- the transaction

-- how a change ends that was made in one transaction
pub record Ends (make : Rows → Rows) (old new : State) (r : Result (Unit {0}) Error) : Type 0 where
  pub books : IsBooks new
  pub was : IsKept new → IsKept old
  pub open_on : HasCleanDisk new → OnOk r (IsTrue new.is_open)
  pub made : IsKept new → OnOk r (rows_in new.now.trees ≡ make (rows_in old.now.trees))
  pub same : IsKept new → OnErr r (new.now ≡ old.now)
  pub crash : Survives old new (IsMadeOf make old.now.trees)

module _ {fits : Rows → Type 0} {make : Rows → Rows} {old start mid : State} {u : Unit {0}}
    (b : Begins (Nine INDEXES) old start) (may : IsKept old → fits (rows_in old.now.trees))
    (did : MakesRows fits make start mid (Ok u)) where
  -- what was true of the rows as the change began is true as its transaction does
  fits_start : HasCleanDisk start → IsTrue start.is_open → fits (rows_in start.now.trees)
  fits_start clean is_open =
      subst (λ (s : State). fits (rows_in s.now.trees)) (sym b.begun) (may (start_kept b clean is_open))

  all_steps : HasCleanDisk mid → MovesRows start mid make
  all_steps clean =
      let before : HasCleanDisk start = omega (arith, did.survives.clean, clean) in
      did.made clean (λ is_open. (start_mid b before is_open, fits_start before is_open))

  leaves : HasCleanDisk mid → LeavesDesk start mid
  leaves clean =
      let all = all_steps clean in record { was_open = all.was_open; committed = all.committed; mid = all.mid }

  whole : HasCleanDisk mid → IsMadeOf make old.now.trees mid.now.trees
  whole clean =
      let all = all_steps clean in
      record {
        tables = all.mid.tables;
        rows_are = all.rows_are ∙ ap (λ (s : State). make (rows_in s.now.trees)) b.begun;
      }

  pub ended : (new : State) (r : Result (Unit {0}) Error) → Survives old start (λ _. ⊥) → new.in_transaction ≡ false
      → (HasCleanDisk new → Committed mid new r) → (HasCleanDisk new → IfErr r (FailsToCommit mid new))
      → Survives mid new (λ db. db ≡ mid.now.trees) → Ends make old new r
  ended new r began autocommit ok err survives =
      let it = finished b leaves did.survives new r autocommit ok err survives in
      record {
        books = either r it.books it.left;
        was = it.was;
        open_on = it.open_on;
        made = λ kept. on_ok_weaker r (λ now. ap (λ (d : Database). rows_in d.trees) now
            ∙ (whole (omega (arith, survives.clean, kept.0))).rows_are) (it.made kept);
        same = it.same;
        crash = or_committed began did.survives survives whole;
      }
    where
      either : (r : Result (Unit {0}) Error) → OnOk r (IsBooks new) → OnErr r (IsBooks new) → IsBooks new
      either (Ok u) books left = books
      either (Err e) books left = left
