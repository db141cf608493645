-- Statements that are run in turn.
use Rattle.std.proofs.Common.{◌≡◌, inl, inr, refl, subst, ◌∙◌, ap, false, IsTrue, List, [], ◌∷◌, ◌++◌, ℕ, Ok, Err}
use Rattle.std.proofs.Common.{Result}
use Rattle.std.proofs.Common.{IsErr, IsErrAnd, OnOk, arith}
use Rattle.std.proofs.lemmas.Result.{on_ok_weaker}
use Rattle.std.proofs.lemmas.Bool.{cases_Bool}
use Rattle.sqlite.specs.Order.{Row}
use Rattle.sqlite.specs.Tree.{Trees}
use Rattle.sqlite.specs.Held.{Held, state}
use Rattle.sqlite.specs.State.{State, HasCleanDisk, ExecutesInside, KeepsCommit, Survives}
use Rattle.sqlite.specs.declared.error.Error.{Error}
use Rattle.sqlite.specs.declared.error.Error.TheVariants.{SqliteFailure}
use Rattle.sqlite.specs.declared.error.ErrorCode.TheVariants.{TransactionState}
use Rattle.sqlite_trees.specs.declared.store.Store.{Ghosts}
use Rattle.hotel_model.specs.Rows.{Rows}
use Rattle.hotel_statements.specs.Steps as step
use Rattle.hotel_books.specs.Refinement.Finds.{AnyRows}
use Rattle.hotel_statements.specs.Steps.{IsMidWith, MovesRows}
use Rattle.hotel_statements.specs.Statements.{Statement, RunsOne, RunsInTurn, RunsStatements, WritesBy, MakesBy}
use Rattle.hotel_statements.proofs.Ends.{commit_then, then_makes, then_makes_if, failed, as_made}
use Rattle.hotel_statements.proofs.Ends.{makes_rows}
use Rattle.hotel_statements.proofs.Transaction.{none_new}

pub answered : {e : Error} (r : Result (Unit {0}) Error) → IsErrAnd r (λ why. why ≡ e) → r ≡ Err e
answered (Ok u) is = absurd is
answered (Err why) is = ap Err is

module _ {S : Type 0} (g : Ghosts S) where
  in_turn_then : (one two : List Statement) (a b c : Held S) (u : Unit {0}) (r : Result (Unit {0}) Error)
      → RunsInTurn g one a b (Ok u) → RunsInTurn g two b c r
      → RunsInTurn g (one ++ two) a c r
  in_turn_then [] two a b c u r ran more = subst (λ (h : Held S). RunsInTurn g two h c r) ran.1 more
  in_turn_then (s ∷ one) two a b c u r (inl stopped) more = absurd (let e = stopped.2 in cc)
  in_turn_then (s ∷ one) two a b c u r (inr ran) more =
      inr (ran.0, ran.1, ran.2, in_turn_then one two ran.0 b c u r ran.3 more)

  in_turn_stopped : (one two : List Statement) (a b : Held S) (e : Error) (r : Result (Unit {0}) Error)
      → r ≡ Err e → RunsInTurn g one a b (Err e) → RunsInTurn g (one ++ two) a b r
  in_turn_stopped [] two a b e r is ran = absurd (let no = ran.0 in cc)
  in_turn_stopped (s ∷ one) two a b e r is (inl stopped) = inl (stopped.0, stopped.1, is ∙ stopped.2)
  in_turn_stopped (s ∷ one) two a b e r is (inr ran) =
      inr (ran.0, ran.1, ran.2, in_turn_stopped one two ran.0 b e r is ran.3)

  pub ran_one : (s : Statement) (old new : Held S) (r : Result ℕ Error)
      → (IsTrue old.in_transaction → ExecutesInside 0 s.0 s.1 (state g old) (state g new) r)
      → (old.in_transaction ≡ false → (r ≡ Err (SqliteFailure TransactionState)) × (new ≡ old)) → RunsOne g s old new r
  ran_one s old new r ran ended = elim (cases_Bool old.in_transaction) [
    | inl inside ↦ inl (inside, ran inside)
    | inr over ↦ inr (over, (ended over).0, (ended over).1)
  ]

-- no statement was run
pub none_ran : {S : Type 0} (g : Ghosts S) {P : State → State → Type 0} (a : Held S) → P (state g a) (state g a)
    → MakesBy g [] P a a (Ok tt)
none_ran g a made = record {
  runs = record { in_turn = λ _. (refl, refl) };
  made = λ _. made;
  kept = λ _. record { was_open = λ is_open. is_open; committed = λ _. refl };
  survives = record {
    clean = omega arith;
    shield = λ shield. shield;
    counts = omega arith;
    limit = refl;
    closes = λ _ is_open. inl is_open;
    crash = λ _ db left. inl left;
  };
}

module _ {S : Type 0} {g : Ghosts S} {one : List Statement} {a b : Held S} where
  -- those ran, and then these
  pub runs_then : {P : Trees → Type 0} {two : List Statement} {c : Held S} {u : Unit {0}} {r : Result (Unit {0}) Error}
      → RunsStatements g one a b (Ok u) → Survives (state g b) (state g c) P → RunsStatements g two b c r
      → RunsStatements g (one ++ two) a c r
  runs_then {P} {two} {c} {u} {r} first survives next = record {
    in_turn = λ clean. in_turn_then g one two a b c u r
        (first.in_turn (omega (arith, survives.clean, clean))) (next.in_turn clean);
  }

  -- one failed, and of those after it none is run
  pub runs_stopped : (two : List Statement) {e : Error} (r : Result (Unit {0}) Error)
      → r ≡ Err e → RunsStatements g one a b (Err e) → RunsStatements g (one ++ two) a b r
  runs_stopped two {e} r is ran = record { in_turn = λ clean. in_turn_stopped g one two a b e r is (ran.in_turn clean) }

  module _ {fits : Rows → Type 0} {f : Rows → Rows} where
    pub writes_then : {two : List Statement} {h : Rows → Rows} {c : Held S} {u : Unit {0}} {r : Result (Unit {0}) Error}
        → WritesBy g one fits f a b (Ok u) → WritesBy g two AnyRows h b c r
        → WritesBy g (one ++ two) fits (λ rows. h (f rows)) a c r
    writes_then first next =
        record { runs = runs_then first.runs next.rows.survives next.runs; rows = then_makes first.rows next.rows }

    -- those after it want something of the rows that it leaves
    pub writes_then_if : {two : List Statement} {more : Rows → Type 0} {h : Rows → Rows} {c : Held S} {u : Unit {0}}
        {r : Result (Unit {0}) Error} → ((rows : Rows) → fits rows → more (f rows)) → WritesBy g one fits f a b (Ok u)
        → WritesBy g two more h b c r → WritesBy g (one ++ two) fits (λ rows. h (f rows)) a c r
    writes_then_if still first next = record {
      runs = runs_then first.runs next.rows.survives next.runs;
      rows = then_makes_if still first.rows next.rows;
    }

    -- what failed promises no rows
    pub writes_stopped : (two : List Statement) {others : Rows → Type 0} {make : Rows → Rows} {e : Error}
        (r : Result (Unit {0}) Error) → IsErr r → IsErrAnd r (λ why. why ≡ e)
        → WritesBy g one fits f a b (Err e) → WritesBy g (one ++ two) others make a b r
    writes_stopped two r is why it =
        record { runs = runs_stopped two r (answered r why) it.runs; rows = failed r is it.rows }

    -- the rows are the same by another word
    pub writes_as : {others : Rows → Type 0} {h : Rows → Rows} {r : Result (Unit {0}) Error}
        → ((rows : Rows) → others rows → fits rows) → ((rows : Rows) → others rows → f rows ≡ h rows)
        → WritesBy g one fits f a b r → WritesBy g one others h a b r
    writes_as fit same it = record { runs = it.runs; rows = as_made fit same it.rows }

  module _ {P : State → State → Type 0} where
    -- two, each of which makes something
    pub made_then : {two : List Statement} {Q R : State → State → Type 0} {c : Held S} {u : Unit {0}}
        {r : Result (Unit {0}) Error}
        → (P (state g a) (state g b) → Q (state g b) (state g c) → R (state g a) (state g c))
        → MakesBy g one P a b (Ok u) → MakesBy g two Q b c r → MakesBy g (one ++ two) R a c r
    made_then {c = c} {r = r} both first next = record {
      runs = runs_then first.runs next.survives next.runs;
      made = λ clean. on_ok_weaker r (both (first.made (was clean))) (next.made clean);
      kept = λ clean. commit_then (first.kept (was clean)) (next.kept clean);
      survives = none_new first.survives next.survives;
    }
      where
        was : HasCleanDisk (state g c) → HasCleanDisk (state g b)
        was clean = omega (arith, next.survives.clean, clean)

    -- two, whatever they make
    pub runs_on : {two : List Statement} {Q : State → State → Type 0} {c : Held S} {u : Unit {0}}
        {r : Result (Unit {0}) Error} → MakesBy g one P a b (Ok u) → MakesBy g two Q b c r
        → MakesBy g (one ++ two) (λ _ _. Unit {0}) a c r
    runs_on first next = made_then (λ _ _. tt) first next

    -- one failed, and of those after it none is run
    pub made_stopped : (two : List Statement) {R : State → State → Type 0} {e : Error} (r : Result (Unit {0}) Error)
        → IsErr r → IsErrAnd r (λ why. why ≡ e) → MakesBy g one P a b (Err e) → MakesBy g (one ++ two) R a b r
    made_stopped two {R} r is why it = record {
      runs = runs_stopped two r (answered r why) it.runs;
      made = λ _. nothing r is;
      kept = it.kept;
      survives = it.survives;
    }
      where
        nothing : (r : Result (Unit {0}) Error) → IsErr r → OnOk r (R (state g a) (state g b))
        nothing (Ok u) is = absurd cc
        nothing (Err e) is = tt

    -- with what is true of the committed rows
    pub made_kept : {r : Result (Unit {0}) Error} → MakesBy g one P a b r
        → MakesBy g one (λ old new. P old new × KeepsCommit old new) a b r
    made_kept {r = r} it = record {
      runs = it.runs;
      made = λ clean. on_ok_weaker r (λ made. (made, it.kept clean)) (it.made clean);
      kept = it.kept;
      survives = it.survives;
    }

    -- it is made by another word
    pub made_as : {R : State → State → Type 0} {r : Result (Unit {0}) Error}
        → (P (state g a) (state g b) → R (state g a) (state g b)) → MakesBy g one P a b r → MakesBy g one R a b r
    made_as {r = r} word it = record {
      runs = it.runs;
      made = λ clean. on_ok_weaker r word (it.made clean);
      kept = it.kept;
      survives = it.survives;
    }

-- one statement, given what it makes of the rows, and its parameters as they are bound
pub writes_row : {S : Type 0} {g : Ghosts S} {text : List ℕ} {given : Row} {fits : Rows → Type 0} {make : Rows → Rows}
    {old new : Held S} {r : Result (Unit {0}) Error} (params : Row)
    → step.RunsStatement text given (state g old) (state g new) r → RunsStatements g ((text, given) ∷ []) old new r
    → ((count : ℕ) → ExecutesInside 0 text params (state g old) (state g new) (Ok count) → IsMidWith fits (state g old)
    → MovesRows (state g old) (state g new) make) → given ≡ params
    → WritesBy g ((text, params) ∷ []) fits make old new r
writes_row {S} {g} {text} {given} {fits} {make} {old} {new} {r} params it answers step same = record {
  runs = subst (λ ps. RunsStatements g ((text, ps) ∷ []) old new r) same answers;
  rows = makes_rows params it step same;
}
