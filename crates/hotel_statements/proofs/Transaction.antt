-- A transaction on the connection of books, however laid out, whose statements leave a whole desk: what it began
-- with, how it ends, and what a crash in it leaves.
use Rattle.std.proofs.Common.{◌≡◌, inl, inr, refl, sym, ap, subst, ◌∙◌, true, false, true≢false, Ok, Err, Result}
use Rattle.std.proofs.Common.{OnOk, OnErr, IfErr, IsTrue, [], arith}
use Rattle.std.proofs.lemmas.Result.{on_ok_weaker, on_err_weaker}
use Rattle.sqlite.specs.Tree.{Trees}
use Rattle.sqlite.specs.State.{State, HasCleanDisk, IsRolledBack, Survives, Shows, KeepsCounts}
use Rattle.sqlite.specs.Steps.{FailsToCommit}
use Rattle.sqlite.specs.declared.error.Error.{Error}
use Rattle.sqlite.proofs.StateLemmas.{survives_then}
use Rattle.hotel_statements.specs.declared.version.Layout.{Layout}
use Rattle.hotel_statements.specs.Books.{IsDesk, IsDeskOf, IsKept, IsBooks, IsBooksOf}
use Rattle.hotel_statements.specs.Steps.{IsMid, IsMidOf}
use Rattle.hotel_statements.proofs.Books.{desk_shown}

-- the transaction was begun on a connection of books
pub record Begins (layout : Layout) (old start : State) : Type 1 where
  pub books : IsBooksOf layout old
  pub begun : start ≡ record old { in_transaction = true }

-- Its statements, from old to new, left a whole desk, and committed nothing.
pub record LeavesDesk (old new : State) : Type 0 where
  pub was_open : IsTrue old.is_open
  pub committed : new.committed ≡ old.committed
  pub mid : IsMid new

-- what a commit that was answered did
abbrev pub Committed : State → State → Result (Unit {0}) Error → Type 0
Committed mid new r = OnOk r (IsTrue mid.in_transaction × Shows mid new mid.now mid.now false × KeepsCounts mid new
    × (new.marks ≡ []))

-- How it ends: what its statements left is committed, or the desk is as it was.
pub record Finishes (layout : Layout) (old mid new : State) (r : Result (Unit {0}) Error) : Type 0 where
  pub books : OnOk r (IsBooks new)
  pub left : OnErr r (IsBooksOf layout new)
  pub was : IsKept new → IsKept old
  pub open_on : HasCleanDisk new → OnOk r (IsTrue new.is_open)
  pub made : IsKept new → OnOk r (new.now ≡ mid.now)
  pub same : IsKept new → OnErr r (new.now ≡ old.now)

-- ---- how it began

module _ {layout : Layout} {old start : State} (b : Begins layout old start) where
  pub start_kept : HasCleanDisk start → IsTrue start.is_open → IsKept old
  start_kept clean is_open = (
    subst (λ (s : State). HasCleanDisk s) b.begun clean,
    subst (λ (s : State). IsTrue s.is_open) b.begun is_open,
  )

  pub start_mid : HasCleanDisk start → IsTrue start.is_open → IsMidOf layout start
  start_mid clean is_open =
      let desk = b.books.desk (start_kept clean is_open) in
      subst (IsMidOf layout) (sym b.begun) (record { schema = desk.schema; inside = refl; tables = desk.tables })

-- ---- how it ends

-- the desk is what the statements left, where that was committed, and else as it was
abbrev Ended : Layout → State → State → State → Result (Unit {0}) Error → Type 0
Ended layout old mid new r =
    OnOk r (IsDesk new × (new.now ≡ mid.now)) × OnErr r (IsDeskOf layout new × (new.now ≡ old.now))

module _ {layout : Layout} {old start mid : State} (new : State) (b : Begins layout old start) (kept : IsKept old)
    (did : LeavesDesk start mid) (is_open : IsTrue new.is_open) where
  -- the desk as it was, where the transaction was given up
  restored : IsRolledBack mid new → IsDeskOf layout new × (new.now ≡ old.now)
  restored back =
      let desk = b.books.desk kept in
      let undone = back.undone is_open in
      let same : new.now ≡ old.now =
      undone.0 ∙ did.committed ∙ ap (λ (s : State). s.committed) b.begun ∙ sym desk.settled in
      (desk_shown desk.schema desk.tables same (undone.0 ∙ sym undone.1), same)

  ends : (r : Result (Unit {0}) Error) → Committed mid new r → IfErr r (FailsToCommit mid new)
      → Ended layout old mid new r
  ends (Ok u) ok err =
      let shown = ok.1 in
      let now : new.now ≡ mid.now = shown.now_is in
      ((desk_shown did.mid.schema did.mid.tables now (now ∙ sym shown.committed_is), now), tt)
  ends (Err e) ok (inl fails) = (tt, restored fails.3)
  ends (Err e) ok (inr late) = absurd (true≢false (sym did.mid.inside ∙ late.1))

pub finished : {layout : Layout} {old start mid : State} → Begins layout old start
    → (HasCleanDisk mid → LeavesDesk start mid) → Survives start mid (λ _. ⊥) → (new : State)
    → (r : Result (Unit {0}) Error) → new.in_transaction ≡ false → (HasCleanDisk new → Committed mid new r)
    → (HasCleanDisk new → IfErr r (FailsToCommit mid new)) → Survives mid new (λ db. db ≡ mid.now.trees)
    → Finishes layout old mid new r
finished {layout} {old} {start} {mid} b did ran new r autocommit ok err survives = record {
  books = books r end;
  left = left r end;
  was = λ kept. was_kept (clean_mid kept.0);
  open_on = λ clean. on_ok_weaker r (λ did. did.1.is_open) (ok clean);
  made = λ kept. on_ok_weaker r (λ it. it.1) (end kept).0;
  same = λ kept. on_err_weaker r (λ it. it.1) (end kept).1;
}
  where
    clean_mid : HasCleanDisk new → HasCleanDisk mid
    clean_mid clean = omega (arith, survives.clean, clean)

    was_kept : HasCleanDisk mid → IsKept old
    was_kept clean = start_kept b (omega (arith, ran.clean, clean)) (did clean).was_open

    end : IsKept new → Ended layout old mid new r
    end kept =
        let clean = clean_mid kept.0 in ends new b (was_kept clean) (did clean) kept.1 r (ok kept.0) (err kept.0)

    books : (r : Result (Unit {0}) Error) → (IsKept new → Ended layout old mid new r) → OnOk r (IsBooks new)
    books (Ok u) end = record { autocommit = autocommit; desk = λ kept. (end kept).0.0 }
    books (Err e) end = tt

    left : (r : Result (Unit {0}) Error) → (IsKept new → Ended layout old mid new r) → OnErr r (IsBooksOf layout new)
    left (Ok u) end = tt
    left (Err e) end = record { autocommit = autocommit; desk = λ kept. (end kept).1.0 }

-- ---- what a crash leaves

pub none_new : {a b c : State} → Survives a b (λ _. ⊥) → Survives b c (λ _. ⊥) → Survives a c (λ _. ⊥)
none_new {a} {b} {c} one two =
    survives_then a b c (λ _. ⊥) (λ _. ⊥) (λ _. ⊥) (λ _ _ none. none) (λ _ _ none. none) one two

-- what it could leave before, or what is committed
pub or_committed : {P : Trees → Type 0} {old start mid new : State} → Survives old start (λ _. ⊥)
    → Survives start mid (λ _. ⊥) → Survives mid new (λ db. db ≡ mid.now.trees) → (HasCleanDisk mid → P mid.now.trees)
    → Survives old new P
or_committed {P} {old} {start} {mid} {new} began ran ends whole =
    survives_then old mid new (λ _. ⊥) (λ db. db ≡ mid.now.trees) P (λ _ db none. absurd none)
    (λ clean db is. subst P (sym is) (whole (omega (arith, ends.clean, clean)))) (none_new began ran) ends
