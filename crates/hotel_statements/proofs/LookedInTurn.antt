-- Look-ups that are made of a statement or of others, one or two in turn.
use Rattle.std.proofs.Common.{◌≡◌, ◌∙◌, ap, Result, Ok, Err}
use Rattle.std.specs.Prelude.{IsTrue}
use Rattle.std.specs.Result.{IsErr}
use Rattle.sqlite.specs.Effect.{Database}
use Rattle.sqlite.specs.Tree.{Trees}
use Rattle.sqlite.specs.State.{State, HasCleanDisk, IsUnchanged}
use Rattle.keycard_rules.specs.declared.issued.LookFault.{LookFault}
use Rattle.hotel_model.specs.Rows.{Rows}
use Rattle.hotel_statements.specs.Tables.{rows_in}
use Rattle.hotel_statements.specs.Books.{IsKept, IsBooks, KeepsRows}
use Rattle.hotel_statements.specs.LookUps.{Selects, SelectsIn, LeavesNoMore, HasCause}
use Rattle.hotel_statements.proofs.Keeps.{then_keeps, then_survives}
use Rattle.hotel_statements.proofs.Since.{then_unchanged, clean_before}

-- A look-up was answered, whatever it found.
pub record IsAnswered (old new : State) : Type 0 where
  pub books : IsBooks new
  pub keeps : KeepsRows old new
  pub open_on : HasCleanDisk new → IsTrue new.is_open
  pub unchanged : HasCleanDisk new → IsUnchanged old new
  pub crash : LeavesNoMore old new

pub of_statement : {old new : State} → IsBooks new → KeepsRows old new → (HasCleanDisk new → IsUnchanged old new)
    → LeavesNoMore old new → IsAnswered old new
of_statement books keeps unchanged crash = record {
  books = books;
  keeps = keeps;
  open_on = λ clean. (unchanged clean).0.is_open;
  unchanged = unchanged;
  crash = crash;
}

pub of_look : {A R : Type 0} {Fails : State → State → Type 0} {said : R → A} {wanted : Rows → A} {old new : State}
    {answer : R} → Selects Fails said wanted old new (Ok answer) → IsAnswered old new
of_look look = record {
  books = look.books;
  keeps = look.keeps;
  open_on = look.open_on tt;
  unchanged = look.unchanged tt;
  crash = look.crash;
}

pub of_find : {R : Type 0} {Fails : State → State → Type 0} {wanted : Trees → R} {old new : State} {answer : R}
    → SelectsIn Fails wanted old new (Ok answer) → IsAnswered old new
of_find find = record {
  books = find.books;
  keeps = find.keeps;
  open_on = find.open_on;
  unchanged = find.unchanged;
  crash = find.crash;
}

-- two in turn were
pub then_answered : {old mid new : State} → IsAnswered old mid → IsAnswered mid new → IsAnswered old new
then_answered {old} {mid} {new} first second = record {
  books = second.books;
  keeps = then_keeps old mid new first.keeps second.keeps;
  open_on = second.open_on;
  unchanged =
      then_unchanged old mid new (clean_before mid new second.crash) first.unchanged first.crash second.unchanged;
  crash = then_survives old mid new first.open_on first.crash second.crash;
}

-- what the second finds in the tables is in those before the first
pub then_found : {R : Type 0} {old mid new : State} {answer : R} (first : IsAnswered old mid)
    (second : IsAnswered mid new) (wanted : Trees → R) → (IsKept new → answer ≡ wanted mid.now.trees)
    → IsKept new → IsKept mid × (answer ≡ wanted old.now.trees)
then_found first second wanted found kept =
    let before = second.keeps kept in
    (before.0, found kept ∙ ap (λ (d : Database). wanted d.trees) (first.keeps before.0).1)

-- what is made of that answer, where it is what is wanted
pub answers_so : {A R : Type 0} {Fails : State → State → Type 0} {said : R → A} {wanted : Rows → A} {old new : State}
    {answer : R} → IsAnswered old new → (IsKept new → said answer ≡ wanted (rows_in old.now.trees))
    → Selects Fails said wanted old new (Ok answer)
answers_so was found = record {
  books = was.books;
  keeps = was.keeps;
  found = found;
  open_on = λ _. was.open_on;
  unchanged = λ _. was.unchanged;
  cause = λ _. tt;
  crash = was.crash;
}

-- it failed, or what is made of it did
pub fails_so : {A R : Type 0} {Fails : State → State → Type 0} {said : R → A} {wanted : Rows → A} {old new : State}
    (result : Result R LookFault) → IsErr result → IsBooks new → KeepsRows old new → LeavesNoMore old new
    → HasCause Fails old new result → Selects Fails said wanted old new result
fails_so (Ok answer) err books keeps crash cause = absurd (let none = err in cc)
fails_so (Err fault) err books keeps crash cause = record {
  books = books;
  keeps = keeps;
  found = λ _. tt;
  open_on = λ _ _. tt;
  unchanged = λ _ _. tt;
  cause = cause;
  crash = crash;
}

-- one before it was answered
pub then_fails : {A R : Type 0} {Fails : State → State → Type 0} {said : R → A} {wanted : Rows → A}
    {old mid new : State} (result : Result R LookFault) → IsErr result → IsAnswered old mid → IsBooks new
    → KeepsRows mid new → LeavesNoMore mid new → HasCause Fails old new result
    → Selects Fails said wanted old new result
then_fails {old = old} {mid = mid} {new = new} result err first books keeps crash cause =
    fails_so result err books (then_keeps old mid new first.keeps keeps)
    (then_survives old mid new first.open_on first.crash crash) cause
