-- What a write is put together of.
use Rattle.std.proofs.Common.{◌≡◌, ◌⊎◌, inl, inr, ℕ, ℤ, pos, Bool, true, false, List, cond, Option}
use Rattle.std.proofs.Common.{None, Some, Ok, Err, Result, OnOk, IsErr, not, ◌&&◌, sym, ◌∙◌, subst, true≢false, refl}
use Rattle.std.proofs.Common.{IsTrue}
use Rattle.sqlite_value.specs.declared.value.Value.{Value}
use Rattle.sqlite_value.specs.declared.value.Value.TheVariants.{Null, Int, Text}
use Rattle.sqlite.specs.Ops.{unary}
use Rattle.sqlite.specs.Kind.TheVariants as kind
use Rattle.sqlite.specs.Cast.{cast}
use Rattle.sqlite.specs.Order.{Row}
use Rattle.sqlite.specs.State.{State, ExecutesInside, KeepsCommit}
use Rattle.sqlite.specs.declared.error.Error.{Error}
use Rattle.hotel_statements.specs.Values.{maybe_int}

either : (b : Bool) (x : Value) → cond b x x ≡ x
either true x = refl
either false x = refl

pub cast_null : cast kind.Integer Null ≡ Null
unfolding unary
cast_null = either _ Null

pub cast_int : (n : ℤ) → cast kind.Integer (Int n) ≡ Int n
unfolding unary
cast_int n = either _ (Int n)

pub cast_maybe : (o : Option ℕ) → cast kind.Integer (maybe_int o) ≡ maybe_int o
cast_maybe None = cast_null
cast_maybe (Some n) = cast_int (pos n)

pub cast_text : (t : List ℕ) → cast kind.Text (Text t) ≡ Text t
cast_text t = refl

-- a part that gave a value did not stop on the way
pub went : {B E R : Type 0} {b : B} {Stops : E → Type 0} → ((stop : E) × Stops stop × (Ok b ≡ Err stop)) ⊎ R → R
went (inl stopped) = absurd (let e = stopped.2 in cc)
went (inr on) = on

pub same_value : {B E : Type 0} {a b : B} → ◌≡◌ {A = Result B E} (Ok a) (Ok b) → a ≡ b
same_value e = cc

-- the number of a row that is put is fresh
pub fresh_one : (b more : Bool) → (not b && more) ≡ true → b ≡ false
fresh_one true more h = absurd (true≢false (sym h))
fresh_one false more h = refl

-- what failed promises nothing
pub failing : {E : Type 0} (P : Type 0) (r : Result (Unit {0}) E) → IsErr r → OnOk r P
failing P (Ok u) is = absurd cc
failing P (Err e) is = tt

-- ---- a statement within a transaction

pub commit_kept : (sql : List ℕ) (params : Row) (old new : State) (r : Result ℕ Error)
    → ExecutesInside 0 sql params old new r → KeepsCommit old new
commit_kept sql params old new (Ok count) h = record { was_open = λ _. h.1.was_open; committed = λ _. h.1.committed_is }
commit_kept sql params old new (Err e) (inl (h, inl same)) =
    record { was_open = λ _. same.0.was_open; committed = λ _. same.0.committed_is }
commit_kept sql params old new (Err e) (inl (h, inr back)) =
    record { was_open = back.was_open; committed = λ is_open. (back.undone is_open).1 }
commit_kept sql params old new (Err e) (inr h) =
    record { was_open = λ _. h.2.0.was_open; committed = λ _. h.2.0.committed_is }

-- a statement that ran was inside its transaction
pub ran_inside : (b : Bool) (r : Result ℕ Error) (count : ℕ) (e : Error) (Same : Type 0)
    → r ≡ Ok count → (b ≡ false → (r ≡ Err e) × Same) → IsTrue b
ran_inside true r count e Same ran ended = refl
ran_inside false r count e Same ran ended = let no = sym ran ∙ (ended refl).0 in absurd cc

-- whether or not the transaction had ended
pub kept_inside : (b : Bool) (sql : List ℕ) (params : Row) (old new : State) (r : Result ℕ Error)
    → (IsTrue b → ExecutesInside 0 sql params old new r) → (b ≡ false → new ≡ old)
    → KeepsCommit old new
kept_inside true sql params old new r ran ended = commit_kept sql params old new r (ran refl)
kept_inside false sql params old new r ran ended =
    subst (KeepsCommit old) (sym (ended refl)) (record { was_open = λ is_open. is_open; committed = λ _. refl })
