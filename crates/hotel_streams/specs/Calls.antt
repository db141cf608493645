-- The reads and writes of one public call.
use Rattle.std.specs.Prelude.{◌≡◌, ◌≤◌, ℕ, Bool, true, Result, IsErrOf}

-- How many were interrupted, and whether a read or a write failed.
pub record Calls : Type 0 where
  pub interrupted : ℕ
  pub read_failed : Bool
  pub write_failed : Bool

-- More calls were made: no interrupted one is forgotten, and no failed one.
pub record NoneForgotten (old new : Calls) : Type 0 where
  pub interrupted : old.interrupted ≤ new.interrupted
  pub read_failed : old.read_failed ≡ true → new.read_failed ≡ true
  pub write_failed : old.write_failed ≡ true → new.write_failed ≡ true

-- A fact that holds where this error came.
abbrev pub OnErrOf : {A E : Type 0} → Result A E → E → Type 0 → Type 0
OnErrOf result fault fact = IsErrOf result fault → fact

-- The reads of a call were counted: on this fault a read failed, and no call is forgotten.
pub record CountsReads (before after : Calls) (on_fault : Type 0 → Type 0) : Type 0 where
  pub failed : on_fault (after.read_failed ≡ true)
  pub none_forgotten : NoneForgotten before after

-- The writes of a call were counted: on this fault a write failed, and no call is forgotten.
pub record CountsWrites (before after : Calls) (on_fault : Type 0 → Type 0) : Type 0 where
  pub failed : on_fault (after.write_failed ≡ true)
  pub none_forgotten : NoneForgotten before after

-- The reads and writes of a call were counted: on the first fault a read failed, on the second one a write, and no call
-- is forgotten.
pub record CountsCalls (before after : Calls) (on_read on_write : Type 0 → Type 0) : Type 0 where
  pub read : on_read (after.read_failed ≡ true)
  pub write : on_write (after.write_failed ≡ true)
  pub none_forgotten : NoneForgotten before after
