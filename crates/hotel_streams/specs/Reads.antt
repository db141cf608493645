-- When a reader is read, and what came of it.
use Rattle.std.specs.Prelude.{◌≡◌, ◌≤◌, ℕ, [], ◌++◌, List, length, Option}
use Rattle.std.specs.Io.KnownBytes.{Consumes}
use Rattle.hotel_streams.specs.declared.bytes.TheConstants.{READ_BYTES}

-- A reader lost bytes at its front, and more of them only while this held of those that had come: at most the bytes of
-- one read came behind such bytes.
abbrev pub ReadsWhile : (List ℕ → Type 0) → Option (List ℕ) → Option (List ℕ) → Type 0
ReadsWhile wants old new =
    (before : List ℕ) × (last : List ℕ) × (length last ≤ READ_BYTES) × Consumes old new (before ++ last) × wants before

-- The bytes are the input; or, where they are more than `most`, a prefix of it.
abbrev pub IsPrefixUpTo : ℕ → List ℕ → List ℕ → Type 0
IsPrefixUpTo most bytes input = (rest : List ℕ) × (input ≡ bytes ++ rest) × (length bytes ≤ most → rest ≡ [])
