-- What a loop of reads or writes did to known bytes.
use Rattle.std.specs.Prelude.{◌≡◌, ℕ, ◌≤◌, ◌++◌, List, length, take, Option, Result, OnOk, OnErr}
use Rattle.std.specs.Borrow.{Bor}
use Rattle.std.specs.List.{flat_map}
use Rattle.std.specs.Io.KnownBytes.{Appends, Consumes}
use Rattle.hotel_streams.specs.Calls.{Calls, CountsWrites}
use Rattle.hotel_streams.specs.{declared.bytes.ReadFault.ReadFault, declared.bytes.WholeFault.WholeFault}
use Rattle.hotel_streams.specs.declared.bytes.ReadFault.TheVariants as more
use Rattle.hotel_streams.specs.declared.bytes.WholeFault.TheVariants as whole

-- A writer took a prefix of the bytes: all of them, some or none.
abbrev pub AppendsPrefix : Option (List ℕ) → Option (List ℕ) → List ℕ → Type 0
AppendsPrefix old new bytes = (n : ℕ) × (n ≤ length bytes) × Appends old new (take n bytes)

-- A text was written: all of it, or a prefix of it until a write failed.
pub record Writes {A E : Type 0} (old new : Option (List ℕ)) (text : List ℕ) (before after : Calls)
    (result : Result A E) : Type 0 where
  pub ok : OnOk result (Appends old new text)
  pub err : OnErr result (AppendsPrefix old new text)
  pub calls : CountsWrites before after (OnErr result)

-- A reader lost a number of bytes at its front, not more than `most`.
abbrev pub ConsumesAtMost : ℕ → Option (List ℕ) → Option (List ℕ) → Type 0
ConsumesAtMost most old new = (bytes : List ℕ) × (length bytes ≤ most) × Consumes old new bytes

-- A reader lost n bytes at its front, and they were put behind the bytes that were there.
abbrev pub ReadsOnto : Option (List ℕ) → Option (List ℕ) → List ℕ → List ℕ → ℕ → Type 0
ReadsOnto old new before after n =
    (bytes : List ℕ) × (length bytes ≡ n) × Consumes old new bytes × (after ≡ before ++ bytes)

-- The bytes of parts, one part after the other.
abbrev pub joined : List (Bor (List ℕ)) → List ℕ
joined parts = flat_map (λ part. part.now) parts

-- Why an input was not read whole, where no more of it was read for this fault.
abbrev pub whole_fault : ReadFault → WholeFault
whole_fault more.Read = whole.Read
whole_fault more.Memory = whole.Memory
