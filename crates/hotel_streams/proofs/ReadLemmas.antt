-- One more piece was read.
use Rattle.std.proofs.Common.{ℕ, ◌≤◌, List, sym, subst, Option}
use Rattle.std.specs.Io.KnownBytes.{Consumes}
use Rattle.std.proofs.KnownBytes.{Consumes-trans}
use Rattle.hotel_streams.specs.Bytes.{ConsumesAtMost, ReadsOnto}
use Rattle.hotel_streams.specs.declared.bytes.TheConstants.{READ_BYTES}
use Rattle.hotel_streams.specs.Reads.{ReadsWhile}

-- one more piece, which was lost
pub then_lost : (wants : List ℕ → Type 0) (a b c : Option (List ℕ)) (before : List ℕ)
    → Consumes a b before → wants before → ConsumesAtMost READ_BYTES b c → ReadsWhile wants a c
then_lost wants a b c before taken wanted (last, most, next) =
    (before, last, most, Consumes-trans a b c before last taken next, wanted)

-- one more piece, which was put behind other bytes
pub then_read : (wants : List ℕ → Type 0) (a b c : Option (List ℕ)) (before was grown : List ℕ) (n : ℕ)
    → Consumes a b before → wants before → ReadsOnto b c was grown n → n ≤ READ_BYTES → ReadsWhile wants a c
then_read wants a b c before was grown n taken wanted (last, long, next, added) most =
    then_lost wants a b c before taken wanted (last, subst (λ (k : ℕ). k ≤ READ_BYTES) (sym long) most, next)

-- what wants more by one test does by another
pub reads_while : (P Q : List ℕ → Type 0) (a b : Option (List ℕ))
    → ((l : List ℕ) → P l → Q l) → ReadsWhile P a b → ReadsWhile Q a b
reads_while P Q a b f (before, last, most, taken, wanted) = (before, last, most, taken, f before wanted)
