-- The body of a request, and the interim answer before it.
use Rattle.std.specs.Prelude.{◌≡◌, ◌<◌, ◌⊎◌, ◌++◌, ℕ, Bool, List, [], length, take, nat_lt, codes, if◌then◌else◌}
use Rattle.std.specs.Prelude.{Option}
use Rattle.std.specs.Io.KnownBytes.{Keeps}
use Rattle.hotel_streams.specs.Reads.{ReadsWhile}

-- These bytes are as good as all that follow the head: as many as are wanted are the same, or too few came.
pub record HoldsBody (all : List ℕ) (size : ℕ) (body : List ℕ) : Type 0 where
  pub same : take size body ≡ take size all
  pub short : nat_lt (length body) size ≡ nat_lt (length all) size

-- A body was read behind the bytes that are begun: nothing where all of it had come, and nothing more once it had.
abbrev pub ReadsBody : List ℕ → ℕ → Option (List ℕ) → Option (List ℕ) → Type 0
ReadsBody begun size old new = Keeps old new ⊎ ReadsWhile (λ came. length (begun ++ came) < size) old new

-- The interim answer: the client may send the body.
abbrev pub interim_text : List ℕ
interim_text = codes "HTTP/1.1 100 Continue\r\n\r\n"

-- The interim answer, where the client awaits it.
abbrev pub interim_where : Bool → List ℕ
interim_where awaited = if awaited then interim_text else []
