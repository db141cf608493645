-- the bytes so far are those that were read, and they are few
use Rattle.std.proofs.Common.{◌≡◌, ◌+◌, ◌-◌, ◌≤◌, length, vec_len}
use Rattle.std.specs.Io.KnownBytes.{Consumes}
use Rattle.hotel_streams.specs.Calls.{NoneForgotten}
use Rattle.hotel_http.specs.Head.{WantsHead}
use Rattle.hotel_http.specs.declared.head.TheConstants.{HEAD_BYTES, HEAD_FIELDS}
use Rattle.hotel_http.proofs.head.read_head.Given as goal

abbrev pub invariant-pieces : goal.invariant-pieces
invariant-pieces g l = record {
  taken : Consumes (g.R.Read.remaining l.initial.reader) (g.R.Read.remaining l.reader) l.bytes.items;
  wants : WantsHead l.bytes.items;
  few : vec_len l.bytes ≤ HEAD_BYTES;
  room : length l.headers ≡ HEAD_FIELDS;
  calls : NoneForgotten l.initial.calls l.calls;
}

abbrev pub decreases-pieces : goal.decreases-pieces
decreases-pieces g l = (HEAD_BYTES + 1) - vec_len l.bytes
