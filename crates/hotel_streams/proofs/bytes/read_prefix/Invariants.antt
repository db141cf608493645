-- the bytes so far are what was consumed
use Rattle.std.proofs.Common.{◌+◌, ◌-◌, ◌≤◌, length, vec_len}
use Rattle.std.specs.Io.KnownBytes.{Consumes}
use Rattle.hotel_streams.specs.Calls.{NoneForgotten}
use Rattle.hotel_streams.specs.declared.bytes.TheConstants.{READ_BYTES}
use Rattle.hotel_streams.specs.Reads.{ReadsWhile}
use Rattle.hotel_streams.proofs.bytes.read_prefix.Given as goal

abbrev pub invariant-loop-reader : goal.invariant-loop-reader
invariant-loop-reader g l = record {
  taken : Consumes (g.R.Read.remaining l.initial.reader) (g.R.Read.remaining l.reader) l.bytes.items;
  few : vec_len l.bytes ≤ l.most + READ_BYTES;
  wanted : ReadsWhile (λ came. length came ≤ l.most) (g.R.Read.remaining l.initial.reader)
      (g.R.Read.remaining l.reader);
  counted : NoneForgotten l.initial.calls l.calls;
}

abbrev pub decreases-loop-reader : goal.decreases-loop-reader
decreases-loop-reader g l = (l.most + 1) - vec_len l.bytes
