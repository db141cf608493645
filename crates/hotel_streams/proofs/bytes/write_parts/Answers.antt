use Rattle.std.proofs.Common.{rules}
use Rattle.hotel_streams.proofs.BytesLemmas.{on_err, parts_prefix}
use Rattle.hotel_streams.proofs.bytes.write_parts.Goals as goal

pub returns-in_err-write_bytes : goal.returns-in_err-write_bytes
returns-in_err-write_bytes g c =
    let err = on_err c.from_residual.result (parts_prefix _ _ _ c.args.parts.now c.loop-part.part-index _
    c.loop-part-test.true c.loop-part.invariant.0 c.in_err-write_bytes.ensures.writes.err) in
    search rules
