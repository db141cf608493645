use Rattle.std.proofs.Common.{arith, sym, length-take-le, take_all}
use Rattle.hotel_http.specs.declared.head.TheConstants.{HEAD_BYTES}
use Rattle.hotel_http.proofs.head.head_part.Goals as goal

pub slice_bounds-result-end : goal.slice_bounds-result-end
slice_bounds-result-end c = sym (length-take-le HEAD_BYTES c.args.bytes.now (omega arith))

pub returns-then-bytes-le-HEAD_BYTES : goal.returns-then-bytes-le-HEAD_BYTES
returns-then-bytes-le-HEAD_BYTES c = sym (take_all HEAD_BYTES c.args.bytes.now c.if-bytes-le-HEAD_BYTES.true)
