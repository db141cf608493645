-- what was found is right for the fields so far
use Rattle.std.proofs.Common.{map, take}
use Rattle.httparse.specs.Spans.{header_bytes}
use Rattle.hotel_http.specs.Fields.{IsFoundIn, values_named}
use Rattle.hotel_http.proofs.fields.find_named.Given as goal

abbrev pub invariant-loop-header : goal.invariant-loop-header
invariant-loop-header l =
    IsFoundIn (values_named l.name (map (header_bytes l.bytes) (take l.header-index l.headers))) l.found
