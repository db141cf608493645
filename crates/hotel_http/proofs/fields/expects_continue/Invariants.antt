-- no field so far says so
use Rattle.std.proofs.Common.{◌≡◌, take, false}
use Rattle.hotel_books.proofs.Names.{list_any}
use Rattle.httparse.specs.Spans.{header_bytes}
use Rattle.hotel_http.specs.Fields.{is_expectation}
use Rattle.hotel_http.proofs.fields.expects_continue.Given as goal

abbrev pub invariant-loop-header : goal.invariant-loop-header
invariant-loop-header l =
    list_any (λ header. is_expectation (header_bytes l.bytes header)) (take l.header-index l.headers) ≡ false
