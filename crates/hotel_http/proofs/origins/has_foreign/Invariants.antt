-- no field so far is foreign
use Rattle.std.proofs.Common.{◌≡◌, take, false}
use Rattle.hotel_books.proofs.Names.{list_any}
use Rattle.httparse.specs.Spans.{header_bytes}
use Rattle.hotel_http.specs.Origins.{is_foreign}
use Rattle.hotel_http.proofs.origins.has_foreign.Given as goal

abbrev pub invariant-loop-header : goal.invariant-loop-header
invariant-loop-header l =
    list_any (λ header. is_foreign (header_bytes l.bytes header)) (take l.header-index l.headers) ≡ false
