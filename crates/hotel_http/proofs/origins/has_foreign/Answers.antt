use Rattle.std.proofs.Common.{sym, ◌∙◌}
use Rattle.httparse.specs.Spans.{header_bytes}
use Rattle.hotel_http.specs.Origins.{is_foreign}
use Rattle.hotel_http.proofs.FieldLemmas.{any_at, any_none}
use Rattle.hotel_http.proofs.origins.has_foreign.Goals as goal

pub returns-then-is_foreign : goal.returns-then-is_foreign
returns-then-is_foreign c =
    sym (any_at is_foreign (header_bytes c.args.bytes.now) c.args.headers.now _ _ c.loop-header-test.true
    (sym c.is_foreign.ensures ∙ c.if-is_foreign.true))

pub returns : goal.returns
returns c = sym (any_none is_foreign (header_bytes c.args.bytes.now) c.args.headers.now _
    c.loop-header-test.false c.loop-header.invariant)
