use Rattle.std.proofs.Common.{sym, ◌∙◌}
use Rattle.httparse.specs.Spans.{header_bytes}
use Rattle.hotel_http.proofs.FieldLemmas.{expects_at, expects_none}
use Rattle.hotel_http.proofs.fields.expects_continue.Goals as goal

pub returns-then-is_expectation : goal.returns-then-is_expectation
returns-then-is_expectation c =
    sym (expects_at (header_bytes c.args.bytes.now) c.args.headers.now _ _ c.loop-header-test.true
    (sym c.is_expectation.ensures ∙ c.if-is_expectation.true))

pub returns : goal.returns
returns c = sym (expects_none (header_bytes c.args.bytes.now) c.args.headers.now _
    c.loop-header-test.false c.loop-header.invariant)
