use Rattle.std.proofs.Common.{◌≡◌, ◌∙◌, ◌≤◌, ◌+◌, length, length-append, arith, ap, sym, subst}
use Rattle.std.specs.Io.KnownBytes.{Consumes}
use Rattle.std.proofs.KnownBytes.{Consumes-trans}
use Rattle.hotel_streams.proofs.CallsLemmas.{then_none_forgotten}
use Rattle.hotel_streams.proofs.ReadLemmas.{then_read}
use Rattle.hotel_streams.proofs.bytes.read_prefix.Goals as goal

pub loop-reader-preserved : goal.loop-reader-preserved
loop-reader-preserved g c =
    let i = c.loop-reader.invariant in
    let old = g.R.Read.remaining c.args.reader.now in
    let new = g.R.Read.remaining c.read_more.new.reader in
    let before = c.loop-reader.bytes.items in
    let (bs, long, next, grown) = c.in_ok-got.ensures.ok in
    let short : length before ≤ c.args.most = omega arith in
    let longer : length c.read_more.new.bytes.items ≡ length before + length bs =
    ap length grown ∙ length-append before bs in
    record {
      taken = subst (Consumes old new) (sym grown) (Consumes-trans old _ new before bs i.taken next);
      few = omega (arith, longer, long, c.in_ok-got.ensures.most, short);
      wanted = then_read (λ came. length came ≤ c.args.most) old _ new before _ _ _ i.taken short
          c.in_ok-got.ensures.ok c.in_ok-got.ensures.most;
      counted = then_none_forgotten _ _ _ i.counted c.read_more.ensures.calls.none_forgotten;
    }
