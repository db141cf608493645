use Rattle.std.proofs.Common.{◌-◌, length, drop, get_or, subst}
use Rattle.hotel_rows.specs.FitRuns.{BeginsOf}
use Rattle.hotel_rows.proofs.OfDamage.Placing.{at_back}
use Rattle.hotel_rows.proofs.OfDamage.KnownFits.{no_fit, begins_more}
use Rattle.hotel_rows.proofs.damage.fit_runs.begins_of.Goals as goal

pub loop-k-preserved : goal.loop-k-preserved
loop-k-preserved c =
    let xs = c.args.fits.now in
    let k = c.loop-k.k in
    let plain = get_or xs (length xs - 1 - k) no_fit in
    subst (BeginsOf c.add_begin.new.begins.entries) (at_back xs k no_fit c.loop-k-test.true)
    (begins_more c.loop-k.begins.entries c.add_begin.new.begins.entries plain
    (drop (length xs - k) xs) c.loop-k.invariant c.in_ok-add_begin.ensures)
