use Rattle.std.proofs.Common.{rules, ◌-◌, ◌<◌, length, drop, get_or, subst, arith}
use Rattle.std.proofs.lemmas.List.{length-drop}
use Rattle.hotel_rows.specs.Stored.{number_of}
use Rattle.hotel_rows.specs.FitRuns.{FitRunsOf}
use Rattle.hotel_rows.proofs.OfDamage.Placing.{at_back}
use Rattle.hotel_rows.proofs.OfDamage.KnownFits.{no_fit, few_fits, runs_more}
use Rattle.hotel_rows.proofs.damage.fit_runs.runs_of.Goals as goal

pub add_fit-requires : goal.add_fit-requires
add_fit-requires c =
    let xs = c.args.fits.now in
    let k = c.loop-k.k in
    let some : length xs < 9223372036854775808 = search rules in
    let left : length (drop (length xs - k) xs) < 9223372036854775808 =
    omega (arith, some, length-drop (length xs - k) xs) in
    few_fits c.loop-k.runs.entries (drop (length xs - k) xs)
    (number_of (get_or xs (length xs - 1 - k) no_fit).room) 9223372036854775808 c.loop-k.invariant left

pub loop-k-preserved : goal.loop-k-preserved
loop-k-preserved c =
    let xs = c.args.fits.now in
    let k = c.loop-k.k in
    let plain = get_or xs (length xs - 1 - k) no_fit in
    subst (FitRunsOf c.add_fit.new.runs.entries) (at_back xs k no_fit c.loop-k-test.true)
    (runs_more c.loop-k.runs.entries c.add_fit.new.runs.entries plain
    (drop (length xs - k) xs) c.loop-k.invariant c.in_ok-add_fit.ensures)
