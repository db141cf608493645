use Rattle.std.proofs.Common.{◌+◌, ◌<◌, ◌&&◌, length, drop, ap, sym, ◌∙◌, arith}
use Rattle.std.specs.List.{list_all}
use Rattle.std.proofs.lemmas.List.{drop_more}
use Rattle.hotel_rows.specs.RowTests.{has_night}
use Rattle.hotel_rows.specs.Counts.{tells_night}
use Rattle.hotel_rows.proofs.OfDamage.FoundKeys.{passes_at}
use Rattle.hotel_rows.proofs.damage.nights.nights_fit.Goals as goal

pub has_night-requires : goal.has_night-requires
has_night-requires c =
    let xs = c.args.stored.now.stay.items in
    let here : c.loop-i.i < length xs = omega (arith, c.loop-i-test.true, c.len-i-end.ensures) in
    ap (tells_night c.args.counts.now) c.index.ensures
    ∙ passes_at (tells_night c.args.counts.now) xs c.loop-i.i c.index.result.now here c.requires.told

pub returns-then-not-has_night : goal.returns-then-not-has_night
returns-then-not-has_night c =
    let s = c.args.stored.now in
    let xs = s.stay.items in
    let i = c.loop-i.i in
    let here : i < length xs = omega (arith, c.loop-i-test.true, c.len-i-end.ensures) in
    let it = ap (has_night s) (sym c.index.ensures) ∙ sym (c.has_night.ensures s c.requires.counted)
    ∙ c.if-not-has_night.true in
    sym (c.loop-i.invariant ∙ ap (list_all (has_night s)) (drop_more xs i c.index.result.now here)
    ∙ ap (λ b. b && list_all (has_night s) (drop (i + 1) xs)) it)

pub loop-i-preserved : goal.loop-i-preserved
loop-i-preserved c =
    let s = c.args.stored.now in
    let xs = s.stay.items in
    let i = c.loop-i.i in
    let here : i < length xs = omega (arith, c.loop-i-test.true, c.len-i-end.ensures) in
    let it = ap (has_night s) (sym c.index.ensures) ∙ sym (c.has_night.ensures s c.requires.counted)
    ∙ c.if-not-has_night.false in
    c.loop-i.invariant ∙ ap (list_all (has_night s)) (drop_more xs i c.index.result.now here)
    ∙ ap (λ b. b && list_all (has_night s) (drop (i + 1) xs)) it
