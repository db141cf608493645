use Rattle.std.proofs.Common.{◌+◌, ◌&&◌, drop, ap, sym, ◌∙◌}
use Rattle.std.specs.List.{list_all}
use Rattle.std.proofs.lemmas.List.{drop_more}
use Rattle.hotel_rows.specs.Stored.{rows_of}
use Rattle.hotel_rows.specs.RowTests.{has_room}
use Rattle.hotel_rows.proofs.OfDamage.KnownFits.{no_fit}
use Rattle.hotel_rows.proofs.damage.fits.fits_have_rooms.Goals as goal

pub returns-then-not-has_room : goal.returns-then-not-has_room
returns-then-not-has_room c =
    let xs = c.args.fits.now in
    let i = c.loop-i.i in
    let there = has_room (rows_of c.args.stored.now) in
    sym (c.loop-i.invariant ∙ ap (list_all there) (drop_more xs i no_fit c.loop-i-test.true)
    ∙ ap (λ b. b && list_all there (drop (i + 1) xs)) (sym c.has_room.ensures ∙ c.if-not-has_room.true))

pub loop-i-preserved : goal.loop-i-preserved
loop-i-preserved c =
    let xs = c.args.fits.now in
    let i = c.loop-i.i in
    let there = has_room (rows_of c.args.stored.now) in
    c.loop-i.invariant ∙ ap (list_all there) (drop_more xs i no_fit c.loop-i-test.true)
    ∙ ap (λ b. b && list_all there (drop (i + 1) xs)) (sym c.has_room.ensures ∙ c.if-not-has_room.false)
