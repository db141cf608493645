use Rattle.std.proofs.Common.{◌-◌, length, drop, get_or, subst}
use Rattle.hotel_rows.specs.CodePlaces.{PlacesOf}
use Rattle.hotel_rows.proofs.OfDamage.Placing.{no_code, placed_first, at_back}
use Rattle.hotel_rows.proofs.damage.code_places.place_codes.Goals as goal

pub loop-k-preserved : goal.loop-k-preserved
loop-k-preserved c =
    let xs = c.args.codes.now in
    let k = c.loop-k.k in
    let plain = get_or xs (length xs - 1 - k) no_code in
    subst (PlacesOf c.place_plain.new.placed.entries) (at_back xs k no_code c.loop-k-test.true)
    (placed_first c.loop-k.placed.entries c.place_plain.new.placed.entries plain
    (drop (length xs - k) xs) c.loop-k.invariant
    c.in_ok-place_plain.ensures.places c.in_ok-place_plain.ensures.listed)
