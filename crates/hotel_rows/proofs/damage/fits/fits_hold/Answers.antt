use Rattle.std.proofs.Common.{map, ap, sym, ◌∙◌}
use Rattle.std.specs.List.{list_all}
use Rattle.hotel_model.specs.Words.{pair_cmp}
use Rattle.hotel_model.specs.SoundRooms.{are_in_order}
use Rattle.hotel_rows.specs.Stored.{rows_of}
use Rattle.hotel_rows.specs.Keys.{fit_key}
use Rattle.hotel_rows.specs.RowTests.{has_room}
use Rattle.hotel_rows.proofs.OfDamage.InTurn.{first_fails, second_fails, third_tells}
use Rattle.hotel_rows.proofs.OfDamage.FitsTogether.{fits_together}
use Rattle.hotel_rows.proofs.damage.fits.fits_hold.Goals as goal

pub returns-then-not-rise_in_pairs : goal.returns-then-not-rise_in_pairs
returns-then-not-rise_in_pairs c =
    let together = fits_together c.args.stored.now c.args.known.now.fits.runs.entries c.requires.runs in
    let order = c.rise_in_pairs.ensures ∙ ap (are_in_order pair_cmp)
    (c.deref.ensures.value ∙ c.in_ok-keys.ensures ∙ ap (map fit_key) c.requires.plain) in
    first_fails _ _ together (sym order ∙ c.if-not-rise_in_pairs.true)

pub returns-then-not-fits_have_rooms : goal.returns-then-not-fits_have_rooms
returns-then-not-fits_have_rooms c =
    let together = fits_together c.args.stored.now c.args.known.now.fits.runs.entries c.requires.runs in
    let order = c.rise_in_pairs.ensures ∙ ap (are_in_order pair_cmp)
    (c.deref.ensures.value ∙ c.in_ok-keys.ensures ∙ ap (map fit_key) c.requires.plain) in
    second_fails _ together (sym order ∙ c.if-not-rise_in_pairs.false)
    (ap (list_all (has_room (rows_of c.args.stored.now))) (sym c.requires.plain) ∙ sym c.fits_have_rooms.ensures
    ∙ c.if-not-fits_have_rooms.true)

pub returns : goal.returns
returns c =
    let together = fits_together c.args.stored.now c.args.known.now.fits.runs.entries c.requires.runs in
    let order = c.rise_in_pairs.ensures ∙ ap (are_in_order pair_cmp)
    (c.deref.ensures.value ∙ c.in_ok-keys.ensures ∙ ap (map fit_key) c.requires.plain) in
    c.rooms_are_fitted.ensures ∙ third_tells together (sym order ∙ c.if-not-rise_in_pairs.false)
    (ap (list_all (has_room (rows_of c.args.stored.now))) (sym c.requires.plain) ∙ sym c.fits_have_rooms.ensures
    ∙ c.if-not-fits_have_rooms.false)
