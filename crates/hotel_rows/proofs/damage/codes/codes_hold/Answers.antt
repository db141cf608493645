use Rattle.std.proofs.Common.{map, nat_cmp, ap, sym, ◌∙◌}
use Rattle.hotel_model.specs.SoundRooms.{are_in_order}
use Rattle.hotel_rows.specs.Keys.{code_key}
use Rattle.hotel_rows.proofs.OfDamage.InTurn.{first_fails, second_fails, third_tells}
use Rattle.hotel_rows.proofs.OfDamage.Placing.{codes_together, places_as_due}
use Rattle.hotel_rows.proofs.damage.codes.codes_hold.Goals as goal

pub returns-then-not-rise : goal.returns-then-not-rise
returns-then-not-rise c =
    let order = c.rise.ensures ∙ ap (are_in_order nat_cmp) (c.deref-2.ensures.value ∙ c.in_ok-keys.ensures
    ∙ ap (map code_key) c.deref.ensures.value) in
    first_fails _ _ (codes_together c.args.stored.now) (sym order ∙ c.if-not-rise.true)

pub returns-then-not-codes_fit : goal.returns-then-not-codes_fit
returns-then-not-codes_fit c =
    let order = c.rise.ensures ∙ ap (are_in_order nat_cmp) (c.deref-2.ensures.value ∙ c.in_ok-keys.ensures
    ∙ ap (map code_key) c.deref.ensures.value) in
    second_fails _ (codes_together c.args.stored.now) (sym order ∙ c.if-not-rise.false)
    (sym c.codes_fit.ensures ∙ c.if-not-codes_fit.true)

pub returns : goal.returns
returns c =
    let s = c.args.stored.now in
    let order = c.rise.ensures ∙ ap (are_in_order nat_cmp) (c.deref-2.ensures.value ∙ c.in_ok-keys.ensures
    ∙ ap (map code_key) c.deref.ensures.value) in
    c.rooms_have_places.ensures ∙ sym (places_as_due s c.args.known.now.placed.entries c.requires.placed)
    ∙ third_tells (codes_together s) (sym order ∙ c.if-not-rise.false)
    (sym c.codes_fit.ensures ∙ c.if-not-codes_fit.false)
