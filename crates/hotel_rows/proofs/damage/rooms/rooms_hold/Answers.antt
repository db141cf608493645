use Rattle.std.proofs.Common.{map, nat_cmp, ap, sym, ◌∙◌}
use Rattle.hotel_model.specs.SoundRooms.{are_in_order}
use Rattle.hotel_rows.specs.Keys.{room_key}
use Rattle.hotel_rows.proofs.OfDamage.InTurn.{one_fails, other_tells}
use Rattle.hotel_rows.proofs.OfDamage.RowsTogether.{rooms_together}
use Rattle.hotel_rows.proofs.damage.rooms.rooms_hold.Goals as goal

pub returns-then-not-rise : goal.returns-then-not-rise
returns-then-not-rise c =
    let order = c.rise.ensures ∙ ap (are_in_order nat_cmp) (c.deref-2.ensures.value ∙ c.in_ok-keys.ensures
    ∙ ap (map room_key) c.deref.ensures.value) in
    one_fails _ (rooms_together c.args.stored.now) (sym order ∙ c.if-not-rise.true)

pub returns : goal.returns
returns c =
    let order = c.rise.ensures ∙ ap (are_in_order nat_cmp) (c.deref-2.ensures.value ∙ c.in_ok-keys.ensures
    ∙ ap (map room_key) c.deref.ensures.value) in
    c.rooms_fit.ensures ∙ other_tells (rooms_together c.args.stored.now) (sym order ∙ c.if-not-rise.false)
