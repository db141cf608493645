use Rattle.std.proofs.Common.{map, ap, refl, sym, ◌∙◌}
use Rattle.hotel_model.specs.Words.{pair_cmp}
use Rattle.hotel_model.specs.SoundRooms.{are_in_order}
use Rattle.hotel_model.specs.SoundNotes.{insides_fit}
use Rattle.hotel_model.proofs.OfTables.RowTests.{all_mapped}
use Rattle.hotel_rows.specs.Stored.{rows_of, inside_pair}
use Rattle.hotel_rows.specs.RowTests.{inside_fits}
use Rattle.hotel_rows.proofs.OfDamage.InTurn.{one_fails, other_tells}
use Rattle.hotel_rows.proofs.damage.insides.insides_hold.Goals as goal

pub returns-then-not-rise_in_pairs : goal.returns-then-not-rise_in_pairs
returns-then-not-rise_in_pairs c =
    let order = c.rise_in_pairs.ensures ∙ ap (are_in_order pair_cmp) (c.deref-2.ensures.value ∙ c.in_ok-keys.ensures
    ∙ ap (map inside_pair) c.deref.ensures.value) in
    one_fails (insides_fit (rows_of c.args.stored.now)) refl (sym order ∙ c.if-not-rise_in_pairs.true)

pub returns : goal.returns
returns c =
    let s = c.args.stored.now in
    let order = c.rise_in_pairs.ensures ∙ ap (are_in_order pair_cmp) (c.deref-2.ensures.value ∙ c.in_ok-keys.ensures
    ∙ ap (map inside_pair) c.deref.ensures.value) in
    c.insides_fit.ensures ∙ sym (all_mapped (inside_fits (rows_of s)) inside_pair s.inside.items)
    ∙ other_tells refl (sym order ∙ c.if-not-rise_in_pairs.false)
