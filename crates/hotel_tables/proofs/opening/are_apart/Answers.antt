use Rattle.std.proofs.Common.{◌∙◌, sym, ap, subst, map, List, ℤ}
use Rattle.std.specs.List.Sorted.{IsPermutation}
use Rattle.std.specs.Ordering.{int_cmp}
use Rattle.hotel_model.specs.SoundRooms.{are_in_order}
use Rattle.hotel_tables.specs.Opening.{id_inside}
use Rattle.hotel_tables.proofs.Opened.{apart_ids, apart_in_order}
use Rattle.hotel_tables.proofs.opening.are_apart.Goals as goal

pub returns : goal.returns
returns c =
    let ids = map id_inside c.args.inside.now in
    let sorted = c.sort.new.self.items in
    let rises = c.numbers_rise.ensures ∙ ap (are_in_order int_cmp) c.deref.ensures.value in
    let same : IsPermutation ids sorted =
    subst (λ (ids : List ℤ). IsPermutation ids sorted) c.in_ok-ids.ensures c.in-Ok.ensures.permutation in (
      (λ apart. apart_ids ids sorted same (sym rises ∙ apart)),
      (λ apart. rises ∙ apart_in_order ids sorted same c.in-Ok.ensures.sorted apart),
    )
