use Rattle.std.proofs.Common.{◌-◌, ◌≤◌, ◌<◌, Some, length, ap, sym, ◌∙◌, arith, slice_get}
use Rattle.hotel_books.proofs.Names.{at_number}
use Rattle.hotel_memory.proofs.OfTables.RowsByPlace.{at_place}
use Rattle.std.proofs.lemmas.Option.{slice_get_past, slice_get-get_or}
use Rattle.hotel_memory.proofs.card_table.CardTable.get.Goals as goal

pub returns-then-place-len : goal.returns-then-place-len
returns-then-place-len c =
    let cards = c.self.inside.cards.items in
    let place = ap (λ n. n - 1) c.value.ensures.same in
    let past : length cards ≤ c.value.result - 1 = omega (arith, c.len.ensures, c.if-place-len.true) in
    sym (slice_get_past cards (c.value.result - 1) past) ∙ ap (slice_get cards) place
    ∙ sym (at_place 1 cards c.args.number (omega (arith, c.value.ensures)))
    ∙ ap (λ es. at_number es c.args.number) c.self.view_is

pub returns : goal.returns
returns c =
    let cards = c.self.inside.cards.items in
    let place = ap (λ n. n - 1) c.value.ensures.same in
    let within : c.value.result - 1 < length cards = omega (arith, c.len.ensures, c.if-place-len.false) in
    ap Some c.index.ensures
    ∙ sym (slice_get-get_or cards (c.value.result - 1) c.index.result.now within) ∙ ap (slice_get cards) place
    ∙ sym (at_place 1 cards c.args.number (omega (arith, c.value.ensures)))
    ∙ ap (λ es. at_number es c.args.number) c.self.view_is
