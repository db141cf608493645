use Rattle.std.proofs.Common.{◌≡◌, drop}
use Rattle.std.specs.List.{list_all}
use Rattle.hotel_rows.specs.Stored.{rows_of, card_row}
use Rattle.hotel_rows.specs.RowTests.{card_fits}
use Rattle.hotel_rows.proofs.damage.cards.cards_fit.Given as goal

abbrev pub invariant-loop-i : goal.invariant-loop-i
invariant-loop-i l =
    list_all (λ card. card_fits (rows_of l.stored) (card_row card)) l.stored.card.items
    ≡ list_all (λ card. card_fits (rows_of l.stored) (card_row card)) (drop l.i l.stored.card.items)
