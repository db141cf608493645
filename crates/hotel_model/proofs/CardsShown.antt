-- Each card's party has a stay, so that the card is shown with its guest.
use Rattle.std.proofs.Common.{ℕ, is_some}
use Rattle.hotel_model.proofs.Names.{Card, at_number, cards, stays}
use Rattle.hotel_model.specs.{FurtherLaws.CardsAreShown}
use Rattle.hotel_model.proofs.{OfTables.RowTests.found_passes, OfTables.Tests.some_there}
use Rattle.hotel_model.proofs.{SoundRows.SoundCardRows.card_parties}

pub cards_are_shown : CardsAreShown
cards_are_shown h ok number card e =
    some_there (at_number (stays h) card.party)
    (found_passes (λ (c : ℕ × Card). is_some (at_number (stays h) c.1.party)) (cards h) number card
    (card_parties h ok) e)
