use Rattle.hotel_model.proofs.CardsShown.{cards_are_shown}
use Rattle.hotel_model.proofs.laws.cards_are_shown.Goals as goal

pub returns : goal.returns
returns c = cards_are_shown
