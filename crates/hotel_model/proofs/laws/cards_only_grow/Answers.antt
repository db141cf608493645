use Rattle.hotel_model.proofs.CardsGrow.{cards_only_grow}
use Rattle.hotel_model.proofs.laws.cards_only_grow.Goals as goal

pub returns : goal.returns
returns c = cards_only_grow
