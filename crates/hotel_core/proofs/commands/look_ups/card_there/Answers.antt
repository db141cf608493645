use Rattle.std.proofs.Common.{refl}
use Rattle.hotel_model.specs.Refinement.Lookups.{card_at}
use Rattle.hotel_core.proofs.OfCode.LookUps.{finds_there}
use Rattle.hotel_core.proofs.commands.look_ups.card_there.Goals as goal

pub returns : goal.returns
returns g c =
    finds_there g.met.B.Books.kept_rows (λ rows. card_at rows c.args.number)
    c.card-card.result c.there_or.result refl c.card-card.ensures c.there_or.ensures
