use Rattle.std.proofs.Common.{refl}
use Rattle.hotel_model.specs.Refinement.Lookups.{stay_at}
use Rattle.hotel_core.proofs.OfCode.LookUps.{finds_there}
use Rattle.hotel_core.proofs.commands.look_ups.stay_there.Goals as goal

pub returns : goal.returns
returns g c =
    finds_there g.met.B.Books.kept_rows (λ rows. stay_at rows c.args.party)
    c.stay-stay.result c.there_or.result refl c.stay-stay.ensures c.there_or.ensures
