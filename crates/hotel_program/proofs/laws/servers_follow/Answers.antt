use Rattle.hotel_program.proofs.ConnectionsLemmas.{servers_follow}
use Rattle.hotel_program.proofs.laws.servers_follow.Goals as goal

pub returns : goal.returns
returns g c = servers_follow g.B.Kept g.B.Books g.R.Rng.stream
