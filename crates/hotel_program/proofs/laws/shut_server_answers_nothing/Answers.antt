use Rattle.hotel_program.proofs.ShutLemmas.{serves_nothing}
use Rattle.hotel_program.proofs.laws.shut_server_answers_nothing.Goals as goal

pub returns : goal.returns
returns g c = serves_nothing g.B.Kept g.B.Books g.R.Rng.stream
