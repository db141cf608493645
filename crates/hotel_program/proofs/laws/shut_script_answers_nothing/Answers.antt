use Rattle.hotel_program.proofs.ShutLemmas.{scripts_nothing}
use Rattle.hotel_program.proofs.laws.shut_script_answers_nothing.Goals as goal

pub returns : goal.returns
returns g c = scripts_nothing g.B.Kept g.B.Books g.R.Rng.stream g.W.Write.contents
