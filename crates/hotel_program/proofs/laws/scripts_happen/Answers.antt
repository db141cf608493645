use Rattle.hotel_program.proofs.OfScript.ScriptLemmas.{scripts_happen}
use Rattle.hotel_program.proofs.laws.scripts_happen.Goals as goal

pub returns : goal.returns
returns g c = scripts_happen g.B.Kept g.B.Books g.R.Rng.stream g.W.Write.contents
