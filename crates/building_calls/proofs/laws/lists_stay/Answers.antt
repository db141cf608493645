use Rattle.building_calls.proofs.ListsStay.{lists_stay}
use Rattle.building_calls.proofs.laws.lists_stay.Goals as goal

pub returns : goal.returns
returns g c = lists_stay g.B.Kept g.B.Books.rows g.met.B.Books.kept_rows
