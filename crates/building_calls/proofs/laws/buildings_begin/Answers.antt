use Rattle.building_calls.proofs.Stays.{opens_so, opens_so_but, doors_move, doors_move_but}
use Rattle.building_calls.proofs.laws.buildings_begin.Goals as goal

pub returns-clause-opens : goal.returns-clause-opens
returns-clause-opens g c = opens_so g.B.Kept g.B.Books.rows

pub returns-clause-opens_but : goal.returns-clause-opens_but
returns-clause-opens_but g c = opens_so_but g.B.Kept g.B.Books.rows

pub returns-clause-doors : goal.returns-clause-doors
returns-clause-doors g c = doors_move g.B.Kept g.B.Books.rows

pub returns-clause-doors_but : goal.returns-clause-doors_but
returns-clause-doors_but g c = doors_move_but g.B.Kept g.B.Books.rows
