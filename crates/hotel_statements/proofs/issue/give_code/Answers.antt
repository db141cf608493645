use Rattle.std.proofs.Common.{rules}
use Rattle.hotel_statements.proofs.InTurn.{writes_then}
use Rattle.hotel_statements.proofs.issue.give_code.Goals as goal

pub returns-in_ok-free_room-in-Some-clause-makes : goal.returns-in_ok-free_room-in-Some-clause-makes
returns-in_ok-free_room-in-Some-clause-makes g c =
    search (rules, writes_then c.in_ok-free_room-in-Some.ensures.makes c.insert_code.ensures.makes)
