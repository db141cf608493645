use Rattle.std.proofs.Common.{rules}
use Rattle.hotel_tables.proofs.apply.write_change.Goals as goal

pub returns-in-Noted-clause-makes : goal.returns-in-Noted-clause-makes
returns-in-Noted-clause-makes g c = search (rules, c.take_note.ensures.makes)
