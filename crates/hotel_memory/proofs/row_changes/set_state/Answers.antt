use Rattle.std.proofs.Common.{ap, sym, ◌∙◌}
use Rattle.hotel_model.specs.Stays.{now_is}
use Rattle.hotel_books.proofs.OfTables.RowsChanged.{stay_written, stay_absent}
use Rattle.hotel_memory.proofs.row_changes.set_state.Goals as goal

pub returns-in-Some : goal.returns-in-Some
returns-in-Some c = (c.get_mut.follows.holds (now_is c.args.state c.in-Some.stay.now)).0
    ∙ stay_written c.args.party c.args.state c.in-Some.stay.now c.args.stays.now.entries (sym c.in-Some.ensures.value)

pub returns-in_default : goal.returns-in_default
returns-in_default c = ap (λ m. m.entries) c.get_mut.follows.holds-at-none
    ∙ sym (stay_absent c.args.party c.args.state c.args.stays.now.entries (sym c.in_default.ensures.value))
