use Rattle.std.proofs.Common.{ap, sym, ◌∙◌, subst}
use Rattle.hotel_books.proofs.{Names.at_number, Names.CountsNightsOf, OfTables.RowsChanged.stay_absent}
use Rattle.hotel_books.proofs.OfNights.NightsStanding.{stands_less}
use Rattle.hotel_memory.proofs.stay_table.StayTable.end.Goals as goal

pub returns-in_default : goal.returns-in_default
returns-in_default c =
    let none = ap (λ es. at_number es c.args.party) (sym c.self.view_is) ∙ sym c.in_default.ensures.value in
    sym (stay_absent c.args.party c.args.state c.args.self.now none)

pub invariant_of-self : goal.invariant_of-self
invariant_of-self c =
    let t = c.self.inside in
    subst (λ es. CountsNightsOf c.remove.new.self es) (sym c.set_state.ensures)
    (stands_less t.nights c.remove.new.self t.stays.entries c.args.party c.args.state c.in-Some.stay.now
    c.self.invariant (sym c.in-Some.ensures.value) c.requires c.remove.ensures)
