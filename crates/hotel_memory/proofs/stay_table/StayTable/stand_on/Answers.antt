use Rattle.std.proofs.Common.{ap, sym, ◌∙◌, subst, true, refl}
use Rattle.hotel_books.proofs.Names.{is_standing, said_of, at_number, CountsNightsOf}
use Rattle.hotel_books.proofs.OfNights.NightsStanding.{stands_on}
use Rattle.hotel_nights.specs.declared.stay.StayState.TheVariants as state
use Rattle.hotel_memory.proofs.stay_table.StayTable.stand_on.Goals as goal

pub invariant_of-self : goal.invariant_of-self
invariant_of-self c =
    let t = c.self.inside in
    let stood =
    ap (λ es. said_of (at_number es c.args.party) true (λ s. is_standing s.state)) c.self.view_is ∙ c.requires in
    subst (λ es. CountsNightsOf t.nights es) (sym c.set_state.ensures)
    (stands_on t.nights t.stays.entries c.args.party (state.InHouse c.args.room) c.self.invariant stood refl)
