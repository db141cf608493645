use Rattle.std.proofs.Common.{rules, ℕ, List, ◌≡◌, ◌+◌, ap, sym, ◌∙◌, subst, length, ◌^◌, ◌<◌}
use Rattle.hotel_nights.specs.Block.{one_if}
use Rattle.hotel_nights.specs.FullNight.{takes}
use Rattle.hotel_model.specs.Rows.{at_number}
use Rattle.hotel_books.specs.NightIndex.{counted}
use Rattle.hotel_books.specs.NightIndex.{CountsNightsOf}
use Rattle.hotel_books.proofs.OfNights.NightsStanding.{counts_fit, stands_more}
use Rattle.hotel_memory.proofs.stay_table.StayTable.insert.Goals as goal

pub invariant_of-self : goal.invariant_of-self
invariant_of-self c =
    let t = c.self.inside in
    let few : length t.stays.entries < 2 ^ 63 = subst (λ n. n < 2 ^ 63) c.len-few.ensures.len c.len-few.ensures.small in
    λ kind d. c.in_err-add.ensures.err kind d (counts_fit t.nights t.stays.entries kind d c.self.invariant few)
    ∙ c.self.invariant kind d

pub invariant_of-self-in-Ok : goal.invariant_of-self-in-Ok
invariant_of-self-in-Ok c =
    let t = c.self.inside in
    let few : length t.stays.entries < 2 ^ 63 = subst (λ n. n < 2 ^ 63) c.len-few.ensures.len c.len-few.ensures.small in
    let absent = ap (λ es. at_number es c.args.stay.party) c.self.view_is ∙ c.requires in
    subst (λ es. CountsNightsOf c.add.new.self es) (sym c.in-Ok.ensures.entries)
    (stands_more t.nights c.add.new.self t.stays.entries c.args.stay.party c.args.stay c.self.invariant absent
    (λ kind d. c.in_ok-add.ensures.ok kind d (counts_fit t.nights t.stays.entries kind d c.self.invariant few)))

pub invariant_of-self-in-Err : goal.invariant_of-self-in-Err
invariant_of-self-in-Err c =
    let t = c.self.inside in
    let few : length t.stays.entries < 2 ^ 63 = subst (λ n. n < 2 ^ 63) c.len-few.ensures.len c.len-few.ensures.small in
    let more : (kind : List ℕ) (d : ℕ)
    → counted c.add.new.self kind d ≡ counted t.nights kind d + one_if (takes kind d c.args.stay) =
    λ kind d. c.in_ok-add.ensures.ok kind d (counts_fit t.nights t.stays.entries kind d c.self.invariant few) in
    search (rules, more)
