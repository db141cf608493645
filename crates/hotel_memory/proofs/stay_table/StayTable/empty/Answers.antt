use Rattle.std.proofs.Common.{ap, sym, ◌∙◌}
use Rattle.hotel_books.proofs.{Names.values_of, Names.nights_taken, Names.counted, OfNights.NightsStanding.none_stand}
use Rattle.hotel_memory.proofs.stay_table.StayTable.empty.Goals as goal

pub invariant_of-result : goal.invariant_of-result
invariant_of-result c = λ k d. ap (λ es. counted es k d) c.empty.ensures ∙ none_stand k d
    ∙ sym (ap (λ es. nights_taken (values_of es) k d) c.new.ensures.empty)
