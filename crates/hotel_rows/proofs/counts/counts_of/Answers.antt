use Rattle.std.proofs.Common.{◌∙◌, sym}
use Rattle.std.proofs.lemmas.Bool.{false≢true}
use Rattle.hotel_rows.specs.Counts.{are_rooms_of}
use Rattle.hotel_rows.proofs.counts.counts_of.Goals as goal

pub unreachable-requires : goal.unreachable-requires
unreachable-requires c =
    false≢true (sym (c.in-Err-Store.ensures.err c.in-Err-Store.field-0-is)
    ∙ (λ i. are_rooms_of (c.deref.ensures.value i) (c.deref-2.ensures.value i)) ∙ c.requires.rooms)

pub unreachable-requires-in-Err-Store-count_nights : goal.unreachable-requires-in-Err-Store-count_nights
unreachable-requires-in-Err-Store-count_nights c =
    false≢true (sym (c.in-Err-Store-count_nights.ensures.err c.in-Err-Store-count_nights.field-0-is) ∙ c.requires.stays)
