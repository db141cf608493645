use Rattle.std.proofs.Common.{◌≡◌, ◌∙◌, ◌+◌, sym, ap, map, not, Bool, true, false, rules}
use Rattle.std.specs.Map.{values_of}
use Rattle.hotel_rows.specs.Stored.{stay_entry, number_of}
use Rattle.hotel_rows.proofs.OfCounts.{night_told}
use Rattle.hotel_rows.proofs.damage.nights.has_night.Goals as goal

turned : (b r : Bool) → b ≡ not r → r ≡ not b
turned b true e = sym (ap not e)
turned b false e = sym (ap not e)

pub returns : goal.returns
returns c = λ s h.
    let stored : c.number-arrive.result ≡ number_of c.args.stay.now.arrive = search rules in
    let arrive = c.in-Ok-day.ensures.ok ∙ stored in
    let next = c.in-Ok-day-2.ensures.ok ∙ ap (λ n. n + 1) (sym c.in-Ok-day.ensures.ok) in
    let rooms = ap (λ n. n + 1) c.rooms-more.ensures in
    turned _ c.is_none.result c.is_none.ensures
    ∙ night_told s c.args.counts.now c.args.stay.now c.in-Ok.kind c.in-Ok-day.first
    (c.rooms-more.result + 1) c.in-Ok-day-2.next c.full_night-full.result h
    (c.in-Ok.ensures.ok ∙ c.as_str.ensures.value) arrive rooms next
    (c.full_night-full.ensures (values_of (map stay_entry s.stay.items)) h.1.0)
