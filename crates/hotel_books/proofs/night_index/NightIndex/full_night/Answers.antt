use Rattle.std.proofs.Common.{◌-◌, ◌∙◌, nat_le}
use Rattle.hotel_nights.specs.FullNight.{first_day}
use Rattle.hotel_books.proofs.night_index.NightIndex.full_night.Goals as goal

pub returns : goal.returns
returns c = λ stays stands.
    c.first_full.ensures ∙ (λ i. first_day (λ d. nat_le c.args.rooms (stands c.args.kind.now d i)) c.args.arrive
    (c.args.depart - c.args.arrive))
