use Rattle.std.proofs.Common.{ℕ, Option, sym, subst}
use Rattle.hotel_nights.specs.FullNight.{is_full, IsFirst}
use Rattle.hotel_nights.proofs.FirstDay.{first_day-is}
use Rattle.hotel_nights.proofs.full_night.first_full_night.Goals as goal

pub returns-clause-first : goal.returns-clause-first
returns-clause-first c =
    let test = is_full c.args.stays.now c.args.kind.now c.args.rooms in
    subst (λ (o : Option ℕ). IsFirst test c.args.arrive c.args.depart o) (sym c.first_of_blocks.ensures)
    (first_day-is test c.args.arrive c.args.depart)
