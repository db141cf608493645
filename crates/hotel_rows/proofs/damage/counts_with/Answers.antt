use Rattle.std.proofs.Common.{rules}
use Rattle.hotel_rows.proofs.OfDamage.StaysTogether.{homes_of_stays}
use Rattle.hotel_rows.proofs.damage.counts_with.Goals as goal

pub first_of_later-requires-clause-homes : goal.first_of_later-requires-clause-homes
first_of_later-requires-clause-homes c =
    let counted = rw c.in-Some-counts.is at c.in_ok-counts.ensures in
    homes_of_stays c.args.stored.now counted.0

pub returns-in_default-first : goal.returns-in_default-first
returns-in_default-first c =
    let counted = rw c.in-Some-counts.is at c.in_ok-counts.ensures in
    (search rules, counted.1)

pub returns : goal.returns
returns c =
    let counted = rw c.in-Some-counts.is at c.in_ok-counts.ensures in
    search rules
