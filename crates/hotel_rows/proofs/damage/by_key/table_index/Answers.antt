use Rattle.std.proofs.Common.{sym, ◌∙◌}
use Rattle.hotel_rows.proofs.OfDamage.FoundKeys.{place_counted}
use Rattle.hotel_rows.proofs.damage.by_key.table_index.Goals as goal

pub returns-then-count_from_one : goal.returns-then-count_from_one
returns-then-count_from_one c =
    λ q. place_counted c.args.keys.now q (sym c.count_from_one.ensures ∙ c.if-count_from_one.true)
