use Rattle.std.proofs.Common.{◌≡◌, ◌∙◌, true, false, length, nat_cmp, nat_le, rules, sym}
use Rattle.keycard_rules.specs.declared.numbers.TheConstants.{LAST_NUMBER}
use Rattle.hotel_model.specs.SoundRooms.{are_in_order, count_up}
use Rattle.hotel_rows.proofs.{OfCounts.Untold.amid_fails, OfDamage.NumberedRise.counts_rise}
use Rattle.hotel_rows.proofs.damage.numbers.are_numbered.Goals as goal

pub returns-then-not-count_from_one : goal.returns-then-not-count_from_one
returns-then-not-count_from_one c =
    let keys = c.args.keys.now in
    let fails : count_up 1 keys ≡ false = sym c.count_from_one.ensures ∙ c.if-not-count_from_one.true in
    sym (amid_fails (are_in_order nat_cmp keys) (count_up 1 keys) (nat_le (length keys) LAST_NUMBER) fails)

pub returns : goal.returns
returns c =
    let counted : count_up 1 c.args.keys.now ≡ true = sym c.count_from_one.ensures ∙ c.if-not-count_from_one.false in
    let rises : are_in_order nat_cmp c.args.keys.now ≡ true = counts_rise 1 c.args.keys.now counted in
    search rules
