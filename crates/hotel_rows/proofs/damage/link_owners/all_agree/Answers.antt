use Rattle.std.proofs.Common.{◌∙◌}
use Rattle.hotel_rows.proofs.OfDamage.Owned.{own_and_agree}
use Rattle.hotel_rows.proofs.damage.link_owners.all_agree.Goals as goal

pub returns : goal.returns
returns c = c.all_own.ensures ∙ own_and_agree c.args.stored.now
