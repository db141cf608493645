use Rattle.std.proofs.Common.{ap, ◌∙◌}
use Rattle.std.specs.Prelude.{is_some}
use Rattle.hotel_rows.specs.Keys.{new_code_of}
use Rattle.hotel_rows.proofs.OfDamage.Links.{any_placed}
use Rattle.hotel_rows.proofs.damage.card_links.has_brought.Goals as goal

pub returns : goal.returns
returns c = c.contains_key.ensures ∙ ap is_some (c.requires c.args.code)
    ∙ any_placed new_code_of c.args.stored.now.card.items c.args.code
