use Rattle.std.proofs.Common.{◌-◌, length, drop}
use Rattle.hotel_rows.specs.LastCards.{LastsOf}
use Rattle.hotel_rows.proofs.damage.card_links.lasts_of.Given as goal

abbrev pub invariant-loop-k : goal.invariant-loop-k
invariant-loop-k l = LastsOf l.lasts.entries (drop (length l.cards - l.k) l.cards)
