use Rattle.std.proofs.Common.{rules}
use Rattle.hotel_core.proofs.commands.room_cards.last_link.Goals as goal

pub returns-in_err-new_code : goal.returns-in_err-new_code
returns-in_err-new_code g c = record {
  answer = search rules;
  same = search rules;
  since = search rules;
  vouched = search rules;
  stays = search rules;
  counted = search rules;
  stop = g.B.Kept.no_more_trans _ _ _
      (g.B.Kept.no_more_trans _ _ _ c.in_ok-row.ensures.stop c.in_ok-old_code.ensures.stop)
      c.in_err-new_code.ensures.stop;
}
