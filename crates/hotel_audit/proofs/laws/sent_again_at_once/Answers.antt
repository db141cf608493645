use Rattle.hotel_audit.proofs.SentAtOnce.{sent_at_once}
use Rattle.hotel_audit.proofs.laws.sent_again_at_once.Goals as goal

pub returns : goal.returns
returns c = sent_at_once
