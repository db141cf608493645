use Rattle.hotel_audit.proofs.SentAtOnce.{stopped_and_sent}
use Rattle.hotel_audit.proofs.laws.stopped_and_sent_again.Goals as goal

pub returns : goal.returns
returns c = stopped_and_sent
