use Rattle.hotel_audit.proofs.SentAgain.{seen_again}
use Rattle.hotel_audit.proofs.laws.seen_again.Goals as goal

pub returns : goal.returns
returns c = seen_again
