use Rattle.hotel_lock.proofs.LogRead.{notes_read_back}
use Rattle.hotel_lock.proofs.laws.log_reads_back.Goals as goal

pub returns : goal.returns
returns c = notes_read_back
