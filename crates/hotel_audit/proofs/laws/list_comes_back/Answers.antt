use Rattle.hotel_audit.proofs.ListSeen.{list_is_seen, list_reads_back}
use Rattle.hotel_audit.proofs.laws.list_comes_back.Goals as goal

pub returns-clause-list : goal.returns-clause-list
returns-clause-list c = list_reads_back

pub returns-clause-seen : goal.returns-clause-seen
returns-clause-seen c = list_is_seen
