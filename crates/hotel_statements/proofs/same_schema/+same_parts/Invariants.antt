use Rattle.std.proofs.Common.{length}
use Rattle.hotel_statements.proofs.same_schema.+same_parts.Given as goal

abbrev pub decreases-same_parts : goal.decreases-same_parts
decreases-same_parts g l = length l.a.now
