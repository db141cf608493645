use Rattle.hotel_statements.proofs.same_schema.+same_term.Given as goal

abbrev pub decreases-same_term : goal.decreases-same_term
decreases-same_term l = l.depth
