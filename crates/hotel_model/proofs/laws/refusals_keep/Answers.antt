use Rattle.hotel_model.proofs.RefusalsKept.{refusals_have_no_event, refusals_keep}
use Rattle.hotel_model.proofs.laws.refusals_keep.Goals as goal

pub returns-clause-event : goal.returns-clause-event
returns-clause-event c = refusals_have_no_event

pub returns-clause-history : goal.returns-clause-history
returns-clause-history c = refusals_keep
