use Rattle.hotel_model.proofs.FreeNights.{bookings_take_one, free_is_kept}
use Rattle.hotel_model.proofs.laws.free_is_kept.Goals as goal

pub returns-clause-kept : goal.returns-clause-kept
returns-clause-kept c = free_is_kept

pub returns-clause-one_less : goal.returns-clause-one_less
returns-clause-one_less c = bookings_take_one
