use Rattle.hotel_model.proofs.SoundRows.AllSound.{rows_follow}
use Rattle.hotel_model.proofs.laws.changes_fit.Goals as goal

pub returns : goal.returns
returns c = rows_follow
