use Rattle.std.proofs.Common.{sym}
use Rattle.hotel_model.proofs.Starts.StartRows.{rows_of_start}
use Rattle.hotel_model.proofs.laws.starts_stand.Goals as goal

pub returns : goal.returns
returns c = λ rows sound. (sound, sym (rows_of_start rows sound))
