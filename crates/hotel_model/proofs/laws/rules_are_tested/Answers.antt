use Rattle.hotel_model.proofs.SoundRows.TestsSound.{sound_pass, passing_are_sound}
use Rattle.hotel_model.proofs.laws.rules_are_tested.Goals as goal

pub returns : goal.returns
returns c = λ rows. (passing_are_sound rows, sound_pass rows)
