use Rattle.hotel_rows.proofs.OfDamage.Undamaged as law
use Rattle.hotel_rows.proofs.damage.undamaged_is_sound.Goals as goal

pub returns : goal.returns
returns c = law.undamaged_is_sound
