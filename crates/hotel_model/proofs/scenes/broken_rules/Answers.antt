use Rattle.hotel_nights.specs.FullNight.{nights_taken, first_day}
use Rattle.std.proofs.Common.{refl}
use Rattle.std.specs.Str.{is_utf8, chars}
use lib.Utf8.{encode}
use Rattle.hotel_model.proofs.scenes.broken_rules.Goals as goal

pub returns-clause-of_rooms : goal.returns-clause-of_rooms
unfolding nights_taken first_day is_utf8 chars encode
returns-clause-of_rooms c = ((refl, refl), (refl, refl), (refl, refl))

pub returns-clause-of_cards : goal.returns-clause-of_cards
unfolding nights_taken first_day is_utf8 chars encode
returns-clause-of_cards c = ((refl, refl), (refl, refl))

pub returns-clause-of_fits : goal.returns-clause-of_fits
unfolding nights_taken first_day is_utf8 chars encode
returns-clause-of_fits c = ((refl, refl), (refl, refl), (refl, refl))

pub returns-clause-sound : goal.returns-clause-sound
unfolding nights_taken first_day is_utf8 chars encode
returns-clause-sound c = (refl, refl)
