-- The rows of an empty desk are sound.
use Rattle.std.proofs.Common.{refl, arith}
use Rattle.hotel_nights.specs.FullNight.{nights_taken}
use Rattle.hotel_model.specs.Rows.{no_rows}
use Rattle.hotel_model.specs.Sound.{IsSound}

pub none_sound : IsSound no_rows
unfolding nights_taken
none_sound = record {
  keys = refl;
  meta_day = refl;
  meta_kinds = refl;
  kind_reads = refl;
  room_number = refl;
  room_lock_place = refl;
  room_kind = refl;
  room_codes = refl;
  room_notes = refl;
  room_party = refl;
  room_secured = refl;
  stay_number = refl;
  stay_guest = refl;
  stay_kind = refl;
  stay_day = refl;
  stay_room = refl;
  stay_nights = λ kind d. omega arith;
  code_range = refl;
  code_room = refl;
  code_places = refl;
  card_number = refl;
  card_party = refl;
  card_link = refl;
  card_one_party = refl;
  card_neighbours = refl;
  card_fits = refl;
  card_newest = refl;
  card_last = refl;
  inside_fits = refl;
  note_counted = refl;
  note_fits = refl;
  note_of_fit = refl;
  fit_room = refl;
  fit_number = refl;
  fit_first = refl;
  fit_places = refl;
  fit_notes = refl;
  fit_held = refl;
  fit_noted = refl;
  fit_few = refl;
  fit_of_room = refl;
}
