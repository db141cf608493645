-- The rows of each history that can be reached are sound; the headline.
use Rattle.std.proofs.Common.{◌≡◌, subst}
use Rattle.hotel_model.proofs.Names.{Event, History, ◌▷◌, rows_of, made, change_of, IsSound, Headline, Reached}
use Rattle.hotel_model.specs.Refinement.Fits.{Fits}
use Rattle.hotel_model.proofs.{Invariants.CodePlaces.no_code_twice, Invariants.LedgerOrder.ledger_holds}
use Rattle.hotel_model.proofs.{Invariants.LedgerOrder.takes_the_first}
use Rattle.hotel_model.proofs.{Invariants.OpenLocks.opens_own_room, Invariants.OpenLocks.newest_opens}
use Rattle.hotel_model.proofs.{Invariants.SecuredRooms.safe_room, RowsAfter.RowsFollow.made_follow}
use Rattle.hotel_model.proofs.{RowsAfter.HasRows.changes_have_rows, SoundRows.SoundKeys.rows_in_order}
use Rattle.hotel_model.proofs.{SoundRows.SoundDay.day_fits, SoundRows.SoundDay.day_before}
use Rattle.hotel_model.proofs.{SoundRows.SoundKinds.kinds_are_read, SoundRows.SoundKinds.room_kinds}
use Rattle.hotel_model.proofs.{SoundRows.SoundKinds.stay_kinds, SoundRows.SoundHomes.parties_at_home}
use Rattle.hotel_model.proofs.SoundRows.SoundRoomRows.{rooms_numbered, locks_placed, few_codes, notes_numbered}
use Rattle.hotel_model.proofs.SoundRows.SoundRoomRows.{secured_locks}
use Rattle.hotel_model.proofs.SoundRows.SoundStays.{stays_numbered, guests_are_read, days_fit, rooms_of_stays}
use Rattle.hotel_model.proofs.{Invariants.RoomsLeft.rows_not_oversold, SoundRows.SoundCodes.codes_fit}
use Rattle.hotel_model.proofs.{SoundRows.SoundCodes.code_rooms, SoundRows.SoundCodes.codes_once}
use Rattle.hotel_model.proofs.SoundRows.SoundCardRows.{cards_numbered, card_parties, card_links, card_owners}
use Rattle.hotel_model.proofs.SoundRows.SoundCardRows.{codes_are_brought, fits_unlinked, newest_owned, last_are_newest}
use Rattle.hotel_model.proofs.{SoundRows.SoundInside.all_inside_fit, SoundRows.SoundNotes.notes_are_counted}
use Rattle.hotel_model.proofs.{SoundRows.SoundNotes.notes_all_fit, SoundRows.SoundNotes.notes_all_of_fits}
use Rattle.hotel_model.proofs.SoundRows.SoundFitRows.{fit_rooms, fits_numbered, firsts_first, places_rise, notes_rise}
use Rattle.hotel_model.proofs.SoundRows.SoundFitRows.{lasts_held, lasts_noted, fits_few, rows_of_lasts}

-- The rows of a history that can be reached are sound.
pub rows_sound : (h : History) → Reached h → IsSound (rows_of h)
rows_sound h ok = record {
  keys = rows_in_order h ok;
  meta_day = day_fits h ok;
  meta_kinds = day_before h ok;
  kind_reads = kinds_are_read h ok;
  room_number = rooms_numbered h ok;
  room_lock_place = locks_placed h ok;
  room_kind = room_kinds h ok;
  room_codes = few_codes h ok;
  room_notes = notes_numbered h ok;
  room_party = parties_at_home h ok;
  room_secured = secured_locks h ok;
  stay_number = stays_numbered h ok;
  stay_guest = guests_are_read h ok;
  stay_kind = stay_kinds h ok;
  stay_day = days_fit h ok;
  stay_room = rooms_of_stays h ok;
  stay_nights = rows_not_oversold h ok;
  code_range = codes_fit h ok;
  code_room = code_rooms h ok;
  code_places = codes_once h ok;
  card_number = cards_numbered h ok;
  card_party = card_parties h ok;
  card_link = card_links h ok;
  card_one_party = card_owners h ok;
  card_neighbours = codes_are_brought h ok;
  card_fits = fits_unlinked h ok;
  card_newest = newest_owned h ok;
  card_last = last_are_newest h ok;
  inside_fits = all_inside_fit h ok;
  note_counted = notes_are_counted h ok;
  note_fits = notes_all_fit h ok;
  note_of_fit = notes_all_of_fits h ok;
  fit_room = fit_rooms h ok;
  fit_number = fits_numbered h ok;
  fit_first = firsts_first h ok;
  fit_places = places_rise h ok;
  fit_notes = notes_rise h ok;
  fit_held = lasts_held h ok;
  fit_noted = lasts_noted h ok;
  fit_few = fits_few h ok;
  fit_of_room = rows_of_lasts h ok;
}

-- The change of an event makes the rows of the grown history, and fits.
pub rows_follow : (h : History) (event : Event) → Reached (h ▷ event)
    → (rows_of (h ▷ event) ≡ made (change_of h event) (rows_of h)) × Fits (change_of h event) (rows_of h)
rows_follow h event ok =
    let same = made_follow h event ok in
    (same, (changes_have_rows h event ok, subst IsSound same (rows_sound (h ▷ event) ok)))

-- The seven parts of the headline hold.
pub headline : (h : History) → Reached h → Headline h
headline h ok = record {
  no_code_twice = no_code_twice h ok;
  ledger = ledger_holds h ok;
  takes_the_first = takes_the_first h ok;
  opens_own_room = opens_own_room h ok;
  newest_opens = newest_opens h ok;
  safe_room = safe_room h ok;
  rows_sound = rows_sound h ok;
}
