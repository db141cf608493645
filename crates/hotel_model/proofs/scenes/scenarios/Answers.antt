use Rattle.hotel_nights.specs.FullNight.{nights_taken, first_day}
use Rattle.std.proofs.Common.{refl}
use Rattle.std.specs.Str.{is_utf8, chars}
use lib.Utf8.{encode}
use Rattle.hotel_model.specs.{Answer.answer_to, Words.greatest}
use Rattle.keycard_rules.specs.Draw.{draw_from}
use Rattle.hotel_model.proofs.scenes.scenarios.Goals as goal

pub returns-clause-first_run : goal.returns-clause-first_run
unfolding answer_to draw_from nights_taken first_day is_utf8 chars encode
returns-clause-first_run c = (refl, refl, refl)

pub returns-clause-two_entries : goal.returns-clause-two_entries
unfolding answer_to draw_from nights_taken first_day is_utf8 chars encode
returns-clause-two_entries c = (refl, refl, refl)

pub returns-clause-next_guest : goal.returns-clause-next_guest
unfolding answer_to draw_from nights_taken first_day is_utf8 chars encode
returns-clause-next_guest c = (refl, refl, refl)

pub returns-clause-left_behind_recoded : goal.returns-clause-left_behind_recoded
unfolding answer_to draw_from nights_taken first_day is_utf8 chars encode
returns-clause-left_behind_recoded c = (refl, refl, refl)

pub returns-clause-away_and_back : goal.returns-clause-away_and_back
unfolding answer_to draw_from nights_taken first_day is_utf8 chars encode
returns-clause-away_and_back c = (refl, refl, refl)

pub returns-clause-code_drawn_twice : goal.returns-clause-code_drawn_twice
unfolding answer_to draw_from nights_taken first_day is_utf8 chars encode
returns-clause-code_drawn_twice c = (refl, refl, refl)

pub returns-clause-no_fresh_code : goal.returns-clause-no_fresh_code
unfolding answer_to draw_from nights_taken first_day is_utf8 chars encode
returns-clause-no_fresh_code c = (refl, refl, refl)

pub returns-clause-no_fresh_code_twice : goal.returns-clause-no_fresh_code_twice
unfolding answer_to draw_from nights_taken first_day is_utf8 chars encode
returns-clause-no_fresh_code_twice c = (refl, refl, refl)

pub returns-clause-spare_keeps_room_open : goal.returns-clause-spare_keeps_room_open
unfolding answer_to draw_from nights_taken first_day is_utf8 chars encode
returns-clause-spare_keeps_room_open c = (refl, refl, refl)

pub returns-clause-lost_card : goal.returns-clause-lost_card
unfolding answer_to draw_from nights_taken first_day is_utf8 chars encode
returns-clause-lost_card c = (refl, refl, refl)

pub returns-clause-later_lock : goal.returns-clause-later_lock
unfolding answer_to draw_from nights_taken first_day is_utf8 chars encode
returns-clause-later_lock c = (refl, refl, refl)

pub returns-clause-replaced_lock : goal.returns-clause-replaced_lock
unfolding answer_to draw_from nights_taken first_day is_utf8 chars encode
returns-clause-replaced_lock c = (refl, refl, refl)

pub returns-clause-refit_passes_awaited : goal.returns-clause-refit_passes_awaited
unfolding answer_to draw_from nights_taken first_day is_utf8 chars encode
returns-clause-refit_passes_awaited c = (refl, refl, refl)

pub returns-clause-fits_used_up : goal.returns-clause-fits_used_up
unfolding answer_to draw_from nights_taken first_day is_utf8 chars encode
returns-clause-fits_used_up c = ((refl, refl, refl), refl)

pub returns-clause-audit_twice : goal.returns-clause-audit_twice
unfolding answer_to draw_from nights_taken first_day is_utf8 chars encode
returns-clause-audit_twice c = (refl, refl, refl)

pub returns-clause-audit_gap_conflict : goal.returns-clause-audit_gap_conflict
unfolding answer_to draw_from nights_taken first_day is_utf8 chars encode
returns-clause-audit_gap_conflict c = (refl, refl, refl)

pub returns-clause-audit_round_trip : goal.returns-clause-audit_round_trip
unfolding answer_to draw_from nights_taken first_day is_utf8 chars encode
returns-clause-audit_round_trip c = (refl, refl, refl)

pub returns-clause-audit_list_comes_back_with_fits : goal.returns-clause-audit_list_comes_back_with_fits
unfolding answer_to draw_from nights_taken first_day is_utf8 chars encode
returns-clause-audit_list_comes_back_with_fits c = (refl, refl, refl)

pub returns-clause-late_audit : goal.returns-clause-late_audit
unfolding answer_to draw_from nights_taken first_day is_utf8 chars encode
returns-clause-late_audit c = (refl, refl, refl)

pub returns-clause-recoding_refused : goal.returns-clause-recoding_refused
unfolding answer_to draw_from nights_taken first_day is_utf8 chars encode
returns-clause-recoding_refused c = (refl, refl, refl)

pub returns-clause-kind_full : goal.returns-clause-kind_full
unfolding answer_to draw_from nights_taken first_day is_utf8 chars encode
returns-clause-kind_full c = (refl, refl, refl)

pub returns-clause-end_of_calendar : goal.returns-clause-end_of_calendar
unfolding answer_to draw_from nights_taken first_day is_utf8 chars encode
returns-clause-end_of_calendar c = (refl, refl, refl)

pub returns-clause-end_of_calendar_last_day : goal.returns-clause-end_of_calendar_last_day
unfolding answer_to draw_from nights_taken first_day is_utf8 chars encode
returns-clause-end_of_calendar_last_day c = (refl, refl, refl)

pub returns-clause-desk_day : goal.returns-clause-desk_day
unfolding answer_to draw_from nights_taken first_day is_utf8 chars encode
returns-clause-desk_day c = (refl, refl, refl)

pub returns-clause-note_refusals : goal.returns-clause-note_refusals
unfolding answer_to draw_from nights_taken first_day is_utf8 chars encode
returns-clause-note_refusals c = (refl, refl, refl)

pub returns-clause-clerk_asks : goal.returns-clause-clerk_asks
unfolding answer_to draw_from nights_taken first_day greatest is_utf8 chars encode
returns-clause-clerk_asks c = (refl, refl, refl)

pub returns-clause-sound_start : goal.returns-clause-sound_start
unfolding answer_to draw_from nights_taken first_day is_utf8 chars encode
returns-clause-sound_start c = (refl, refl, refl)
