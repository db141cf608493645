-- The names that the proofs of this crate cite most, passed on from one place. Declares nothing.
pub use Rattle.hotel_model.specs.Refinement.Change.{before_in, codes_of, freed_by, made, moved, notes_in, room_changed}
pub use Rattle.hotel_model.specs.Refinement.Change.{new_row, without_party}
pub use Rattle.hotel_model.specs.Refinement.Fits.{HasItsRows}
pub use Rattle.hotel_model.specs.Refinement.Lookups.{card_at, code_at, code_place, codes_in, first_code_at}
pub use Rattle.hotel_model.specs.Refinement.Lookups.{first_full_on, inside_at, note_at, note_numbered, number_after}
pub use Rattle.hotel_model.specs.Refinement.Lookups.{of_fit, room_at, stay_at, stays_of_kind}
pub use Rattle.hotel_model.specs.Answer.{checks, effect, reported, told}
unfoldable pub use Rattle.hotel_model.specs.Answer.{answer_to}
pub use Rattle.hotel_model.specs.Cards.{card_of, cards, link_of_party, link_to, newest_link, same_link, with_spare}
pub use Rattle.hotel_model.specs.Cases.{cards_used_up, has_link, is_begun, is_booked, is_card, is_home, is_in_house}
pub use Rattle.hotel_model.specs.Cases.{is_kind, is_of_kind, is_party, is_room, is_taken, last_card_of, next_card}
pub use Rattle.hotel_model.specs.Cases.{next_party, no_link, opens, own_room, parties_used_up, room_of, stay_is, today}
pub use Rattle.hotel_model.specs.Stays.{day, first_full, in_state, is_booked_state, kinds, nights, now_is}
pub use Rattle.hotel_model.specs.Stays.{room_of_state, rooms, rooms_of, stays}
pub use Rattle.hotel_model.specs.Event.{Begun, Cancelled, Issue, CheckOut, Entered, Event, Install, Kind, Left}
pub use Rattle.hotel_model.specs.Event.{NextDay, Recoded, Refitted, Reserved, Spare, note_of}
pub use Rattle.hotel_nights.specs.Moments.{Moment, moment_of, note_from}
pub use Rattle.hotel_model.specs.Guests.{are_none, inside, insiders, registered, secured, those_elsewhere}
pub use Rattle.hotel_model.specs.Guests.{those_in}
pub use Rattle.hotel_model.specs.Headline.{Assured, Headline, LedgerHolds, NewestOpens, NoCodeTwice, OpensOwnRoom}
pub use Rattle.hotel_model.specs.Headline.{SafeRoom, TakesTheFirst}
pub use Rattle.hotel_model.specs.History.{History, start, ◌▷◌}
pub use Rattle.hotel_model.specs.Issued.{all_issued, current, is_fresh, issued, issued_codes}
pub use Rattle.hotel_model.specs.Laws.{IsRun, NoneFailed, RunsTo}
pub use Rattle.hotel_model.specs.Ledger.{awaited, passed, turns}
pub use Rattle.hotel_model.specs.Lock.{held}
pub use Rattle.hotel_model.specs.Notes.{all_notes, and_note, notes, notes_of, same_note, with_note}
pub use Rattle.hotel_model.specs.Outcome.{Outcome, accepted, bars, by_draw, grown, needs, refused, said, unless}
pub use Rattle.hotel_model.specs.Ranges.{InRange, IsCommand, IsReply}
pub use Rattle.hotel_model.specs.Refits.{fit_row, fits, fits_used_up, is_fit, next_fit, notes_before, present_fit}
pub use Rattle.hotel_model.specs.Rows.{Rows, at_number, begins_fit, codes_at, codes_by_place, column_at, first_of}
pub use Rattle.hotel_model.specs.Rows.{fit_at, fits_at}
pub use Rattle.hotel_model.specs.Rows.{has_kind, last_fit, last_link_of, link_of_last_card, lock_place_of}
pub use Rattle.hotel_model.specs.Rows.{newest_link_at, notes_at, or_else, room_is, rooms_of_kind}
pub use Rattle.hotel_model.specs.RowsOf.{room_row, rows_of}
pub use Rattle.hotel_model.specs.Run.{Ran, Reached, Runs, StandsFor, Steps, StepsIf, answered, is_failed}
pub use Rattle.hotel_model.specs.Run.{run_on}
pub use Rattle.hotel_model.specs.Sound.{IsSound, keys_in_order, passes_rules}
pub use Rattle.hotel_model.specs.SoundCards.{are_neighbours, card_numbers, card_parties_there, code_is}
pub use Rattle.hotel_model.specs.SoundCards.{code_rooms_there, codes_in_range, codes_listed, each_card}
pub use Rattle.hotel_model.specs.SoundCards.{fits_without_links, has_newest, is_newest, last_cards_newest}
pub use Rattle.hotel_model.specs.SoundCards.{links_are_neighbours, links_of_one_party, neighbours_are_links}
pub use Rattle.hotel_model.specs.SoundCards.{newest_of_party, owns_newest, places_once, stands_at}
pub use Rattle.hotel_model.specs.SoundFits.{first_fits, first_is_first, fit_notes_few, fit_notes_rise, fit_numbers}
pub use Rattle.hotel_model.specs.SoundFits.{fit_places_rise, fit_rooms_there, last_fits_held, last_fits_noted}
pub use Rattle.hotel_model.specs.SoundFits.{none_fall, notes_before_each, rise_by_few, rows_of_last_fits}
pub use Rattle.hotel_model.specs.SoundNotes.{act_fits, card_is, comes_later, fits_inside, has_entered, has_link_at}
pub use Rattle.hotel_model.specs.SoundNotes.{insides_fit, is_of_fit, last_fit_place, note_fits, notes_counted}
pub use Rattle.hotel_model.specs.SoundNotes.{notes_fit, notes_of_fits, numbers_at}
pub use Rattle.hotel_model.specs.SoundRooms.{are_in_order, codes_few, count_up, day_before_kinds, day_in_range}
pub use Rattle.hotel_model.specs.SoundRooms.{each_room, is_day, is_home_of, kinds_read, lock_places, note_counts}
pub use Rattle.hotel_model.specs.SoundRooms.{parties_in_house, room_kinds_there, room_numbers, secured_hold_last}
pub use Rattle.hotel_model.specs.SoundStays.{guests_read, has_party, nights_fit, stay_days}
pub use Rattle.hotel_model.specs.SoundStays.{stay_kinds_there, stay_numbers, stay_rooms}
pub use Rattle.hotel_model.specs.Standing.{After, Conflicting, Copy, Next, OfOldFit, Standing, standing, standing_among}
pub use Rattle.hotel_model.specs.Words.{after, and_last, before, is_one_of, is_that, last_of, other_than, pair_cmp}
pub use Rattle.hotel_model.specs.Words.{said_of, when, without}
pub use Rattle.hotel_model.specs.Refinement.ChangeOf.{change_of, comes}
pub use Rattle.hotel_model.specs.Refinement.CardsOnRows.{HasLink, bars_to_check_in, bars_to_transfer, issued_on}
pub use Rattle.hotel_model.specs.Refinement.Lift.{Lifts, as_change}
pub use Rattle.hotel_model.specs.Lists.{arrives_on}
pub use Rattle.hotel_model.specs.Refinement.ListsOnRows.{arrivals_on, awaited_on, behind_row_on}
pub use Rattle.hotel_model.specs.Refinement.ListsOnRows.{chain_on, chain_row_on, house_row_on, housed, in_house_on}
pub use Rattle.hotel_model.specs.Refinement.ListsOnRows.{left_behind_on, state_at}
pub use Rattle.hotel_model.specs.Refinement.NotesOnRows.{IsUntaken}
pub use Rattle.hotel_model.specs.Refinement.OnRows.{checks_on, effect_on, has_link_on, held_on, home_link_on, home_on}
pub use Rattle.hotel_model.specs.Refinement.OnRows.{last_link_on}
pub use Rattle.hotel_model.specs.Refinement.OnRows.{is_awaited_on, is_fit_on, kinds_agree_on, link_on, opened_on}
pub use Rattle.hotel_model.specs.Refinement.OnRows.{place_on, present_fit_on, reported_on, said_code_at}
pub use Rattle.hotel_model.specs.Refinement.OnRows.{secured_after_on, secured_on, told_on, untaken_on}
unfoldable pub use Rattle.hotel_model.specs.Refinement.OnRows.{outcome_on}
pub use Rattle.hotel_model.specs.Refinement.GoesOnRows.{AreWhole, Goes, GoesIf, made_by}
pub use Rattle.hotel_model.specs.declared.change.Change.{Change}
pub use Rattle.hotel_model.specs.declared.rows.CodeRow.{CodeRow}
pub use Rattle.hotel_model.specs.declared.rows.FitRow.{FitRow}
pub use Rattle.hotel_model.specs.declared.rows.RoomRow.{RoomRow}
pub use Rattle.hotel_model.specs.declared.command.Command.{Command}
pub use Rattle.hotel_model.specs.declared.reply.Refusal.{Refusal}
pub use Rattle.hotel_model.specs.declared.reply.Refusal.TheVariants.{CardDiffers, Conflict, FitsUsedUp}
pub use Rattle.hotel_model.specs.declared.reply.Refusal.TheVariants.{Gap, HeldDiffers, KindFull}
pub use Rattle.hotel_model.specs.declared.reply.Refusal.TheVariants.{LockShut, NoCard, NoFit, NoFreshCode}
pub use Rattle.hotel_model.specs.declared.reply.Refusal.TheVariants.{NoKind, NoParty, NoRoom, NotAwaited, NotBegun}
pub use Rattle.hotel_model.specs.declared.reply.Refusal.TheVariants.{NotBooked, NotInHouse, NotInside, NumbersUsedUp}
pub use Rattle.hotel_model.specs.declared.reply.Refusal.TheVariants.{OldFit, RoomExists, RoomTaken, SameRoom}
pub use Rattle.hotel_model.specs.declared.reply.Refusal.TheVariants.{WrongKind}
pub use Rattle.hotel_model.specs.declared.reply.Reply.{Reply}
pub use Rattle.hotel_nights.specs.FullNight.{is_full, is_standing, takes}
unfoldable pub use Rattle.hotel_nights.specs.FullNight.{first_day, nights_taken}
pub use Rattle.hotel_nights.specs.declared.stay.Stay.{Stay}
pub use Rattle.hotel_nights.specs.declared.stay.StayState.{StayState}
pub use Rattle.keycard_rules.specs.Draw.{Draw, code_of}
unfoldable pub use Rattle.keycard_rules.specs.Draw.{draw_from, past, words}
pub use Rattle.keycard_rules.specs.Lock.{turn}
pub use Rattle.keycard_rules.specs.Note.{IsTimed, Note}
pub use Rattle.keycard_rules.specs.declared.card.Card.{Card}
pub use Rattle.keycard_rules.specs.declared.card.Link.{Link}
pub use Rattle.keycard_rules.specs.declared.note.Act.{Act}
pub use Rattle.rand_core.specs.Stream.{Stream, next_u64}
pub use Rattle.std.proofs.lemmas.Bool.{false≢true}
pub use Rattle.std.proofs.lemmas.Bool.Decides.{nat_tests}
pub use Rattle.std.proofs.lemmas.Cmp.{alike_right, nat_cmp_total, nat_list_cmp_total, on_total, then_total}
pub use Rattle.std.proofs.lemmas.List.Elements.{All-head, All-tail, Contains-append_right, filter_map-append}
pub use Rattle.std.proofs.lemmas.List.Sums.{sum_by-cons}
pub use Rattle.std.proofs.lemmas.Map.Lookups.{exact_unsigned}
pub use Rattle.std.proofs.lemmas.Slice.Eq.{bytes_eq-Decides}
pub use Rattle.std.specs.BTreeMap.{insert_entry, is_at}
pub use Rattle.std.specs.BTreeSet.{insert_key}
pub use Rattle.std.specs.Cmp.{IsTotalOrder}
pub use Rattle.std.specs.Cmp.Lexicographic.{slice_cmp}
pub use Rattle.std.specs.List.{cons_option, list_all, list_any, position_or_len, range_with_len}
pub use Rattle.std.specs.Map.{keys_of, lookup, values_of}
pub use Rattle.std.specs.Ordering.{match_ordering, ordering_reverse, ordering_then}
pub use Rattle.std.specs.Set.{remove_key}
