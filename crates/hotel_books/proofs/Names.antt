-- The names that the proofs of this crate cite most, and those of the model among them, passed on from one place.
-- Declares nothing.
pub use Rattle.hotel_books.specs.Books.Failures.{failure_in, refusal_of}
pub use Rattle.keycard_rules.specs.Calls.{Passes}
pub use Rattle.hotel_books.specs.Books.Walks.{Hands, StopsAt, failure_of}
pub use Rattle.hotel_books.specs.KindRooms.{is_there, rooms_in}
pub use Rattle.hotel_books.specs.KindRooms.{HaveRoomNumbers}
pub use Rattle.hotel_books.specs.KindRooms.{RoomsKnown}
pub use Rattle.hotel_books.specs.NightIndex.{CountsNightsOf}
pub use Rattle.hotel_books.specs.NightIndex.{HasNoEmptyBlock, HasTakenNight, block_at, block_cmp, counted, spans}
pub use Rattle.hotel_books.specs.Refinement.Finds.{AnyRows, DrawsCode, Drew, DrewNone, Finds, drawn_or, first_refusal}
pub use Rattle.hotel_books.specs.Refinement.Finds.{failure_at, has_failed, reply_of}
pub use Rattle.hotel_model.specs.declared.change.Change.{Change}
pub use Rattle.hotel_model.specs.declared.rows.CodeRow.{CodeRow}
pub use Rattle.hotel_model.specs.declared.rows.FitRow.{FitRow}
pub use Rattle.hotel_model.specs.declared.rows.RoomRow.{RoomRow}
pub use Rattle.hotel_model.specs.declared.command.Command.{Command}
pub use Rattle.hotel_model.specs.declared.reply.Refusal.{Refusal}
pub use Rattle.hotel_model.specs.declared.reply.Refusal.TheVariants.{AlreadyBegun, FitsUsedUp, Gap, KindExists, LastDay}
pub use Rattle.hotel_model.specs.declared.reply.Refusal.TheVariants.{Memory, NoFit, NoFreshCode, NoKind, NoRoom}
pub use Rattle.hotel_model.specs.declared.reply.Refusal.TheVariants.{NotBegun, OldFit, RoomExists, RoomTaken, Store}
pub use Rattle.hotel_model.specs.declared.reply.Reply.{Reply}
pub use Rattle.hotel_model.specs.declared.reply.Reply.TheVariants.{Refused}
pub use Rattle.hotel_model.proofs.Names.{accepted, Act, After, after, All-head, All-tail, and_last, answered}
pub use Rattle.hotel_model.proofs.Names.{are_none, AreWhole, arrivals_on, arrives_on, Assured, at_number}
pub use Rattle.hotel_model.proofs.Names.{awaited, bars_to_check_in, bars_to_transfer, before_in, Begun, effect, Event}
pub use Rattle.hotel_model.proofs.Names.{behind_row_on, by_draw, bytes_eq-Decides, Card, card_at, card_of, cards}
pub use Rattle.hotel_model.proofs.Names.{chain_on, chain_row_on, checks, checks_on, code_place, codes_in, codes_of}
pub use Rattle.hotel_model.proofs.Names.{column_at, comes, Conflicting, cons_option, Copy, count_up, day, Draw}
pub use Rattle.hotel_model.proofs.Names.{exact_unsigned, false≢true, first_code_at, first_is_first, fit_at, fits}
pub use Rattle.hotel_model.proofs.Names.{fits_at, freed_by, Goes, GoesIf, grown, has_kind, has_link, has_link_on, held}
pub use Rattle.hotel_model.proofs.Names.{held_on, History, house_row_on, in_house_on, in_state, insert_entry}
pub use Rattle.hotel_model.proofs.Names.{insert_key, inside, inside_at, insiders, Install, is_at, is_awaited_on}
pub use Rattle.hotel_model.proofs.Names.{is_begun, is_booked_state, is_card, is_failed, is_fit, is_fit_on, is_full}
pub use Rattle.hotel_model.proofs.Names.{is_of_fit, is_one_of, is_room, is_standing, IsCommand, IsReply, IsSound}
pub use Rattle.hotel_model.proofs.Names.{issued_codes, issued_on, IsTimed, IsTotalOrder, IsUntaken, keys_of}
pub use Rattle.hotel_model.proofs.Names.{last_fit, left_behind_on, Link, list_all, list_any}
pub use Rattle.hotel_model.proofs.Names.{lock_place_of, lookup, made, made_by, match_ordering, moment_of, moved}
pub use Rattle.hotel_model.proofs.Names.{nat_cmp_total, nat_tests, needs, Next, next_card, next_fit, NextDay}
pub use Rattle.hotel_model.proofs.Names.{Note, note_at, note_numbered, note_of, notes, notes_at, notes_before}
pub use Rattle.hotel_model.proofs.Names.{notes_before_each, notes_of, now_is, number_after, of_fit, OfOldFit, on_total}
pub use Rattle.hotel_model.proofs.Names.{opened_on, opens, ordering_then, Outcome, own_room, pair_cmp, place_on}
pub use Rattle.hotel_model.proofs.Names.{present_fit, present_fit_on, range_with_len, Reached, Refitted, refused}
pub use Rattle.hotel_model.proofs.Names.{remove_key, reported, reported_on, room_at, room_changed, room_of_state}
pub use Rattle.hotel_model.proofs.Names.{rooms_of_kind, Rows, rows_of, Runs, said, said_of, same_link}
pub use Rattle.hotel_model.proofs.Names.{same_note, secured_after_on, secured_on, slice_cmp, Standing, standing}
pub use Rattle.hotel_model.proofs.Names.{standing_among, StandsFor, start, Stay, stays_of_kind, StayState, Steps}
pub use Rattle.hotel_model.proofs.Names.{StepsIf, Stream, takes, then_total, those_elsewhere, those_in, told, told_on}
pub use Rattle.hotel_model.proofs.Names.{turn, turns, unless, untaken_on, values_of, when, with_note, without, ◌▷◌}
unfoldable pub use Rattle.hotel_model.proofs.Names.{answer_to, draw_from, first_day, nights_taken, outcome_on, past}
unfoldable pub use Rattle.hotel_model.proofs.Names.{words}
pub use Rattle.hotel_nights.specs.Block.{one_if}
pub use Rattle.keycard_rules.specs.Draw.{Draws, fault_in}
unfoldable pub use Rattle.keycard_rules.specs.Draw.{drawn}
pub use Rattle.keycard_rules.specs.Numbers.{IsNumberUpTo}
pub use Rattle.keycard_rules.proofs.Sinces.{since_refl, since_then}
pub use Rattle.keycard_rules.specs.Rise.{Counts, one_of}
pub use Rattle.keycard_rules.specs.Since.{Since}
pub use Rattle.keycard_rules.specs.declared.issued.LookFault.{LookFault}
pub use Rattle.std.proofs.lemmas.Cmp.{tied_itself}
pub use Rattle.std.proofs.lemmas.List.{length-map, take_more}
pub use Rattle.std.proofs.lemmas.List.Sums.{count_by-le-length}
pub use Rattle.std.proofs.lemmas.Map.Iter.{rest_more}
pub use Rattle.std.specs.BTreeMap.Range.{entries_between, range_contains}
pub use Rattle.std.specs.Cmp.{Equal-is, ranks}
pub use Rattle.std.specs.List.{AllByRecursion, enumerate_from}
pub use Rattle.std.specs.Map.{remove_entry, set_value}
pub use Rattle.std.specs.Ordering.{MatchOrdering}
pub use Rattle.std.specs.declared.ops.Bound.TheVariants.{Included}
