-- The rows of the lists that the books compute are those of the history.
use Rattle.std.specs.Prelude.{ℕ, ◌≡◌, true}
use Rattle.hotel_model.specs.{History.History, RowsOf.rows_of, Cases.is_room}
use Rattle.hotel_model.specs.Lists.{arrivals, in_house, chain, left_behind, business_day, room_status, cards_inside}
use Rattle.hotel_model.specs.Lists.{bookings, availability, cards_given, card_rows, locks}
use Rattle.hotel_model.specs.Refinement.ListsOnRows.{arrivals_on, in_house_on, chain_on, left_behind_on}
use Rattle.hotel_model.specs.Refinement.ListsOnRows.{business_day_on, room_status_on, cards_inside_on, bookings_on}
use Rattle.hotel_model.specs.Refinement.ListsOnRows.{availability_on, cards_given_on, card_rows_on, locks_on}
use Rattle.hotel_model.specs.{Notes.notes, Rows.notes_at}

-- The lists read off the rows that stand for a history are those read off the history; the codes of a room, where it is
-- there.
pub record ListsLift (h : History) : Type 0 where
  pub of_arrivals : (day : ℕ) → arrivals_on (rows_of h) day ≡ arrivals h day
  pub of_house : in_house_on (rows_of h) ≡ in_house h
  pub of_chain : (room : ℕ) → is_room h room ≡ true → chain_on (rows_of h) room ≡ chain h room
  pub of_left_behind : left_behind_on (rows_of h) ≡ left_behind h
  pub of_audit : (room : ℕ) → notes_at (rows_of h).notes room ≡ notes h room
  pub of_business_day : business_day_on (rows_of h) ≡ business_day h
  pub of_room_status : room_status_on (rows_of h) ≡ room_status h
  pub of_cards_inside : cards_inside_on (rows_of h) ≡ cards_inside h
  pub of_bookings : bookings_on (rows_of h) ≡ bookings h
  pub of_availability : (d n : ℕ) → availability_on (rows_of h) d n ≡ availability h d n
  pub of_cards_given : (party : ℕ) → cards_given_on (rows_of h) party ≡ cards_given h party
  pub of_card : (number : ℕ) → card_rows_on (rows_of h) number ≡ card_rows h number
  pub of_locks : locks_on (rows_of h) ≡ locks h
