-- A history: the rows that the desk starts with, and then the events, one after the other.
use Rattle.hotel_model.specs.Rows.{Rows}
use Rattle.hotel_model.specs.Event.{Event}

infixl 30 ◌▷◌
pub data History : Type 0 where
  -- the desk starts with these rows, and nothing happened yet
  start : Rows → History
  -- after a history, one more event
  ◌▷◌ : History → Event → History
