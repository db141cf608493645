-- The rows that stand for a history: nine lists read off what happened.
use Rattle.std.specs.Prelude.{ℕ, List, map, length}
use Rattle.hotel_model.specs.declared.rows.RoomRow.{RoomRow}
use Rattle.hotel_model.specs.Rows.{Rows}
use Rattle.hotel_model.specs.History.{History}
use Rattle.hotel_model.specs.Issued.{issued, all_issued}
use Rattle.hotel_model.specs.Cards.{cards}
use Rattle.hotel_model.specs.Ledger.{passed}
use Rattle.hotel_model.specs.Guests.{registered, insiders, secured}
use Rattle.hotel_model.specs.Stays.{day, kinds, rooms, stays}
use Rattle.hotel_model.specs.Notes.{notes, all_notes}
use Rattle.hotel_model.specs.Refits.{present_fit, notes_before, fits}

-- A room's row: its lock stands after the passed codes.
abbrev pub room_row : History → ℕ → List ℕ → RoomRow
room_row h r kind = record {
  room = r;
  kind = kind;
  lock_place = length (passed h r);
  codes = length (issued h r);
  secured = secured h r;
  party = registered h r;
  notes = length (notes h r);
  fit = present_fit h r;
  before = notes_before h r;
}

-- The rows that stand for a history.
abbrev pub rows_of : History → Rows
rows_of h = record {
  day = day h;
  kinds = kinds h;
  rooms = map (λ e. (e.0, room_row h e.0 e.1)) (rooms h);
  codes = all_issued h;
  stays = stays h;
  cards = cards h;
  inside = insiders h;
  notes = all_notes h;
  fits = fits h;
}
