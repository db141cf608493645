-- What a change of the books makes of the rows.
use Rattle.std.specs.Prelude.{ℕ, false, List, [], ◌∷◌, Option, Some, None, ◌+◌, ◌==◌, if◌then◌else◌}
use Rattle.std.specs.Ordering.{nat_cmp}
use Rattle.std.specs.Cmp.Lexicographic.{slice_cmp}
use Rattle.std.specs.BTreeMap.{insert_entry, is_at}
use Rattle.std.specs.BTreeSet.{insert_key}
use Rattle.std.specs.Set.{remove_key}
use Rattle.hotel_nights.specs.declared.stay.StayState.TheVariants as state
use Rattle.hotel_model.specs.{declared.rows.RoomRow.RoomRow, declared.change.InsideMove.InsideMove}
use Rattle.hotel_model.specs.{declared.change.Change.Change}
use Rattle.hotel_model.specs.declared.change.InsideMove.TheVariants.{Same, Goes, Comes}
use Rattle.hotel_model.specs.declared.change.Change.TheVariants.{Begin, DayTo, Kind, Room, Reserved, Cancelled, Issue}
use Rattle.hotel_model.specs.declared.change.Change.TheVariants.{Spare, CheckedOut, Refit, Noted}
use Rattle.hotel_model.specs.{Words.pair_cmp, Rows.Rows, Rows.InsideKey, Rows.column_at, Stays.in_state}
use Rattle.hotel_model.specs.{Guests.those_elsewhere, Refits.fit_row}

-- the rooms, with f done to the row of a number
abbrev pub room_changed : ℕ → (RoomRow → RoomRow) → List (ℕ × RoomRow) → List (ℕ × RoomRow)
room_changed room f [] = []
room_changed room f (e ∷ es) = if e.0 == room then (e.0, f e.1) ∷ es else e ∷ room_changed room f es

-- the rooms, the one of the number without a party
abbrev pub without_party : ℕ → List (ℕ × RoomRow) → List (ℕ × RoomRow)
without_party room rooms = room_changed room (λ row. record row { party = None }) rooms

-- the rooms, the one that a party leaves without a party
abbrev pub freed_by : Option ℕ → List (ℕ × RoomRow) → List (ℕ × RoomRow)
freed_by (Some room) rooms = without_party room rooms
freed_by None rooms = rooms

-- the cards inside rooms, after a move at a room
abbrev pub moved : InsideMove → ℕ → List InsideKey → List InsideKey
moved Same room pairs = pairs
moved (Goes number) room pairs = remove_key (is_at (pair_cmp (room, number))) pairs
moved (Comes number) room pairs = insert_key pair_cmp pairs (room, number)

-- how many codes a room has (0 where it isn't there)
abbrev pub codes_of : Rows → ℕ → ℕ
codes_of rows room = column_at rows.rooms room (λ row. row.codes)

-- how many notes a room has, and how many of them were taken before its present fit (0 where it isn't there)
abbrev pub notes_in : Rows → ℕ → ℕ
notes_in rows room = column_at rows.rooms room (λ row. row.notes)

abbrev pub before_in : Rows → ℕ → ℕ
before_in rows room = column_at rows.rooms room (λ row. row.before)

-- the row of a new room: its lock is the first fit, and holds its one code
abbrev pub new_row : ℕ → List ℕ → RoomRow
new_row room kind = record {
  room = room;
  kind = kind;
  lock_place = 0;
  codes = 1;
  secured = false;
  party = None;
  notes = 0;
  fit = 1;
  before = 0;
}

-- the row of a room with a new lock, of this number: it holds its own first code, and no party is secured with it
abbrev pub refitted_row : ℕ → RoomRow → RoomRow
refitted_row fit row =
    record row { lock_place = row.codes; codes = row.codes + 1; secured = false; fit = fit; before = row.notes }

-- The rows with those of the change added or altered, and no others.
abbrev pub made : Change → Rows → Rows
made (Begin day) rows = record rows { day = Some day }
made (DayTo day) rows = record rows { day = Some day }
made (Kind kind) rows = record rows { kinds = insert_key (slice_cmp nat_cmp) rows.kinds kind }
made (Room room kind code) rows = record rows {
  rooms = insert_entry nat_cmp rows.rooms room (new_row room kind);
  codes = insert_entry nat_cmp rows.codes code (record { room = room; place = 0 });
  fits = insert_entry pair_cmp rows.fits (room, 1) (fit_row room 1 0 0);
}
made (Reserved stay) rows = record rows { stays = insert_entry nat_cmp rows.stays stay.party stay }
made (Cancelled party) rows = record rows { stays = in_state party state.Cancelled rows.stays }
made (Issue card room leaves) rows = record rows {
  rooms = room_changed room (λ row. record row { codes = row.codes + 1; secured = false; party = Some card.party })
      (freed_by leaves rows.rooms);
  codes = insert_entry nat_cmp rows.codes card.link.new_code (record { room = room; place = codes_of rows room });
  stays = in_state card.party (state.InHouse room) rows.stays;
  cards = insert_entry nat_cmp rows.cards card.number card;
}
made (Spare card) rows = record rows { cards = insert_entry nat_cmp rows.cards card.number card }
made (CheckedOut party room) rows = record rows {
  rooms = without_party room rows.rooms;
  stays = in_state party state.Done rows.stays;
}
made (Refit room code fit) rows = record rows {
  rooms = room_changed room (refitted_row fit) rows.rooms;
  codes = insert_entry nat_cmp rows.codes code (record { room = room; place = codes_of rows room });
  inside = those_elsewhere room rows.inside;
  fits = insert_entry pair_cmp rows.fits (room, fit) (fit_row room fit (codes_of rows room) (notes_in rows room));
}
made (Noted note lock_place secured insides) rows = record rows {
  rooms = room_changed note.room
      (λ row. record row { lock_place = lock_place; secured = secured; notes = row.before + note.count }) rows.rooms;
  inside = moved insides note.room rows.inside;
  notes = insert_entry pair_cmp rows.notes (note.room, before_in rows note.room + note.count) note;
}
