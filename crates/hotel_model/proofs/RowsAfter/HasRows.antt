-- The change of an event has its rows.
use Rattle.std.proofs.Common.{ℕ, ◌≡◌, ◌<◌, ◌≤◌, ◌+◌, ◌-◌, ◌^◌, true, false, Option, Some, None, length, refl, ap, ◌∙◌}
use Rattle.std.proofs.Common.{arith, is_some}
use Rattle.hotel_model.proofs.Names.{Event, Begun, Kind, Install, Reserved, Cancelled, Issue, Refitted, Spare, CheckOut}
use Rattle.hotel_model.proofs.Names.{NextDay, Entered, Left, Recoded, History, ◌▷◌, issued, cards, day, stays}
use Rattle.hotel_model.proofs.Names.{at_number, Stay, is_standing, is_room, room_of, is_in_house, fits, fits_at, fit_at}
use Rattle.hotel_model.proofs.Names.{notes_before, before_in, note_numbered, rows_of, room_at, stay_at, codes_of}
use Rattle.hotel_model.proofs.Names.{change_of, HasItsRows, Reached, said_of, notes}
use Rattle.hotel_model.proofs.{Facts.Follow.MayFollow, OfTables.RoomNumbers.room_there}
use Rattle.hotel_model.proofs.{OfTables.RoomNumbers.room_not_there, RowsAfter.RowsIssue.codes_said}
use Rattle.hotel_model.proofs.{RowsAfter.RowsLeft.home_there, Invariants.HomeRooms.home_is_room}
use Rattle.hotel_model.proofs.{Invariants.HomeRooms.comes_to_room, Invariants.InHouse.has_stay}
use Rattle.hotel_model.proofs.{OfTables.NotesKept.next_not_found, Invariants.NumbersLeft.HasNumber}
use Rattle.hotel_model.proofs.{Invariants.NumbersLeft.has_number, Invariants.NumbersLeft.codes_fit}
use Rattle.hotel_model.proofs.{Invariants.NumbersLeft.cards_fit, Invariants.NotesOfFits.next_number}
use Rattle.hotel_model.proofs.{Invariants.FitsOf.fits_of, Invariants.FitsOf.few_notes, Invariants.FitsOf.next_fit_free}
use Rattle.hotel_model.proofs.{Invariants.FitsKept.no_fit_found, RowsAfter.RowsNoted.number_said}
use Rattle.hotel_model.proofs.{Invariants.Numbering.next_party_free, Invariants.CodePlaces.fresh_has_no_row}
use Rattle.hotel_model.proofs.{OfTables.Grown.may_follow}

no_day : (o : Option ℕ) → is_some o ≡ false → o ≡ None
no_day (Some d) h = cc
no_day None h = refl

-- a room that is there has a row
pub room_has_row : (h : History) (room : ℕ) → is_room h room ≡ true → is_some (room_at (rows_of h) room) ≡ true
room_has_row h room t = ap is_some (room_there h room t).2

-- A room can have one more code.
codes_left : (h : History) (room : ℕ) → Reached h → is_room h room ≡ true → codes_of (rows_of h) room < 2 ^ 32 - 1
codes_left h room ok t =
    let said : codes_of (rows_of h) room ≡ length (issued h room) = codes_said h room t in
    let few : length (issued h room) ≤ length (cards h) + length (fits_at (fits h) room) = codes_fit h ok room in
    let most = (fits_of h ok room t).most in
    let left : length (cards h) ≤ 9999999 = cards_fit h ok in
    omega arith

home_has_row : (h : History) (party : ℕ) → Reached h → is_in_house h party ≡ true
    → is_some (room_at (rows_of h) (said_of (room_of h party) 0 (λ room. room))) ≡ true
home_has_row h party ok t =
    let home = home_there h party t in
    ap (λ o. is_some (room_at (rows_of h) (said_of o 0 (λ room. room)))) home.1
    ∙ room_has_row h home.0 (home_is_room h party home.0 ok home.1)

next_is_new : (h : History) (room count : ℕ)
    → Reached h → is_room h room ≡ true → notes_before h room + count ≡ length (notes h room) + 1
    → (note_numbered (rows_of h) room (before_in (rows_of h) room + count) ≡ None)
    × (before_in (rows_of h) room + count < 2 ^ 32)
next_is_new h room count ok there n =
    let same : length (notes h room) + 1 ≡ before_in (rows_of h) room + count = number_said h room count there n in
    let few : length (notes h room) ≤ 989999901 = few_notes h ok room there in
    (next_not_found h ok room (before_in (rows_of h) room + count) same, omega arith)

-- a stay that stands, where one is there
stands : (o : Option Stay) → said_of o false (λ stay. is_standing stay.state) ≡ true
    → said_of o true (λ stay. is_standing stay.state) ≡ true
stands (Some stay) h = h
stands None h = refl

has_rows_where : (h : History) (event : Event)
    → Reached h → MayFollow h event → HasNumber h event → HasItsRows (change_of h event) (rows_of h)
has_rows_where h (Begun day) ok n l = no_day _ n
has_rows_where h (Kind kind) ok n l = n.1
has_rows_where h (Install room kind code) ok n l =
    (n.0, room_not_there h room n.1, fresh_has_no_row h code n.2, no_fit_found h ok room n.1)
has_rows_where h (Reserved party guest kind arrive depart) ok n l =
    (n.1, refl, ap (at_number (stays h)) n.1 ∙ next_party_free h ok)
has_rows_where h (Cancelled party) ok n l = has_stay h party n.0
has_rows_where h (Issue party room number code) ok n l =
    let there = comes_to_room h party room ok n.0 in (
      room_has_row h room there,
      codes_left h room ok there,
      fresh_has_no_row h code n.6,
      n.5,
      has_stay h party n.1,
      stands (stay_at (rows_of h) party) n.2,
    )
has_rows_where h (Spare party number) ok n l = n.2
has_rows_where h (CheckOut party) ok n l = (has_stay h party n.0, home_has_row h party ok n.1)
has_rows_where h (Refitted room fit code) ok n l = (
  room_has_row h room n.0,
  codes_left h room ok n.0,
  fresh_has_no_row h code n.3,
  ap (fit_at (rows_of h) room) n.2 ∙ next_fit_free h ok room n.0,
)
has_rows_where h NextDay ok n l = n.0
has_rows_where h (Entered room fit count number link at) ok n l =
    let k = next_is_new h room count ok n.1 (next_number h ok room fit count n.0 n.5) in
    (room_has_row h room n.1, k.0, k.1)
has_rows_where h (Left room fit count number link at) ok n l =
    let k = next_is_new h room count ok n.1 (next_number h ok room fit count n.0 n.5) in
    (room_has_row h room n.1, k.0, k.1)
has_rows_where h (Recoded room fit count from to at) ok n l =
    let k = next_is_new h room count ok n.1 (next_number h ok room fit count n.0 n.4) in
    (room_has_row h room n.1, k.0, k.1)

-- The change of an event of a reached history has its rows.
pub changes_have_rows : (h : History) (event : Event) → Reached (h ▷ event) → HasItsRows (change_of h event) (rows_of h)
changes_have_rows h event ok = has_rows_where h event ok.0 (may_follow h event ok) (has_number h event ok)
