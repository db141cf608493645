-- The commands that read no room's row, lifted.
use Rattle.std.proofs.Common.{ℕ, ◌≡◌, Option, Some, None, List, refl, ap, ◌∙◌, ◌+◌, nat_le, length, option_map, is_some}
use Rattle.hotel_model.proofs.Names.{draw_from, by_draw, next_fit, NoParty, NoRoom, RoomTaken, FitsUsedUp, RoomExists}
use Rattle.hotel_model.proofs.Names.{KindFull, NumbersUsedUp, at_number, History, issued_codes, stays, rooms, room_row}
use Rattle.hotel_model.proofs.Names.{rows_of, is_room, needs, bars, room_at, Lifts}
use Rattle.hotel_model.specs.declared.command.Command.TheVariants as command
use Rattle.hotel_model.specs.declared.reply.Reply.TheVariants as reply
use Rattle.hotel_model.specs.declared.change.Change.TheVariants as change
use Rattle.hotel_model.specs.Event as event
use Rattle.hotel_model.proofs.{Lifted.LiftTools.lifts_by, Lifted.LiftTools.alike, Lifted.LiftTools.needed}
use Rattle.hotel_model.proofs.{Lifted.LiftTools.draw_lifts, Lifted.LiftRooms.fit_said, Lifted.LiftRooms.taken_said}
use Rattle.hotel_model.proofs.{OfTables.Numbered.is_there, Invariants.KindCounts.full_night_counted}
use Rattle.hotel_model.proofs.{Lifted.LiftRooms.last_number, OfTables.RoomNumbers.room_found}

pub begin_lifts : (h : History) (day : ℕ) → Lifts h (command.Begin day)
begin_lifts h day ahead = lifts_by h ahead (command.Begin day) (refl, λ _. refl)

pub add_kind_lifts : (h : History) (kind : List ℕ) → Lifts h (command.AddKind kind)
add_kind_lifts h kind ahead = lifts_by h ahead (command.AddKind kind) (refl, λ _. (refl, λ _. refl))

pub next_day_lifts : (h : History) → Lifts h command.NextDay
next_day_lifts h ahead = lifts_by h ahead command.NextDay (refl, λ _. (refl, λ _. refl))

pub cancel_lifts : (h : History) (party : ℕ) → Lifts h (command.Cancel party)
cancel_lifts h party ahead = lifts_by h ahead (command.Cancel party)
    (refl, λ _. (ap (λ b. needs b NoParty) (is_there (stays h) party), λ _. (refl, λ _. refl)))

pub check_out_lifts : (h : History) (party : ℕ) → Lifts h (command.CheckOut party)
check_out_lifts h party ahead = lifts_by h ahead (command.CheckOut party)
    (refl, λ _. (ap (λ b. needs b NoParty) (is_there (stays h) party), λ _. (refl, λ _. refl)))

some_mapped : {X Y : Type 0} (f : X → Y) (o : Option X) → is_some (option_map f o) ≡ is_some o
some_mapped f None = refl
some_mapped f (Some x) = refl

-- a room is there where a look-up finds it
pub room_is_there : (h : History) (room : ℕ) → is_some (room_at (rows_of h) room) ≡ is_room h room
room_is_there h room = ap is_some (room_found h room)
    ∙ some_mapped (λ kind. room_row h room kind) (at_number (rooms h) room) ∙ is_there (rooms h) room

pub add_room_lifts : (h : History) (room : ℕ) (kind : List ℕ) → Lifts h (command.AddRoom room kind)
add_room_lifts h room kind ahead =
    lifts_by h ahead (command.AddRoom room kind)
    (alike refl λ _. alike refl λ _. alike (ap (λ b. bars b RoomExists) (room_is_there h room)) λ _.
    draw_lifts h (draw_from (issued_codes h) ahead) (λ code. reply.RoomAdded code)
    (λ code. event.Install room kind code))

pub refit_lifts : (h : History) (room : ℕ) → Lifts h (command.Refit room)
refit_lifts h room ahead =
    lifts_by h ahead (command.Refit room) (alike refl λ _. alike (ap (λ b. needs b NoRoom) (room_is_there h room)) λ r.
    alike (ap (λ b. bars b RoomTaken) (taken_said h room (needed (is_room h room) NoRoom r))) λ _.
    alike (ap (λ n. bars (nat_le 99 n) FitsUsedUp) (fit_said h room (needed (is_room h room) NoRoom r))) λ _.
    ap (λ n. by_draw (draw_from (issued_codes h) ahead) (λ code. reply.Refitted code (n + 1))
    (λ code. change.Refit room code (n + 1))) (fit_said h room (needed (is_room h room) NoRoom r))
    ∙ draw_lifts h (draw_from (issued_codes h) ahead) (λ code. reply.Refitted code (next_fit h room))
    (λ code. event.Refitted room (next_fit h room) code))

pub reserve_lifts : (h : History) (guest kind : List ℕ) (arrive nights : ℕ)
    → Lifts h (command.Reserve guest kind arrive nights)
reserve_lifts h guest kind arrive nights ahead =
    lifts_by h ahead (command.Reserve guest kind arrive nights) (
      refl,
      λ _. (
        refl,
        λ _. (
          refl,
          λ _. (
            refl,
            λ _. (
              ap (option_map KindFull) (full_night_counted h kind arrive nights),
              λ _. (ap (λ b. bars b NumbersUsedUp) (last_number (length (stays h))), λ _. refl),
            ),
          ),
        ),
      ),
    )
