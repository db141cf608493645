-- Two refusals at once, of a refit and of notes of several locks: the first in the order of the command's checks is the
-- reply, and the other stands beside it. Of two neighbours in that order these can't hold together: a room that isn't
-- there has no party (Refit: NoRoom, RoomTaken); a count that is taken is of a lock that the room has had (Reported:
-- NoFit, Conflict), and isn't new under an earlier one (Conflict, OldFit).
use Rattle.std.specs.Prelude.{ℕ, ◌≡◌, ◌==◌, ◌&&◌, Bool, true, not, List, [], ◌∷◌, ◌++◌, is_some, map, take}
use Rattle.std.specs.List.{list_all}
use Rattle.keycard_rules.specs.declared.draw.TheConstants.{MOST_WORDS}
use Rattle.keycard_rules.specs.declared.numbers.TheConstants.{LAST_FIT}
use Rattle.hotel_model.specs.declared.rows.RoomRow.{RoomRow}
use Rattle.hotel_model.specs.declared.reply.Refusal.TheVariants.{NoRoom, RoomTaken, Conflict, Gap, NoCard}
use Rattle.hotel_model.specs.declared.reply.Refusal.TheVariants.{LockShut, NotInside, HeldDiffers, OldFit, NoFit}
use Rattle.hotel_model.specs.declared.reply.Refusal.TheVariants.{FitsUsedUp}
use Rattle.hotel_model.specs.Rows.{no_rows}
use Rattle.hotel_model.specs.History.{History, start}
use Rattle.hotel_model.specs.Event.{Event}
use Rattle.hotel_model.specs.Outcome.{Outcome}
use Rattle.hotel_model.specs.Answer.{answer_to}
use Rattle.hotel_model.specs.RowsOf.{rows_of}
use Rattle.hotel_model.specs.Scenes.Words.{may, M, a0, a1, a2, a3, b0, DBL, bo, add_room, reserve, check_in}
use Rattle.hotel_model.specs.Scenes.Words.{check_out, refit, entered, left, recoded}
use Rattle.hotel_model.specs.Scenes.Words.{entered_by, left_by, recoded_by, room_code, party, card, lock, checked_out}
use Rattle.hotel_model.specs.Scenes.Words.{taken, seen, refused}
use Rattle.hotel_model.specs.Scenes.Lines.{Line, ◌⇒◌, Played, play, source, AreAnswered, IsRefused}
use Rattle.hotel_model.specs.Scenes.Lines.{FindsNoCode}
use Rattle.hotel_model.specs.Scenes.Openings.{opened, checked_in}

-- Room 101 was left, its lock was replaced, and it is taken again; its second lock has one note. Room 102 is free.
abbrev pub moves : List Line
moves =
    add_room 102 DBL ⇒ room_code b0
    ∷ entered 101 1 1 a0 a1 M ⇒ taken
    ∷ left 101 2 1 a0 a1 M ⇒ taken
    ∷ check_out 1 ⇒ checked_out
    ∷ refit 101 ⇒ lock 2 a2
    ∷ reserve DBL (may 1) 2 bo ⇒ party 2
    ∷ check_in 2 101 ⇒ card 2 2 a2 a3
    ∷ entered_by 101 2 1 2 a2 a3 M ⇒ taken
    ∷ []

abbrev pub all_moves : List Line
all_moves = opened ++ checked_in ++ moves

-- The source's words give an issued code from here on.
abbrev pub busy : Played
busy = play (start no_rows) (source (a0 ∷ a1 ∷ b0 ∷ a2 ∷ a3 ∷ []) a0) all_moves

abbrev pub of_notes : List Line
of_notes =
    entered_by 999 2 1 2 a2 a3 M ⇒ refused NoRoom  -- NoFit
    ∷ entered_by 101 3 1 2 a2 a3 M ⇒ refused NoFit  -- seen, of the present lock
    ∷ entered_by 101 3 9 9 a2 a3 M ⇒ refused NoFit  -- Gap
    ∷ entered 101 1 1 a0 a1 M ⇒ seen  -- LockShut
    ∷ left 101 2 1 a0 a1 M ⇒ seen  -- NotInside
    ∷ entered 101 1 9 a0 a1 M ⇒ refused Conflict  -- NoCard
    ∷ entered 101 1 2 a2 a3 M ⇒ refused Conflict  -- seen, of the present lock
    ∷ entered 101 3 9 a0 a1 M ⇒ refused OldFit  -- NoCard
    ∷ left 101 3 1 a0 a1 M ⇒ refused OldFit  -- NotInside
    ∷ recoded 101 3 b0 b0 M ⇒ refused OldFit  -- HeldDiffers
    ∷ entered 101 5 1 a0 a1 M ⇒ refused OldFit  -- Gap
    ∷ []

abbrev pub of_present_notes : List Line
of_present_notes =
    entered_by 101 2 1 2 a2 a3 M ⇒ seen
    ∷ entered_by 101 2 1 1 a0 a1 M ⇒ refused Conflict  -- seen, of the earlier lock
    ∷ entered_by 101 2 3 9 a2 a3 M ⇒ refused (Gap 2)  -- NoCard
    ∷ entered_by 101 2 2 9 a2 a3 M ⇒ refused NoCard
    ∷ entered_by 101 2 2 1 a0 a1 M ⇒ refused LockShut  -- a card of the earlier lock
    ∷ left_by 101 2 2 1 a0 a1 M ⇒ refused NotInside
    ∷ recoded_by 101 2 2 a1 a3 M ⇒ refused HeldDiffers
    ∷ []

-- nothing happens, and no word is examined
abbrev pub is_idle : Outcome Event → Bool
is_idle outcome = not (is_some outcome.happens) && (outcome.examined == 0)

abbrev pub leaves_all : Played → Line → Bool
leaves_all before (command ⇒ reply) = is_idle (answer_to before.history (take MOST_WORDS before.ahead) command)
leaves_all before _ = true

-- Each line is refused so, or seen, after what was played before: nothing happens, and no word is examined.
abbrev pub LeaveAll : Played → List Line → Type 0
LeaveAll before lines =
    ((play before.history before.ahead lines).lines ≡ lines) × (list_all (leaves_all before) lines ≡ true)

-- The same hotel, each of its rooms with its last lock.
abbrev pub at_the_last_fit : History
at_the_last_fit =
    let rooms = map (λ (e : ℕ × RoomRow). (e.0, record e.1 { fit = LAST_FIT })) (rows_of busy.history).rooms in
    start (record (rows_of busy.history) { rooms = rooms })

abbrev pub TheScene : Type 0
TheScene =
    AreAnswered all_moves busy
    × LeaveAll busy of_notes × LeaveAll busy of_present_notes
    × IsRefused busy.history busy.ahead (refit 999) NoRoom
    × IsRefused busy.history busy.ahead (refit 101) RoomTaken  -- NoFreshCode
    × IsRefused at_the_last_fit busy.ahead (refit 101) RoomTaken  -- FitsUsedUp
    × IsRefused at_the_last_fit busy.ahead (refit 102) FitsUsedUp  -- NoFreshCode
    × FindsNoCode busy (refit 102)
