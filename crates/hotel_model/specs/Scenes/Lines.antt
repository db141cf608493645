-- A scene: lines over empty books, each with its answer, and what holds where the model plays it.
use Rattle.std.specs.Prelude.{ℕ, ◌≡◌, Bool, true, false, None, List, [], ◌∷◌, ◌++◌, ◌*◌, map, take, drop, replicate}
use Rattle.hotel_model.specs.declared.command.Command.{Command}
use Rattle.hotel_model.specs.declared.reply.Reply.{Reply}
use Rattle.hotel_model.specs.declared.reply.Reply.TheVariants as reply
use Rattle.hotel_model.specs.declared.reply.Refusal.{Refusal}
use Rattle.hotel_model.specs.declared.reply.Refusal.TheVariants.{NoFreshCode}
use Rattle.keycard_rules.specs.declared.draw.TheConstants.{MOST_WORDS}
use Rattle.keycard_rules.specs.declared.card.Card.{Card}
use Rattle.keycard_rules.specs.Note.{Note}
use Rattle.hotel_nights.specs.declared.stay.Stay.{Stay}
use Rattle.hotel_model.specs.declared.list_rows.ChainRow.{ChainRow}
use Rattle.hotel_model.specs.declared.list_rows.HouseRow.{HouseRow}
use Rattle.hotel_model.specs.declared.list_rows.BehindRow.{BehindRow}
use Rattle.hotel_model.specs.declared.list_rows.StatusRow.{StatusRow}
use Rattle.hotel_model.specs.declared.list_rows.InsideRow.{InsideRow}
use Rattle.hotel_model.specs.declared.list_rows.FreeRow.{FreeRow}
use Rattle.hotel_model.specs.declared.list_rows.CardRow.{CardRow}
use Rattle.hotel_model.specs.declared.list_rows.LockRow.{LockRow}
use Rattle.hotel_model.specs.Rows.{no_rows}
use Rattle.hotel_model.specs.Event.{Event}
use Rattle.hotel_model.specs.History.{History, start}
use Rattle.hotel_model.specs.Outcome.{Outcome, grown, refused}
use Rattle.hotel_model.specs.Answer.{answer_to}
use Rattle.hotel_model.specs.Lists.{arrivals, in_house, chain, left_behind, business_day, room_status, cards_inside}
use Rattle.hotel_model.specs.Lists.{bookings, availability, cards_given, card_rows, locks}
use Rattle.hotel_model.specs.Notes.{notes}
use Rattle.hotel_model.specs.Cases.{is_room}
use Rattle.hotel_model.specs.Scenes.Kept.{rows_made, rows_read, always_kept}

infix 70 ◌⇒◌
-- A line of a scene.
pub data Line : Type 0 where
  -- a command, and the reply to it
  ◌⇒◌ : Command → Reply → Line
  -- a list, and its rows
  Arrivals : (day : ℕ) → List Stay → Line
  InHouse : List HouseRow → Line
  Chain : (room : ℕ) → List ChainRow → Line
  LeftBehind : List BehindRow → Line
  AuditOf : (room : ℕ) → List Note → Line
  BusinessDay : List ℕ → Line
  RoomStatus : List StatusRow → Line
  Inside : List InsideRow → Line
  Bookings : List Stay → Line
  Availability : (day nights : ℕ) → List FreeRow → Line
  Cards : (party : ℕ) → List Card → Line
  OneCard : (number : ℕ) → List CardRow → Line
  Locks : List LockRow → Line
  -- the list of a room's codes, where the room isn't there
  NoChain : (room : ℕ) → Line

-- what playing lines comes to: the same lines with the model's answers, the history at their end, and the words that
-- are left
pub record Played : Type 0 where
  pub lines : List Line
  pub history : History
  pub ahead : List ℕ

abbrev pub first_line : Line → Played → Played
first_line line played = record played { lines = line ∷ played.lines }

abbrev pub go_on : Command → Outcome Event → (Outcome Event → Played) → Played
go_on command outcome later = first_line (command ⇒ outcome.reply) (later outcome)

-- a room's codes, where it is there
abbrev pub chain_line : Bool → ℕ → List ChainRow → Line
chain_line true room rows = Chain room rows
chain_line false room rows = NoChain room

-- The lines with the answers that the model gives, where these are the source's words; a draw is given as many of the
-- next as it may examine.
abbrev pub play : History → List ℕ → List Line → Played
play h ahead [] = record { lines = []; history = h; ahead = ahead }
play h ahead ((command ⇒ _) ∷ lines) = go_on command (answer_to h (take MOST_WORDS ahead) command)
    (λ outcome. play (grown h outcome.happens) (drop outcome.examined ahead) lines)
play h ahead (Arrivals day _ ∷ lines) = first_line (Arrivals day (arrivals h day)) (play h ahead lines)
play h ahead (InHouse _ ∷ lines) = first_line (InHouse (in_house h)) (play h ahead lines)
play h ahead (Chain room _ ∷ lines) = first_line (chain_line (is_room h room) room (chain h room)) (play h ahead lines)
play h ahead (LeftBehind _ ∷ lines) = first_line (LeftBehind (left_behind h)) (play h ahead lines)
play h ahead (AuditOf room _ ∷ lines) = first_line (AuditOf room (notes h room)) (play h ahead lines)
play h ahead (BusinessDay _ ∷ lines) = first_line (BusinessDay (business_day h)) (play h ahead lines)
play h ahead (RoomStatus _ ∷ lines) = first_line (RoomStatus (room_status h)) (play h ahead lines)
play h ahead (Inside _ ∷ lines) = first_line (Inside (cards_inside h)) (play h ahead lines)
play h ahead (Bookings _ ∷ lines) = first_line (Bookings (bookings h)) (play h ahead lines)
play h ahead (Availability day nights _ ∷ lines) =
    first_line (Availability day nights (availability h day nights)) (play h ahead lines)
play h ahead (Cards party _ ∷ lines) = first_line (Cards party (cards_given h party)) (play h ahead lines)
play h ahead (OneCard number _ ∷ lines) = first_line (OneCard number (card_rows h number)) (play h ahead lines)
play h ahead (Locks _ ∷ lines) = first_line (Locks (locks h)) (play h ahead lines)
play h ahead (NoChain room ∷ lines) = first_line (chain_line (is_room h room) room (chain h room)) (play h ahead lines)

-- the words that give these codes, and then the code that comes for ever
abbrev pub source : List ℕ → ℕ → List ℕ
source codes last = map (λ code. code * 65536) (codes ++ replicate MOST_WORDS last)

-- The lines are answered so; the change of each event makes the rows; and what the headline says is kept throughout.
abbrev pub AreAnswered : List Line → Played → Type 0
AreAnswered lines played =
    (played.lines ≡ lines) × (rows_made played.history ≡ rows_read played.history) × (always_kept played.history ≡ true)

-- The scene holds over empty books, where the source gives these codes and then the last one for ever.
abbrev pub Holds : List ℕ → ℕ → List Line → Type 0
Holds codes last lines = AreAnswered lines (play (start no_rows) (source codes last) lines)

-- Each line is refused so, or seen, after what was played before: nothing happens, and no word of the source is
-- examined.
abbrev pub AreRefused : Played → List Line → Type 0
AreRefused before lines = play before.history before.ahead lines ≡ record before { lines = lines }

-- The command is refused so after a history, where these are the source's words.
abbrev pub IsRefused : History → List ℕ → Command → Refusal → Type 0
IsRefused h ahead command refusal = answer_to h ahead command ≡ refused refusal

-- After what was played all other checks pass, and the draw examines all the words that it may, each of which gives an
-- issued code.
abbrev pub FindsNoCode : Played → Command → Type 0
FindsNoCode before command =
    answer_to before.history before.ahead command
    ≡ record { reply = reply.Refused NoFreshCode; happens = None; examined = MOST_WORDS }
