-- Two refusals at once. Two reasons to be refused hold of each line: the first in the order of the command's checks is
-- the reply, and the other stands beside it. Of two neighbours in that order these can't hold together: a kind is there
-- only once a day is set (AddKind); today isn't before a stay and after it (CheckIn: TooEarly, StayOver); a party is in
-- a room of its kind alone (Transfer: WrongKind, SameRoom); without a day today isn't the last one (NextDay); a count
-- isn't both taken and after the next one (Conflict, Gap).
use Rattle.std.specs.Prelude.{ℕ, ◌≡◌, List, [], ◌∷◌, Some, None, length}
use Rattle.keycard_rules.specs.declared.card.Card.{Card}
use Rattle.keycard_rules.specs.declared.note.TheConstants.{LAST_DAY}
use Rattle.keycard_rules.specs.declared.numbers.TheConstants.{LAST_NUMBER}
use Rattle.hotel_nights.specs.declared.stay.Stay.{Stay}
use Rattle.hotel_model.specs.declared.reply.Refusal.TheVariants.{NotBegun, AlreadyBegun, KindExists, NoKind, RoomExists}
use Rattle.hotel_model.specs.declared.reply.Refusal.TheVariants.{NoRoom, NoParty, NotBooked, NotInHouse, TooEarly}
use Rattle.hotel_model.specs.declared.reply.Refusal.TheVariants.{StayOver, WrongKind, SameRoom, RoomTaken, PastArrival}
use Rattle.hotel_model.specs.declared.reply.Refusal.TheVariants.{PastEnd, KindFull, NumbersUsedUp, LastDay}
use Rattle.hotel_model.specs.declared.reply.Refusal.TheVariants.{Conflict, Gap, NoCard, CardDiffers, LockShut}
use Rattle.hotel_model.specs.declared.reply.Refusal.TheVariants.{NotInside, HeldDiffers, NotAwaited, NoFit}
use Rattle.hotel_model.specs.Rows.{no_rows}
use Rattle.hotel_model.specs.History.{History, start}
use Rattle.hotel_model.specs.Stays.{first_full}
use Rattle.hotel_model.specs.RowsOf.{rows_of}
use Rattle.hotel_model.specs.Scenes.Words.{may, M, a0, a1, b0, b1, c0, c1, d0, d1, DBL, SGL, TWN, TPL, guest, begin}
use Rattle.hotel_model.specs.Scenes.Words.{add_kind, add_room, reserve, cancel, check_in, spare, reissue, transfer}
use Rattle.hotel_model.specs.Scenes.Words.{check_out, refit, next_day, entered_by, left_by, recoded_by, entered, left}
use Rattle.hotel_model.specs.Scenes.Words.{recoded, begun, kind_added, room_code, party, cancelled, card, day, taken}
use Rattle.hotel_model.specs.Scenes.Words.{seen, refused}
use Rattle.hotel_model.specs.Scenes.Lines.{Line, ◌⇒◌, Played, play, source, AreAnswered, AreRefused}
use Rattle.hotel_model.specs.Scenes.Lines.{IsRefused, FindsNoCode}

-- Nothing happened yet.
abbrev pub nothing : Played
nothing = record { lines = []; history = start no_rows; ahead = source [] a0 }

abbrev pub before_the_first_day : List Line
before_the_first_day =
    add_kind DBL ⇒ refused NotBegun
    ∷ add_room 101 DBL ⇒ refused NotBegun  -- NoKind
    ∷ reserve DBL (may 1) 2 guest ⇒ refused NotBegun  -- NoKind
    ∷ cancel 1 ⇒ refused NotBegun  -- NoParty
    ∷ check_in 1 101 ⇒ refused NotBegun  -- NoRoom
    ∷ spare 1 ⇒ refused NotBegun  -- NoParty
    ∷ reissue 1 ⇒ refused NotBegun  -- NoParty
    ∷ transfer 1 101 ⇒ refused NotBegun  -- NoRoom
    ∷ check_out 1 ⇒ refused NotBegun  -- NoParty
    ∷ refit 101 ⇒ refused NotBegun  -- NoRoom
    ∷ next_day ⇒ refused NotBegun
    ∷ entered 101 1 1 a0 a1 M ⇒ refused NotBegun  -- NoRoom
    ∷ entered_by 101 2 1 1 a0 a1 M ⇒ refused NotBegun  -- NoFit
    ∷ []

-- The kind TWN has no rooms, and TPL is not there. A day on which parties 1, 7 and 5 are in rooms 101, 103 and 201,
-- party 2 never came and its stay is over, party 3 is cancelled, party 4 arrives tomorrow, and party 6 today.
abbrev pub moves : List Line
moves =
    begin (may 1) ⇒ begun
    ∷ add_kind DBL ⇒ kind_added
    ∷ add_kind SGL ⇒ kind_added
    ∷ add_kind TWN ⇒ kind_added
    ∷ add_room 101 DBL ⇒ room_code a0
    ∷ add_room 102 DBL ⇒ room_code b0
    ∷ add_room 103 DBL ⇒ room_code d0
    ∷ add_room 201 SGL ⇒ room_code c0
    ∷ reserve DBL (may 1) 4 guest ⇒ party 1
    ∷ reserve DBL (may 1) 1 guest ⇒ party 2
    ∷ reserve DBL (may 3) 1 guest ⇒ party 3
    ∷ cancel 3 ⇒ cancelled
    ∷ reserve DBL (may 3) 1 guest ⇒ party 4
    ∷ reserve SGL (may 1) 4 guest ⇒ party 5
    ∷ reserve DBL (may 2) 1 guest ⇒ party 6
    ∷ reserve DBL (may 1) 2 guest ⇒ party 7
    ∷ check_in 1 101 ⇒ card 1 1 a0 a1
    ∷ check_in 7 103 ⇒ card 2 7 d0 d1
    ∷ check_in 5 201 ⇒ card 3 5 c0 c1
    ∷ next_day ⇒ day (may 2)
    ∷ entered 101 1 1 a0 a1 M ⇒ taken
    ∷ left 101 2 1 a0 a1 M ⇒ taken
    ∷ recoded 103 1 d0 d1 M ⇒ taken
    ∷ []

-- The source's words give an issued code from here on.
abbrev pub busy : Played
busy = play (start no_rows) (source (a0 ∷ b0 ∷ d0 ∷ c0 ∷ a1 ∷ d1 ∷ c1 ∷ []) a0) moves

abbrev pub of_kinds_and_stays : List Line
of_kinds_and_stays =
    begin (may 2) ⇒ refused AlreadyBegun
    ∷ add_kind DBL ⇒ refused KindExists
    ∷ add_room 101 TPL ⇒ refused NoKind  -- RoomExists
    ∷ add_room 101 DBL ⇒ refused RoomExists  -- NoFreshCode
    ∷ reserve TPL (may 1) 1 guest ⇒ refused NoKind  -- PastArrival
    ∷ reserve SGL (may 2) 1 guest ⇒ refused (KindFull (may 2))  -- the party that takes the night is in house
    ∷ cancel 9 ⇒ refused NoParty  -- NotBooked
    ∷ cancel 1 ⇒ refused NotBooked
    ∷ []

abbrev pub of_guests : List Line
of_guests =
    check_in 9 999 ⇒ refused NoRoom  -- NoParty
    ∷ check_in 9 101 ⇒ refused NoParty  -- NotBooked
    ∷ check_in 3 102 ⇒ refused NotBooked  -- TooEarly
    ∷ check_in 4 201 ⇒ refused TooEarly  -- WrongKind
    ∷ check_in 2 201 ⇒ refused StayOver  -- WrongKind
    ∷ check_in 6 201 ⇒ refused WrongKind  -- RoomTaken
    ∷ check_in 6 101 ⇒ refused RoomTaken  -- NoFreshCode
    ∷ spare 9 ⇒ refused NoParty  -- NotInHouse
    ∷ spare 6 ⇒ refused NotInHouse
    ∷ reissue 9 ⇒ refused NoParty  -- NotInHouse
    ∷ reissue 6 ⇒ refused NotInHouse  -- NoFreshCode
    ∷ transfer 9 999 ⇒ refused NoRoom  -- NoParty
    ∷ transfer 9 101 ⇒ refused NoParty  -- NotInHouse
    ∷ transfer 6 201 ⇒ refused NotInHouse  -- WrongKind
    ∷ transfer 1 201 ⇒ refused WrongKind  -- RoomTaken
    ∷ transfer 1 101 ⇒ refused SameRoom  -- RoomTaken
    ∷ transfer 1 103 ⇒ refused RoomTaken  -- NoFreshCode
    ∷ check_out 9 ⇒ refused NoParty  -- NotInHouse
    ∷ check_out 6 ⇒ refused NotInHouse
    ∷ refit 999 ⇒ refused NoRoom
    ∷ refit 101 ⇒ refused RoomTaken  -- NoFreshCode
    ∷ []

abbrev pub of_notes : List Line
of_notes =
    entered_by 999 2 1 1 a0 a1 M ⇒ refused NoRoom  -- NoFit
    ∷ entered 999 2 1 a0 a1 M ⇒ refused NoRoom  -- Gap
    ∷ entered_by 101 2 1 9 a0 a1 M ⇒ refused NoFit  -- Conflict
    ∷ left_by 101 2 4 9 a0 a1 M ⇒ refused NoFit  -- Gap
    ∷ left_by 101 99 2 1 a0 a1 M ⇒ refused NoFit  -- equal to a note of the first lock but for the lock
    ∷ recoded_by 103 2 2 d0 d0 M ⇒ refused NoFit  -- HeldDiffers
    ∷ left 101 2 1 a0 a1 M ⇒ seen  -- NotInside
    ∷ recoded 103 1 d0 d1 M ⇒ seen  -- HeldDiffers
    ∷ entered 101 1 9 a0 a1 M ⇒ refused Conflict  -- NoCard
    ∷ left 101 1 9 a0 a1 M ⇒ refused Conflict  -- NoCard
    ∷ recoded 101 1 b0 b0 M ⇒ refused Conflict  -- HeldDiffers
    ∷ entered 101 4 9 a0 a1 M ⇒ refused (Gap 3)  -- NoCard
    ∷ left 101 4 9 a0 a1 M ⇒ refused (Gap 3)  -- NoCard
    ∷ recoded 101 4 b0 b0 M ⇒ refused (Gap 3)  -- HeldDiffers
    ∷ entered 101 3 9 a0 a1 M ⇒ refused NoCard  -- CardDiffers
    ∷ entered 101 3 1 b0 b1 M ⇒ refused CardDiffers  -- LockShut
    ∷ entered 102 1 1 a0 a1 M ⇒ refused LockShut
    ∷ left 101 3 9 a0 a1 M ⇒ refused NoCard  -- CardDiffers
    ∷ left 101 3 1 b0 b1 M ⇒ refused CardDiffers  -- NotInside
    ∷ left 101 3 1 a0 a1 M ⇒ refused NotInside
    ∷ recoded 101 3 b0 b0 M ⇒ refused HeldDiffers  -- NotAwaited
    ∷ recoded 101 3 a1 a1 M ⇒ refused NotAwaited
    ∷ []

-- The last day, with a kind that has no rooms.
abbrev pub last_day : Played
last_day = play (start no_rows) (source [] a0) (begin LAST_DAY ⇒ begun ∷ add_kind DBL ⇒ kind_added ∷ [])

abbrev pub on_the_last_day : List Line
on_the_last_day =
    reserve DBL 36523 2 guest ⇒ refused PastArrival  -- PastEnd
    ∷ reserve DBL LAST_DAY 1 guest ⇒ refused PastEnd  -- KindFull
    ∷ next_day ⇒ refused LastDay
    ∷ []

-- The same day with other cards, and with other stays.
abbrev pub with_cards : List (ℕ × Card) → History
with_cards cards = start (record (rows_of busy.history) { cards = cards })

abbrev pub with_stays : List (ℕ × Stay) → History
with_stays stays = start (record (rows_of busy.history) { stays = stays })

-- Where 9,999,999 cards were given: the reasons that come before, and then NumbersUsedUp, before NoFreshCode.
abbrev pub CardsEnd : Type 0
CardsEnd =
    (cards : List (ℕ × Card)) → length cards ≡ LAST_NUMBER
    → IsRefused (with_cards cards) busy.ahead (check_in 6 101) RoomTaken
    × IsRefused (with_cards cards) busy.ahead (check_in 6 102) NumbersUsedUp
    × IsRefused (with_cards cards) busy.ahead (spare 6) NotInHouse
    × IsRefused (with_cards cards) busy.ahead (spare 1) NumbersUsedUp
    × IsRefused (with_cards cards) busy.ahead (reissue 6) NotInHouse
    × IsRefused (with_cards cards) busy.ahead (reissue 1) NumbersUsedUp
    × IsRefused (with_cards cards) busy.ahead (transfer 1 103) RoomTaken
    × IsRefused (with_cards cards) busy.ahead (transfer 1 102) NumbersUsedUp

-- Where 9,999,999 parties were given: KindFull comes before.
abbrev pub PartiesEnd : Type 0
PartiesEnd =
    (stays : List (ℕ × Stay)) → length stays ≡ LAST_NUMBER
    → (first_full (with_stays stays) DBL (may 2) 1 ≡ Some (may 2)
    → IsRefused (with_stays stays) busy.ahead (reserve DBL (may 2) 1 guest) (KindFull (may 2)))
    × (first_full (with_stays stays) DBL (may 2) 1 ≡ None
    → IsRefused (with_stays stays) busy.ahead (reserve DBL (may 2) 1 guest) NumbersUsedUp)

abbrev pub TheScene : Type 0
TheScene =
    AreAnswered moves busy
    × AreRefused nothing before_the_first_day
    × AreRefused busy of_kinds_and_stays
    × AreRefused busy of_guests
    × AreRefused busy of_notes
    × AreRefused last_day on_the_last_day
    × FindsNoCode busy (add_room 104 DBL) × FindsNoCode busy (check_in 6 102) × FindsNoCode busy (reissue 1)
    × FindsNoCode busy (transfer 1 102) × FindsNoCode busy (refit 102)
