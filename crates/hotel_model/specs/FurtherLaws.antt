-- What is proved beside: that what is refused changes nothing, what a reissue leaves as it is, which bookings are kept,
-- where an issued code, a card and a card inside are listed, and that a party's cards only grow.
use Rattle.std.specs.Prelude.{ℕ, ◌≡◌, ◌≤◌, ◌<◌, ◌+◌, ◌↔◌, Bool, true, false, List, ◌∷◌, ◌++◌, length, map, Some}
use Rattle.std.specs.Prelude.{is_none}
use Rattle.rand_core.specs.Stream.{Stream}
use Rattle.keycard_rules.specs.declared.card.Card.{Card}
use Rattle.hotel_nights.specs.declared.stay.Stay.{Stay}
use Rattle.hotel_model.specs.declared.rows.CodeRow.{CodeRow}
use Rattle.hotel_model.specs.declared.command.Command.{Command}
use Rattle.hotel_model.specs.declared.command.Command.TheVariants as command
use Rattle.hotel_model.specs.declared.reply.Reply.{Reply}
use Rattle.hotel_model.specs.declared.reply.Reply.TheVariants.{Refused, Seen}
use Rattle.hotel_model.specs.declared.reply.Refusal.TheVariants.{PastArrival, PastEnd, KindFull}
use Rattle.hotel_model.specs.Rows.{at_number}
use Rattle.hotel_model.specs.Event.{Event}
use Rattle.hotel_model.specs.History.{History, ◌▷◌}
use Rattle.hotel_model.specs.Issued.{all_issued, issued}
use Rattle.hotel_model.specs.Guests.{insiders, registered}
use Rattle.hotel_model.specs.Stays.{stays}
use Rattle.hotel_model.specs.Cases.{is_kind}
use Rattle.hotel_model.specs.Answer.{answer_to}
use Rattle.hotel_model.specs.Run.{Reached, Steps}
use Rattle.hotel_model.specs.Cards.{cards}
use Rattle.hotel_model.specs.Lists.{cards_given, cards_inside, free}

-- the reply tells of no change: the command was refused or failed, or the note was seen before
abbrev pub tells_no_change : Reply → Bool
tells_no_change (Refused why) = true
tells_no_change Seen = true
tells_no_change _ = false

-- What is answered has no event exactly where the reply tells of no change.
abbrev pub RefusalsHaveNoEvent : Type 0
RefusalsHaveNoEvent = (h : History) (ahead : List ℕ) (command : Command)
    → is_none (answer_to h ahead command).happens ≡ tells_no_change (answer_to h ahead command).reply

-- A step whose reply tells of no change leaves the history as it was, and with it the rows.
abbrev pub RefusalsKeep : Type 0
RefusalsKeep = (h h' : History) (s s' : Stream) (command : Command) (reply : Reply)
    → Steps h s command reply h' s' → tells_no_change reply ≡ true → h' ≡ h

-- After an accepted reissue each room has the party that it had, and the stays are the same.
abbrev pub ReissuesKeep : Type 0
ReissuesKeep = (h : History) (ahead : List ℕ) (party : ℕ) (event : Event) → Reached h
    → (answer_to h ahead (command.Reissue party)).happens ≡ Some event
    → ((r : ℕ) → registered (h ▷ event) r ≡ registered h r) × (stays (h ▷ event) ≡ stays h)

-- the reply refuses a booking for its nights: they begin before the business day, or end after the calendar, or on one
-- of them each room of the kind is taken
abbrev pub refuses_nights : Reply → Bool
refuses_nights (Refused PastArrival) = true
refuses_nights (Refused PastEnd) = true
refuses_nights (Refused (KindFull night)) = true
refuses_nights _ = false

-- A booking of a kind that is there isn't refused for its nights exactly where the kind is free for them.
abbrev pub FreeIsKept : Type 0
FreeIsKept = (h : History) (ahead guest kind : List ℕ) (arrive nights : ℕ) → Reached h
    → is_kind h kind ≡ true → 1 ≤ nights
    → (refuses_nights (answer_to h ahead (command.Reserve guest kind arrive nights)).reply ≡ false)
    ↔ (0 < free h kind arrive nights)

-- After an accepted booking the kind is free for its nights once less.
abbrev pub BookingsTakeOne : Type 0
BookingsTakeOne = (h : History) (ahead guest kind : List ℕ) (arrive nights : ℕ) (event : Event) → Reached h → 1 ≤ nights
    → (answer_to h ahead (command.Reserve guest kind arrive nights)).happens ≡ Some event
    → free h kind arrive nights ≡ free (h ▷ event) kind arrive nights + 1

-- A code is listed with a room and a place exactly where it stands at this place among the codes that were issued at
-- that room.
abbrev pub CodesAreListed : Type 0
CodesAreListed = (h : History) → Reached h → (code : ℕ) (row : CodeRow)
    → (at_number (all_issued h) code ≡ Some row)
    ↔ ((before later : List ℕ) × (issued h row.room ≡ before ++ code ∷ later) × (length before ≡ row.place))

-- Each card inside a room is listed, with its room and in order.
abbrev pub InsidersAreListed : Type 0
InsidersAreListed = (h : History) → Reached h → map (λ row. (row.room, row.card)) (cards_inside h) ≡ insiders h

-- Each card's party has a stay, off which `card_rows` reads the guest: so each card has its row.
abbrev pub CardsAreShown : Type 0
CardsAreShown = (h : History) → Reached h → (number : ℕ) (card : Card) → at_number (cards h) number ≡ Some card
    → (stay : Stay) × (at_number (stays h) card.party ≡ Some stay)

-- With one more event the cards that a party was given are those before it, in their order, and behind them at most one
-- more.
abbrev pub CardsOnlyGrow : Type 0
CardsOnlyGrow = (h : History) (event : Event) → Reached (h ▷ event) → (party : ℕ)
    → (new : List Card) × (length new ≤ 1) × (cards_given (h ▷ event) party ≡ cards_given h party ++ new)
