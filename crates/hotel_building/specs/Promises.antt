-- What is proved of each building that can be: what the desk says, however late it hears of the doors, is so at the
-- doors. `all` is the history of all notes, each heard when it was made: that of a whole building, or of one room.
use Rattle.std.specs.Prelude.{ℕ, ◌≡◌, ◌≤◌, ◌⊎◌, ◌↔◌, true, List, [], ◌∷◌, Some, IsSome, Contains, length}
use Rattle.keycard_rules.specs.declared.card.Card.{Card}
use Rattle.keycard_rules.specs.declared.card.Link.{Link}
use Rattle.keycard_rules.specs.Lock.{turn}
use Rattle.keycard_rules.specs.Note.{Note}
use Rattle.hotel_model.specs.declared.command.Command.{Command}
use Rattle.hotel_model.specs.declared.command.Command.TheVariants as command
use Rattle.hotel_model.specs.declared.reply.Reply.TheVariants as reply
use Rattle.hotel_model.specs.History.{History}
use Rattle.hotel_model.specs.Issued.{issued, current}
use Rattle.hotel_model.specs.Rows.{at_number}
use Rattle.hotel_model.specs.Cards.{cards, newest_link}
use Rattle.hotel_model.specs.Lock.{held}
use Rattle.hotel_model.specs.Ledger.{awaited}
use Rattle.hotel_model.specs.Guests.{registered, inside, secured}
use Rattle.hotel_model.specs.Cases.{is_room}
use Rattle.hotel_model.specs.Lists.{arrivals, availability, bookings, business_day, card_rows, cards_given}
use Rattle.hotel_model.specs.Outcome.{accepted}
use Rattle.hotel_model.specs.Answer.{answer_to}
use Rattle.hotel_model.specs.Run.{Reached}
use Rattle.hotel_model.specs.Headline.{Assured}
use Rattle.hotel_building.specs.Building.{Building, Door, door, desk, at_once, event_of, IsIssued}

-- The next note that the desk has not heard is taken when it is told, whatever was accepted and told before.
abbrev pub TrueNotesAreTaken : Building → ℕ → Type 0
TrueNotesAreTaken b r = (note : Note) (later : List Note) (ahead : List ℕ) → (door b r).unread ≡ note ∷ later
    → answer_to (desk b) ahead (command.Reported note) ≡ accepted reply.Taken (event_of note)

-- By a history, a door's lock holds what it does, and the cards inside are those that are, and those that slipped out.
abbrev pub IsAs : History → ℕ → Door → Type 0
IsAs h r door = (held h r ≡ door.lock.held)
    × ((number : ℕ) → Contains (inside h r) number ↔ (Contains door.inside number ⊎ Contains door.slipped number))

-- Of a door whose notes the desk has all heard it knows what is so, and it has what a desk would that hears all at
-- once. So if none slipped out, it knows who is inside; if any did, it counts everybody who is inside.
abbrev pub IsCaughtUp : Building → History → ℕ → Type 0
IsCaughtUp b all r = (door b r).unread ≡ [] → IsAs (desk b) r (door b r)
    × (awaited (desk b) r ≡ awaited all r) × (secured (desk b) r ≡ secured all r)

-- the card was issued, and by the rule of the two codes a room's lock opens to it
abbrev pub Opens : Building → ℕ → Card → Type 0
Opens b r card = IsIssued b card × IsSome (turn (door b r).lock.held card.link)

-- the card has the room's newest link
abbrev pub IsNewest : Building → ℕ → Card → Type 0
IsNewest b r card = newest_link (desk b) r ≡ Some card.link

-- the card has the room's newest link, and is the registered party's, if there is one
abbrev pub IsGuests : Building → ℕ → Card → Type 0
IsGuests b r card = IsNewest b r card × ((party : ℕ) → registered (desk b) r ≡ Some party → card.party ≡ party)

-- A room that the desk calls secured, with a registered party, is this party's alone, however many notes are unread:
-- the lock holds the room's current code; and each card that came in by opening it and has not gone out, and each that
-- opens it, is the party's and the newest.
abbrev pub SecuredIsSo : Building → ℕ → Type 0
SecuredIsSo b r = (party : ℕ) → secured (desk b) r ≡ true → registered (desk b) r ≡ Some party
    → ((door b r).lock.held ≡ current (desk b) r)
    × ((number : ℕ) → Contains (door b r).inside number → (card : Card)
    × (at_number (cards (desk b)) number ≡ Some card) × IsNewest b r card × (card.party ≡ party))
    × ((card : Card) → Opens b r card → IsNewest b r card × (card.party ≡ party))

-- A room that the desk calls secured is so by all notes, also those that it has not heard.
abbrev pub SecuredIsNeverStale : Building → History → ℕ → Type 0
SecuredIsNeverStale b all r = secured (desk b) r ≡ true → secured all r ≡ true

-- Where the desk awaits at most one code, the room's newest card opens the lock. (A lock whose counts are used up stays
-- shut to all cards.)
abbrev pub OpeningIsNoFalsePromise : Building → ℕ → Type 0
OpeningIsNoFalsePromise b r = (link : Link) → newest_link (desk b) r ≡ Some link
    → length (awaited (desk b) r) ≤ 1 → IsSome (turn (door b r).lock.held link)

-- A card that opens a room's lock has both its codes from this room.
abbrev pub OpensItsOwnRoom : Building → ℕ → Type 0
OpensItsOwnRoom b r = (card : Card) → is_room (desk b) r ≡ true → Opens b r card
    → Contains (issued (desk b) r) card.link.old_code × Contains (issued (desk b) r) card.link.new_code

-- Once a lock holds its room's current code, read or not, no earlier card opens it.
abbrev pub NewestShutsOut : Building → ℕ → Type 0
NewestShutsOut b r = is_room (desk b) r ≡ true → (door b r).lock.held ≡ current (desk b) r
    → (card : Card) → Opens b r card → IsGuests b r card

-- And the newest card does, while the lock has counts left.
abbrev pub NewestOpens : Building → ℕ → Type 0
NewestOpens b r = is_room (desk b) r ≡ true → (door b r).lock.held ≡ current (desk b) r
    → (link : Link) → newest_link (desk b) r ≡ Some link → IsSome (turn (door b r).lock.held link)

-- Where the desk awaits no code, the lock holds the room's current one, and no earlier card opens it.
abbrev pub ShutOutIsNeverStale : Building → ℕ → Type 0
ShutOutIsNeverStale b r = is_room (desk b) r ≡ true → awaited (desk b) r ≡ []
    → ((door b r).lock.held ≡ current (desk b) r) × ((card : Card) → Opens b r card → IsGuests b r card)

-- The lock holds the code that the desk has as held, or one of those that it awaits.
abbrev pub LockIsAmong : Building → ℕ → Type 0
LockIsAmong b r = is_room (desk b) r ≡ true → Contains (held (desk b) r ∷ awaited (desk b) r) (door b r).lock.held

-- The lock holds the room's current code, or staff may set it to this code: all notes have it as awaited.
abbrev pub SettingHelps : Building → History → ℕ → Type 0
SettingHelps b all r = is_room (desk b) r ≡ true
    → ((door b r).lock.held ≡ current (desk b) r) ⊎ Contains (awaited all r) (current (desk b) r)

-- What is promised at a room.
pub record PromisedAt (b : Building) (all : History) (r : ℕ) : Type 0 where
  pub all_are_so : IsAs all r (door b r)
  pub true_notes : TrueNotesAreTaken b r
  pub caught_up : IsCaughtUp b all r
  pub secured_is_so : SecuredIsSo b r
  pub secured_is_fresh : SecuredIsNeverStale b all r
  pub opening : OpeningIsNoFalsePromise b r
  pub own_room : OpensItsOwnRoom b r
  pub newest_shuts_out : NewestShutsOut b r
  pub newest_opens : NewestOpens b r
  pub shut_out : ShutOutIsNeverStale b r
  pub lock_is_among : LockIsAmong b r
  pub setting_helps : SettingHelps b all r

-- the command is one of the desk's staff, and no note
abbrev pub IsOfStaff : Command → Type 0
IsOfStaff (command.Reported note) = ⊥
IsOfStaff _ = Unit {0}

-- The answer to each command that is no note is the same after two histories.
abbrev pub SameAnswers : History → History → Type 0
SameAnswers h h' = (ahead : List ℕ) (command : Command) → IsOfStaff command
    → answer_to h ahead command ≡ answer_to h' ahead command

-- So are the lists that read no note; the others say which codes are held, awaited and passed, who is inside, or what
-- was noted.
pub record SameLists (h h' : History) : Type 0 where
  pub same_day : business_day h ≡ business_day h'
  pub same_arrivals : (d : ℕ) → arrivals h d ≡ arrivals h' d
  pub same_bookings : bookings h ≡ bookings h'
  pub same_free : (d n : ℕ) → availability h d n ≡ availability h' d n
  pub same_given : (party : ℕ) → cards_given h party ≡ cards_given h' party
  pub same_card : (number : ℕ) → card_rows h number ≡ card_rows h' number

-- Both histories can be reached, and the headline holds of both; and notes change no answer to a command that is no
-- note, and no list that reads none.
pub record PromisedOf (b : Building) (all : History) : Type 0 where
  pub desk_reached : Reached (desk b)
  pub desk_assured : Assured (desk b)
  pub all_reached : Reached all
  pub all_assured : Assured all
  pub answers : SameAnswers (desk b) all
  pub lists : SameLists (desk b) all

-- What is promised of each building that can be.
pub record Promised (b : Building) : Type 0 where
  pub of_both : PromisedOf b (at_once b)
  pub at_rooms : (r : ℕ) → PromisedAt b (at_once b) r
