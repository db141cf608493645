-- What is proved of each history that can be reached: the headline, and what is assured beside it.
use Rattle.std.specs.Prelude.{ℕ, ◌≡◌, ◌≤◌, ◌↔◌, true, List, ◌∷◌, ◌++◌, Some, IsSome, Contains, length}
use Rattle.keycard_rules.specs.declared.card.Card.{Card}
use Rattle.keycard_rules.specs.declared.card.Link.{Link}
use Rattle.hotel_model.specs.Rows.{at_number}
use Rattle.hotel_model.specs.Sound.{IsSound}
use Rattle.hotel_model.specs.Event.{Entered}
use Rattle.hotel_model.specs.History.{History, start, ◌▷◌}
use Rattle.hotel_model.specs.RowsOf.{rows_of}
use Rattle.hotel_model.specs.Issued.{issued, current}
use Rattle.hotel_model.specs.Cards.{cards, newest_link}
use Rattle.keycard_rules.specs.Lock.{turn}
use Rattle.hotel_model.specs.Lock.{held}
use Rattle.hotel_model.specs.Ledger.{passed, awaited, turns}
use Rattle.hotel_model.specs.Guests.{registered, inside, secured}
use Rattle.hotel_model.specs.Stays.{nights, rooms_of}
use Rattle.hotel_model.specs.Cases.{is_room}
use Rattle.hotel_model.specs.Moved.{NotesMove}

-- No code stands at two places, of one room or of two.
abbrev pub NoCodeTwice : History → Type 0
NoCodeTwice h = (r s code : ℕ) (before later before' later' : List ℕ) → issued h r ≡ before ++ code ∷ later
    → issued h s ≡ before' ++ code ∷ later' → (r ≡ s) × (before ≡ before')

-- At each room the passed codes, the held one and the awaited ones are the issued ones, in order.
abbrev pub LedgerHolds : History → Type 0
LedgerHolds h = (r : ℕ) → is_room h r ≡ true → passed h r ++ held h r ∷ awaited h r ≡ issued h r

-- A code that an entry took out of the awaited ones was their first.
abbrev pub TakesTheFirst : History → Type 0
TakesTheFirst (start t) = Unit {0}
TakesTheFirst (h ▷ Entered room fit count number link at) =
    TakesTheFirst h × (turns h room link ≡ true → (later : List ℕ) × (awaited h room ≡ link.new_code ∷ later))
TakesTheFirst (h ▷ _) = TakesTheFirst h

-- A card opens only locks of rooms at which both codes of its link were issued.
abbrev pub OpensOwnRoom : History → Type 0
OpensOwnRoom h = (r number : ℕ) (card : Card) → is_room h r ≡ true → at_number (cards h) number ≡ Some card
    → IsSome (turn (held h r) card.link)
    → Contains (issued h r) card.link.old_code × Contains (issued h r) card.link.new_code

-- A room's newest link opens its lock exactly where the lock awaits at most one code.
abbrev pub NewestOpens : History → Type 0
NewestOpens h =
    (r : ℕ) (link : Link) → newest_link h r ≡ Some link → IsSome (turn (held h r) link) ↔ (length (awaited h r) ≤ 1)

-- In a secured room with a registered party the lock holds the current code, and each card inside has the newest link
-- and is that party's.
abbrev pub SafeRoom : History → Type 0
SafeRoom h = (r party : ℕ) → secured h r ≡ true → registered h r ≡ Some party → (held h r ≡ current h r)
    × ((number : ℕ) → Contains (inside h r) number → (card : Card) × (at_number (cards h) number ≡ Some card)
    × (newest_link h r ≡ Some card.link) × (card.party ≡ party))

-- The seven parts of the headline.
pub record Headline (h : History) : Type 0 where
  pub no_code_twice : NoCodeTwice h
  pub ledger : LedgerHolds h
  pub takes_the_first : TakesTheFirst h
  pub opens_own_room : OpensOwnRoom h
  pub newest_opens : NewestOpens h
  pub safe_room : SafeRoom h
  pub rows_sound : IsSound (rows_of h)

-- What is assured after each step: the headline; that each note moved exactly the codes that it records; and that on no
-- night more stays of a kind are booked and in house than the kind has rooms.
pub record Assured (h : History) : Type 0 where
  pub headline : Headline h
  pub notes_move : NotesMove h
  pub none_oversold : (kind : List ℕ) (d : ℕ) → nights h kind d ≤ rooms_of h kind
