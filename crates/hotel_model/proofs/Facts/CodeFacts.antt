-- What holds of the codes, cards and rooms of each history that can be reached: the steps to the headline.
use Rattle.std.proofs.Common.{ℕ, ◌≡◌, ◌≤◌, ◌+◌, true, false, List, [], ◌∷◌, ◌++◌, Some, length}
use Rattle.hotel_model.proofs.Names.{keys_of, Card, Link, CodeRow, is_one_of, at_number, History, issued, all_issued}
use Rattle.hotel_model.proofs.Names.{passed, awaited, cards, newest_link, link_of_party, registered, inside, secured}
use Rattle.hotel_model.proofs.Names.{stays, count_up, rows_of, code_at, is_room, fits, fits_at}
pub use Rattle.keycard_rules.specs.Chain.{IsLinkOf}

-- The cards' numbers are 1, 2 and so on.
abbrev pub CardsCount : History → Type 0
CardsCount h = count_up 1 (keys_of (cards h)) ≡ true

-- So are the parties'.
abbrev pub StaysCount : History → Type 0
StaysCount h = count_up 1 (keys_of (stays h)) ≡ true

-- the list isn't empty
abbrev pub HasCodes : List ℕ → Type 0
HasCodes codes = (first : ℕ) × (later : List ℕ) × (codes ≡ first ∷ later)

-- At each room that is there a code was issued.
abbrev pub RoomsHaveCodes : History → Type 0
RoomsHaveCodes h = (r : ℕ) → is_room h r ≡ true → HasCodes (issued h r)

-- Where there is no room no code was issued, passed or is awaited.
abbrev pub OthersHaveNone : History → Type 0
OthersHaveNone h = (r : ℕ) → is_room h r ≡ false → (issued h r ≡ []) × (passed h r ≡ []) × (awaited h r ≡ [])

-- Each code of a room stands in the table of codes, with its place there.
abbrev pub CodesHavePlaces : History → Type 0
CodesHavePlaces h = (r : ℕ) (before : List ℕ) (code : ℕ) (later : List ℕ) → issued h r ≡ before ++ code ∷ later
    → at_number (all_issued h) code ≡ Some (record { room = r; place = length before })

-- Each row of the table of codes tells the place of its code at its room.
abbrev pub PlacesHaveCodes : History → Type 0
PlacesHaveCodes h = (code : ℕ) (row : CodeRow) → at_number (all_issued h) code ≡ Some row
    → (before : List ℕ) × (later : List ℕ) × (issued h row.room ≡ before ++ code ∷ later) × (length before ≡ row.place)

-- the link's codes are neighbours at a room
abbrev pub IsLink : History → Link → Type 0
IsLink h link = (r : ℕ) × IsLinkOf (issued h r) link

-- The codes of each card were issued one after the other at a room.
abbrev pub CardsHaveLinks : History → Type 0
CardsHaveLinks h = (number : ℕ) (card : Card) → at_number (cards h) number ≡ Some card → IsLink h card.link

-- So were those of the link that a party was given last.
abbrev pub PartiesHaveLinks : History → Type 0
PartiesHaveLinks h = (party : ℕ) (link : Link) → link_of_party h party ≡ Some link → IsLink h link

-- The newest link of a room is its last two codes.
abbrev pub NewestAreLast : History → Type 0
NewestAreLast h = (r : ℕ) (link : Link)
    → newest_link h r ≡ Some link → (prefix : List ℕ) × (issued h r ≡ prefix ++ link.old_code ∷ link.new_code ∷ [])

-- The search for the place of a room's code finds this code.
abbrev pub CodesAreFound : History → Type 0
CodesAreFound h = (r : ℕ) (before : List ℕ) (code : ℕ) (later : List ℕ)
    → issued h r ≡ before ++ code ∷ later → code_at (rows_of h) r (length before) ≡ Some code

-- There are at most 9,999,999 cards.
abbrev pub CardsFit : History → Type 0
CardsFit h = length (cards h) ≤ 9999999

-- There are at most 9,999,999 stays.
abbrev pub StaysFit : History → Type 0
StaysFit h = length (stays h) ≤ 9999999

-- A room has at most as many codes as there are cards, and those that its fits begin with.
abbrev pub CodesFit : History → Type 0
CodesFit h = (r : ℕ) → length (issued h r) ≤ length (cards h) + length (fits_at (fits h) r)

-- the party has a card of this link
abbrev pub HasCard : History → ℕ → Link → Type 0
HasCard h party link =
    (number : ℕ) × (card : Card) × (at_number (cards h) number ≡ Some card) × (card.link ≡ link) × (card.party ≡ party)

-- A party has a card of the link that it was given last.
abbrev pub PartiesHaveCards : History → Type 0
PartiesHaveCards h = (party : ℕ) (link : Link) → link_of_party h party ≡ Some link → HasCard h party link

-- Cards that bring the same new code are one party's.
abbrev pub CardsOneParty : History → Type 0
CardsOneParty h = (n m : ℕ) (a b : Card) → at_number (cards h) n ≡ Some a → at_number (cards h) m ≡ Some b
    → a.link.new_code ≡ b.link.new_code → a.party ≡ b.party

-- A registered party has a card of its room's newest link.
abbrev pub GuestsHaveCards : History → Type 0
GuestsHaveCards h = (r party : ℕ)
    → registered h r ≡ Some party → (link : Link) × (newest_link h r ≡ Some link) × HasCard h party link

-- A secured room awaits no code, and each card inside has its newest link.
abbrev pub SecuredRoomsFit : History → Type 0
SecuredRoomsFit h = (r : ℕ) → secured h r ≡ true → (is_room h r ≡ true) × (awaited h r ≡ [])
    × ((number : ℕ) → is_one_of number (inside h r) ≡ true
    → (card : Card) × (at_number (cards h) number ≡ Some card) × (newest_link h r ≡ Some card.link))
