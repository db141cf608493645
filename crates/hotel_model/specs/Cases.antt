-- The cases on which the answers turn, each a question to the history.
use Rattle.std.specs.Prelude.{ℕ, Bool, false, List, Option, None, ◌+◌, ◌==◌, nat_lt, nat_le, length, is_some, bytes_eq}
use Rattle.std.specs.List.{list_any}
use Rattle.std.specs.Map.{keys_of}
use Rattle.keycard_rules.specs.declared.card.Link.{Link}
use Rattle.hotel_nights.specs.declared.stay.Stay.{Stay}
use Rattle.hotel_model.specs.Words.{is_one_of, is_that, said_of}
use Rattle.hotel_model.specs.Rows.{at_number}
use Rattle.hotel_model.specs.History.{History}
use Rattle.hotel_model.specs.Cards.{cards, link_of_party, same_link}
use Rattle.keycard_rules.specs.Lock.{turn}
use Rattle.keycard_rules.specs.declared.numbers.TheConstants.{LAST_NUMBER}
use Rattle.hotel_model.specs.Lock.{held}
use Rattle.hotel_model.specs.Guests.{registered}
use Rattle.hotel_model.specs.Stays.{day, kinds, rooms, stays, is_booked_state, room_of_state}

-- a day is set
abbrev pub is_begun : History → Bool
is_begun h = is_some (day h)

-- the business day (0 where none is set)
abbrev pub today : History → ℕ
today h = said_of (day h) 0 (λ d. d)

-- the kind is there
abbrev pub is_kind : History → List ℕ → Bool
is_kind h kind = list_any (λ k. bytes_eq k kind) (kinds h)

-- the room is there
abbrev pub is_room : History → ℕ → Bool
is_room h room = is_one_of room (keys_of (rooms h))

-- the party has booked, at some time
abbrev pub is_party : History → ℕ → Bool
is_party h party = is_one_of party (keys_of (stays h))

-- whether the party's stay is so
abbrev pub stay_is : History → ℕ → (Stay → Bool) → Bool
stay_is h party test = said_of (at_number (stays h) party) false test

-- the room in which the party is in house
abbrev pub room_of : History → ℕ → Option ℕ
room_of h party = said_of (at_number (stays h) party) None (λ stay. room_of_state stay.state)

-- the room in which the party is in house (0 where it is in none)
abbrev pub own_room : History → ℕ → ℕ
own_room h party = said_of (room_of h party) 0 (λ room. room)

-- the party is booked, and has not yet come
abbrev pub is_booked : History → ℕ → Bool
is_booked h party = stay_is h party (λ stay. is_booked_state stay.state)

-- the party is in house
abbrev pub is_in_house : History → ℕ → Bool
is_in_house h party = is_some (room_of h party)

-- today is before the stay
abbrev pub is_early : History → ℕ → Bool
is_early h party = stay_is h party (λ stay. nat_lt (today h) stay.arrive)

-- today is the stay's last day or later
abbrev pub is_over : History → ℕ → Bool
is_over h party = stay_is h party (λ stay. nat_le stay.depart (today h))

-- the room is of the kind that the party booked
abbrev pub is_of_kind : History → ℕ → ℕ → Bool
is_of_kind h room party =
    stay_is h party (λ stay. said_of (at_number (rooms h) room) false (λ kind. bytes_eq kind stay.kind))

-- the party is registered at the room
abbrev pub is_home : History → ℕ → ℕ → Bool
is_home h room party = is_that (registered h room) party

-- a party is registered at the room
abbrev pub is_taken : History → ℕ → Bool
is_taken h room = is_some (registered h room)

-- Parties and cards are numbered from 1 up to the last number: there are as many parties as there are numbers
abbrev pub parties_used_up : History → Bool
parties_used_up h = nat_le LAST_NUMBER (length (stays h))

-- the number that the next party is given
abbrev pub next_party : History → ℕ
next_party h = length (stays h) + 1

-- there are as many cards as there are numbers
abbrev pub cards_used_up : History → Bool
cards_used_up h = nat_le LAST_NUMBER (length (cards h))

-- the number that the next card is given
abbrev pub next_card : History → ℕ
next_card h = length (cards h) + 1

-- the link that is said of a party without a card
abbrev pub no_link : Link
no_link = record { old_code = 0; new_code = 0 }

-- the link of the card that the party was given last
abbrev pub last_card_of : History → ℕ → Link
last_card_of h party = said_of (link_of_party h party) no_link (λ link. link)

-- a card of the number was given
abbrev pub is_card : History → ℕ → Bool
is_card h number = is_one_of number (keys_of (cards h))

-- the card of the number has this link
abbrev pub has_link : History → ℕ → Link → Bool
has_link h number link = said_of (at_number (cards h) number) false (λ card. same_link card.link link)

-- the link opens the room's lock
abbrev pub opens : History → ℕ → Link → Bool
opens h room link = is_some (turn (held h room) link)

-- the room's lock holds the code
abbrev pub holds : History → ℕ → ℕ → Bool
holds h room code = held h room == code
