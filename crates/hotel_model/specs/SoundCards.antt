-- The rules of sound rows, third part: codes and cards. Each rule is a test of all rows.
use Rattle.std.specs.Prelude.{ℕ, Bool, true, false, ◌+◌, ◌==◌, ◌&&◌, ◌||◌, not, nat_le, nat_lt, length, is_some}
use Rattle.std.specs.Prelude.{count_by}
use Rattle.std.specs.List.{list_any, list_all}
use Rattle.std.specs.Map.{keys_of, values_of}
use Rattle.keycard_rules.specs.declared.card.Card.{Card}
use Rattle.keycard_rules.specs.declared.card.Link.{Link}
use Rattle.keycard_rules.specs.declared.code.TheConstants.{CODES}
use Rattle.keycard_rules.specs.declared.numbers.TheConstants.{LAST_NUMBER}
use Rattle.hotel_model.specs.declared.rows.CodeRow.{CodeRow}
use Rattle.hotel_model.specs.Words.{said_of}
use Rattle.hotel_model.specs.Rows.{Rows, at_number, codes_by_place, codes_at, begins_fit, newest_link_at}
use Rattle.hotel_model.specs.Rows.{link_of_last_card}
use Rattle.hotel_model.specs.Stays.{room_of_state}
use Rattle.hotel_model.specs.Cards.{same_link}
use Rattle.hotel_model.specs.SoundRooms.{count_up, each_room}
use Rattle.hotel_model.specs.SoundStays.{each_stay}

-- whether the code is there, and its row so
abbrev pub code_is : Rows → ℕ → (CodeRow → Bool) → Bool
code_is rows code test = said_of (at_number rows.codes code) false test

-- ---- code

-- each code is below 2^48
abbrev pub codes_in_range : Rows → Bool
codes_in_range rows = list_all (λ code. nat_lt code CODES) (keys_of rows.codes)

-- each code's room is there
abbrev pub code_rooms_there : Rows → Bool
code_rooms_there rows = list_all (λ (e : ℕ × CodeRow). is_some (at_number rows.rooms e.1.room)) rows.codes

-- how many codes stand at a room
abbrev pub codes_listed : Rows → ℕ → ℕ
codes_listed rows room = count_by (λ (row : CodeRow). row.room == room) (values_of rows.codes)

-- each room's codes stand at the places 0 and on, each once, as many as its row says
abbrev pub places_once : Rows → Bool
places_once rows = each_room rows (λ row. count_up 0 (keys_of (codes_by_place rows.codes row.room))
    && (length (codes_at rows row.room) == row.codes)
    && (codes_listed rows row.room == row.codes))

-- ---- card

-- the rule holds of each card
abbrev pub each_card : Rows → (Card → Bool) → Bool
each_card rows rule = list_all (λ (e : ℕ × Card). rule e.1) rows.cards

-- each row has the number that is its key; the numbers are 1 to n, n at most the last number
abbrev pub card_numbers : Rows → Bool
card_numbers rows = list_all (λ (e : ℕ × Card). e.1.number == e.0) rows.cards && count_up 1 (keys_of rows.cards)
    && nat_le (length rows.cards) LAST_NUMBER

-- each card's party has a stay
abbrev pub card_parties_there : Rows → Bool
card_parties_there rows = each_card rows (λ card. is_some (at_number rows.stays card.party))

-- the second of two codes stands at the room, one place after the first
abbrev pub are_neighbours : ℕ → CodeRow → CodeRow → Bool
are_neighbours room first second = (first.room == room) && (second.room == room) && (second.place == first.place + 1)

-- the new code of a link stands at the room, one place after the old one
abbrev pub stands_at : Rows → ℕ → Link → Bool
stands_at rows room link = code_is rows link.old_code (λ old. code_is rows link.new_code (are_neighbours room old))

-- a card's two codes are neighbours at one room
abbrev pub links_are_neighbours : Rows → Bool
links_are_neighbours rows =
    each_card rows (λ card. code_is rows card.link.new_code (λ new. stands_at rows new.room card.link))

-- cards of one link have one party
abbrev pub links_of_one_party : Rows → Bool
links_of_one_party rows = each_card rows (λ card. each_card rows
    (λ other. not (same_link card.link other.link) || (card.party == other.party)))

-- the code is the new code of a card
abbrev pub is_new_code : Rows → ℕ → Bool
is_new_code rows code = list_any (λ (c : ℕ × Card). c.1.link.new_code == code) rows.cards

-- each code but the first of its room and those that fits begin with is the new code of a card
abbrev pub neighbours_are_links : Rows → Bool
neighbours_are_links rows = list_all (λ (e : ℕ × CodeRow). (e.1.place == 0) || begins_fit rows e.1.room e.1.place
    || is_new_code rows e.0) rows.codes

-- no code that a fit begins with is the new code of a card
abbrev pub fits_without_links : Rows → Bool
fits_without_links rows =
    list_all (λ (e : ℕ × CodeRow). not (begins_fit rows e.1.room e.1.place && is_new_code rows e.0)) rows.codes

-- the newest link of a room is this one
abbrev pub is_newest : Rows → ℕ → Link → Bool
is_newest rows room link = said_of (newest_link_at rows room) false (λ newest. same_link newest link)

-- all cards of the room's newest link are this party's
abbrev pub owns_newest : Rows → ℕ → ℕ → Bool
owns_newest rows room party = each_card rows (λ card. not (is_newest rows room card.link) || (card.party == party))

-- cards of a room's newest link have the registered party, where there is one
abbrev pub newest_of_party : Rows → Bool
newest_of_party rows = each_room rows (λ row. said_of row.party true (owns_newest rows row.room))

-- the party has a card, and its last one has the newest link of the room
abbrev pub has_newest : Rows → ℕ → ℕ → Bool
has_newest rows party room = said_of (link_of_last_card rows.cards party) false (is_newest rows room)

-- a party in house has a card, and its last one has the newest link of its room
abbrev pub last_cards_newest : Rows → Bool
last_cards_newest rows = each_stay rows (λ stay. said_of (room_of_state stay.state) true (has_newest rows stay.party))
