-- Which cards there are, and the newest link of a room and of a party.
use Rattle.std.specs.Prelude.{ℕ, Bool, List, Option, Some, None, ◌==◌, ◌&&◌}
use Rattle.std.specs.Ordering.{nat_cmp}
use Rattle.std.specs.BTreeMap.{insert_entry}
use Rattle.keycard_rules.specs.declared.card.Card.{Card}
use Rattle.keycard_rules.specs.declared.card.Link.{Link}
use Rattle.hotel_model.specs.Words.{when}
use Rattle.hotel_model.specs.Rows.{newest_link_at, link_of_last_card}
use Rattle.hotel_model.specs.Event.{Issue, Refitted, Spare}
use Rattle.hotel_model.specs.History.{History, start, ◌▷◌}
use Rattle.hotel_model.specs.Issued.{current}

-- The link that a code makes where it is issued at a room: the room's current code, and the new one.
abbrev pub link_to : History → ℕ → ℕ → Link
link_to h room code = record { old_code = current h room; new_code = code }

-- The newest link of a room is that of the last card with a new code there; after a refit there is none until the next
-- such card.
abbrev pub newest_link : History → ℕ → Option Link
newest_link (start t) r = newest_link_at t r
newest_link (h ▷ Issue party room number code) r = when (room == r) (λ _. Some (link_to h room code)) (newest_link h r)
newest_link (h ▷ Refitted room fit code) r = when (room == r) (λ _. None) (newest_link h r)
newest_link (h ▷ _) r = newest_link h r

-- The link of the card that a party was given last (a spare card has the same one again).
abbrev pub link_of_party : History → ℕ → Option Link
link_of_party (start t) p = link_of_last_card t.cards p
link_of_party (h ▷ Issue party room number code) p =
    when (party == p) (λ _. Some (link_to h room code)) (link_of_party h p)
link_of_party (h ▷ _) p = link_of_party h p

-- Both codes of two links are equal.
abbrev pub same_link : Link → Link → Bool
same_link a b = (a.old_code == b.old_code) && (a.new_code == b.new_code)

-- the card of a number that is made for a party
abbrev pub card_of : ℕ → ℕ → Link → Card
card_of number party link = record { number = number; party = party; link = link }

-- the cards, with a spare one of the party's last link, where it has one
abbrev pub with_spare : ℕ → ℕ → Option Link → List (ℕ × Card) → List (ℕ × Card)
with_spare number party (Some link) all = insert_entry nat_cmp all number (card_of number party link)
with_spare number party None all = all

-- All cards, by number: one with a new code has a new link, a spare card has the link of the party's last one.
abbrev pub cards : History → List (ℕ × Card)
cards (start t) = t.cards
cards (h ▷ Issue party room number code) =
    insert_entry nat_cmp (cards h) number (card_of number party (link_to h room code))
cards (h ▷ Spare party number) = with_spare number party (link_of_party h party) (cards h)
cards (h ▷ _) = cards h
