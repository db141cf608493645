-- The link of each party's last card.
use Rattle.std.specs.Prelude.{ℕ, ◌≡◌, List, map, Option, Some, None, option_map}
use Rattle.keycard_rules.specs.declared.card.Link.{Link}
use Rattle.hotel_model.specs.Rows.{at_number, link_of_last_card}
use Rattle.hotel_rows.specs.declared.stored.PlainCard.{PlainCard}
use Rattle.hotel_rows.specs.Keys.{LinkKey}
use Rattle.hotel_rows.specs.Stored.{number_of, card_entry}

-- the codes of a card
abbrev pub link_pair : PlainCard → LinkKey
link_pair plain = (number_of plain.old_code, number_of plain.new_code)

-- two codes as a link
abbrev pub link_of_pair : LinkKey → Link
link_of_pair p = record { old_code = p.0; new_code = p.1 }

-- the map has the link of each party's last card
abbrev pub LastsOf : List (ℕ × LinkKey) → List PlainCard → Type 0
LastsOf lasts plain_rows =
    (party : ℕ) → option_map link_of_pair (at_number lasts party) ≡ link_of_last_card (map card_entry plain_rows) party

-- the link of two codes, where both are there
abbrev pub link_of_both : Option ℕ → Option ℕ → Option Link
link_of_both (Some a) (Some b) = Some (record { old_code = a; new_code = b })
link_of_both (Some a) None = None
link_of_both None o = None
