-- Whose the cards of a link are.
use Rattle.std.specs.Prelude.{ℕ, ◌≡◌, Bool, List, [], ◌∷◌, Option, Some, None, if◌then◌else◌}
use Rattle.std.specs.BTreeMap.{is_at}
use Rattle.std.specs.Map.{lookup}
use Rattle.keycard_rules.specs.declared.card.Link.{Link}
use Rattle.hotel_model.specs.Words.{pair_cmp, is_that}
use Rattle.hotel_model.specs.Cards.{same_link}
use Rattle.hotel_rows.specs.declared.stored.PlainCard.{PlainCard}
use Rattle.hotel_rows.specs.Keys.{LinkKey}
use Rattle.hotel_rows.specs.Stored.{number_of, link_row}

-- the party of the first card of a link
abbrev pub owner_in : List PlainCard → Link → Option ℕ
owner_in [] link = None
owner_in (c ∷ cs) link = if same_link (link_row c) link then Some (number_of c.party) else owner_in cs link

-- the map has the party of each link
abbrev pub OwnersOf : List (LinkKey × ℕ) → List PlainCard → Type 0
OwnersOf owners plain_rows = (old new : ℕ) → lookup (is_at (pair_cmp (old, new))) owners ≡ owner_in plain_rows
    (record { old_code = old; new_code = new })

-- the card's party is that of the first card of its link
abbrev pub is_own : List PlainCard → PlainCard → Bool
is_own plain_rows plain = is_that (owner_in plain_rows (link_row plain)) (number_of plain.party)
