-- The lock's rule.
use Rattle.std.specs.Prelude.{ℕ, Option, Some, None, if◌then◌else◌, ◌==◌, ◌||◌}
use Rattle.keycard_rules.specs.declared.card.Link.{Link}

-- What a lock that holds a code holds after a card: it opens to the card's new and to its old code, and then holds the
-- new one. Else it stays shut.
abbrev pub turn : ℕ → Link → Option ℕ
turn code link = if (code == link.new_code) || (code == link.old_code) then Some link.new_code else None
