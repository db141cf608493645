-- The codes that a room's lock has passed, and those that it awaits.
use Rattle.std.specs.Prelude.{ℕ, Bool, List, [], ◌∷◌, ◌++◌, ◌==◌, ◌&&◌, ◌+◌, take, drop}
use Rattle.keycard_rules.specs.declared.card.Link.{Link}
use Rattle.hotel_model.specs.Words.{when, and_last, before, after, without}
use Rattle.hotel_model.specs.Rows.{codes_at, lock_place_of}
use Rattle.hotel_model.specs.Event.{Issue, Refitted, Entered, Recoded}
use Rattle.hotel_model.specs.History.{History, start, ◌▷◌}
use Rattle.hotel_model.specs.Lock.{held}

-- An entry turns the lock where it held the old code of the card's link.
abbrev pub turns : History → ℕ → Link → Bool
turns h room link = held h room == link.old_code

-- The codes that a room's lock hasn't taken yet: a new code is awaited, an entry that turns the lock takes its new code
-- out, a recoding takes out all up to its new code, a refit all.
abbrev pub awaited : History → ℕ → List ℕ
awaited (start t) r = drop (lock_place_of t r + 1) (codes_at t r)
awaited (h ▷ Issue party room number code) r = when (room == r) (and_last code) (awaited h r)
awaited (h ▷ Refitted room fit code) r = when (room == r) (λ _. []) (awaited h r)
awaited (h ▷ Entered room fit count number link at) r =
    when ((room == r) && turns h room link) (without link.new_code) (awaited h r)
awaited (h ▷ Recoded room fit count from to at) r = when (room == r) (after to) (awaited h r)
awaited (h ▷ _) r = awaited h r

-- The codes that a room's lock has passed: an entry that turns the lock passes its old code, a recoding passes the code
-- that was held and each awaited one before its new code, a refit the code that was held and all awaited ones.
abbrev pub passed : History → ℕ → List ℕ
passed (start t) r = take (lock_place_of t r) (codes_at t r)
passed (h ▷ Refitted room fit code) r = when (room == r) (λ codes. codes ++ held h room ∷ awaited h room) (passed h r)
passed (h ▷ Entered room fit count number link at) r =
    when ((room == r) && turns h room link) (and_last link.old_code) (passed h r)
passed (h ▷ Recoded room fit count from to at) r =
    when (room == r) (λ codes. codes ++ from ∷ before to (awaited h r)) (passed h r)
passed (h ▷ _) r = passed h r
