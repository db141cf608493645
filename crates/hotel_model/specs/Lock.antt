-- The code that each lock holds.
use Rattle.std.specs.Prelude.{ℕ, ◌==◌, drop}
use Rattle.hotel_model.specs.Words.{when}
use Rattle.hotel_model.specs.Rows.{codes_at, lock_place_of, first_of}
use Rattle.hotel_model.specs.Event.{Install, Refitted, Entered, Recoded}
use Rattle.hotel_model.specs.History.{History, start, ◌▷◌}

-- The code that a room's lock holds: its first code, then that of the last entry, recoding or refit there.
abbrev pub held : History → ℕ → ℕ
held (start t) r = first_of (drop (lock_place_of t r) (codes_at t r))
held (h ▷ Install room kind code) r = when (room == r) (λ _. code) (held h r)
held (h ▷ Refitted room fit code) r = when (room == r) (λ _. code) (held h r)
held (h ▷ Entered room fit count number link at) r = when (room == r) (λ _. link.new_code) (held h r)
held (h ▷ Recoded room fit count from to at) r = when (room == r) (λ _. to) (held h r)
held (h ▷ _) r = held h r
