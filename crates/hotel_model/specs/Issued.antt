-- Which codes were issued, and at which room.
use Rattle.std.specs.Prelude.{ℕ, Bool, List, ◌==◌, not, length}
use Rattle.std.specs.Ordering.{nat_cmp}
use Rattle.std.specs.BTreeMap.{insert_entry}
use Rattle.std.specs.Map.{keys_of}
use Rattle.keycard_rules.specs.Words.{is_one_of}
use Rattle.hotel_model.specs.declared.rows.CodeRow.{CodeRow}
use Rattle.hotel_model.specs.Words.{when, and_last, last_of}
use Rattle.hotel_model.specs.Rows.{codes_at}
use Rattle.hotel_model.specs.Event.{Install, Issue, Refitted}
use Rattle.hotel_model.specs.History.{History, start, ◌▷◌}

-- The codes that were issued at a room, in order: a new room, each card with a new code and each refit issue one.
abbrev pub issued : History → ℕ → List ℕ
issued (start t) r = codes_at t r
issued (h ▷ Install room kind code) r = when (room == r) (and_last code) (issued h r)
issued (h ▷ Issue party room number code) r = when (room == r) (and_last code) (issued h r)
issued (h ▷ Refitted room fit code) r = when (room == r) (and_last code) (issued h r)
issued (h ▷ _) r = issued h r

-- The room's current code is the last one that was issued there.
abbrev pub current : History → ℕ → ℕ
current h r = last_of (issued h r)

-- All issued codes, each with its room and its place in the order of issue there.
abbrev pub all_issued : History → List (ℕ × CodeRow)
all_issued (start t) = t.codes
all_issued (h ▷ Install room kind code) =
    insert_entry nat_cmp (all_issued h) code (record { room = room; place = length (issued h room) })
all_issued (h ▷ Issue party room number code) =
    insert_entry nat_cmp (all_issued h) code (record { room = room; place = length (issued h room) })
all_issued (h ▷ Refitted room fit code) =
    insert_entry nat_cmp (all_issued h) code (record { room = room; place = length (issued h room) })
all_issued (h ▷ _) = all_issued h

-- The codes that were issued at any room.
abbrev pub issued_codes : History → List ℕ
issued_codes h = keys_of (all_issued h)

-- A code is fresh where it was issued at no room.
abbrev pub is_fresh : History → ℕ → Bool
is_fresh h code = not (is_one_of code (issued_codes h))
