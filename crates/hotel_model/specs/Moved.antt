-- What a note moved: exactly the codes that it records.
use Rattle.std.specs.Prelude.{ℕ, ◌≡◌, ◌==◌, true, false, List, [], ◌∷◌, ◌++◌}
use Rattle.keycard_rules.specs.Chain.{Ledger}
use Rattle.keycard_rules.specs.declared.card.Link.{Link}
use Rattle.hotel_model.specs.Event.{Event, Entered, Left, Recoded}
use Rattle.hotel_model.specs.History.{History, start, ◌▷◌}
use Rattle.hotel_model.specs.Lock.{held}
use Rattle.hotel_model.specs.Ledger.{passed, awaited, turns}

-- A room's codes after a history: those that its lock passed, the one that it holds, and those that it awaits.
abbrev pub ledger : History → ℕ → Ledger
ledger h r = record { passed = passed h r; held = held h r; awaited = awaited h r }

-- No code of a room moved.
abbrev pub Stands : History → History → ℕ → Type 0
Stands h h' r = ledger h' r ≡ ledger h r

-- No code moved at other rooms than this one.
abbrev pub OthersStand : History → History → ℕ → Type 0
OthersStand h h' room = (r : ℕ) → (room == r) ≡ false → Stands h h' r

-- An entry by a link moved its two codes where the lock held the old one: this passed, and the new one, which was
-- awaited first, is held. Else the lock held the new one, and no code moved.
abbrev pub EntryMoves : History → History → ℕ → Link → Type 0
EntryMoves h h' room link =
    (turns h room link ≡ true → (later : List ℕ)
    × (ledger h room ≡ record { passed = passed h room; held = link.old_code; awaited = link.new_code ∷ later })
    × (ledger h' room ≡ record { passed = passed h room ++ link.old_code ∷ []; held = link.new_code; awaited = later }))
    × (turns h room link ≡ false → (held h room ≡ link.new_code) × Stands h h' room)

-- A recoding moved the codes from the one up to the other: the one, which was held, and those awaited between them
-- passed, and the other is held.
abbrev pub RecodingMoves : History → History → ℕ → ℕ → ℕ → Type 0
RecodingMoves h h' room from to = (between : List ℕ) × (later : List ℕ)
    × (ledger h room ≡ record { passed = passed h room; held = from; awaited = between ++ to ∷ later })
    × (ledger h' room ≡ record { passed = passed h room ++ from ∷ between; held = to; awaited = later })

-- What the event of a note moved between the history before it and the one after it; of a card that left, nothing.
abbrev pub Moves : Event → History → History → Type 0
Moves (Entered room fit count number link at) h h' = EntryMoves h h' room link × OthersStand h h' room
Moves (Left room fit count number link at) h h' = (r : ℕ) → Stands h h' r
Moves (Recoded room fit count from to at) h h' = RecodingMoves h h' room from to × OthersStand h h' room
Moves _ h h' = Unit {0}

-- Each note moved exactly the codes that it records.
abbrev pub NotesMove : History → Type 0
NotesMove (start t) = Unit {0}
NotesMove (h ▷ event) = NotesMove h × Moves event h (h ▷ event)
