-- The verbs of commands and lists.
use Rattle.std.specs.Prelude.{ℕ, Bool, true, false, List, [], ◌∷◌, codes, find, map, Option, option_map}
use Rattle.std.specs.Borrow.{Bor}
use Rattle.std.specs.Str.{bytes_eq}
use Rattle.hotel_asks.specs.declared.verbs.Verb.{Verb}
use Rattle.hotel_asks.specs.declared.verbs.Verb.TheVariants.{Begin, AddKind, AddRoom, Reserve, Cancel, CheckIn, Spare}
use Rattle.hotel_asks.specs.declared.verbs.Verb.TheVariants.{Reissue, Transfer, CheckOut, Refit, NextDay, Entered, Left}
use Rattle.hotel_asks.specs.declared.verbs.Verb.TheVariants.{Recoded, Arrivals, InHouse, ChainOf, LeftBehind, AuditOf}
use Rattle.hotel_asks.specs.declared.verbs.Verb.TheVariants.{BusinessDay, RoomStatus, Inside, Bookings, Availability}
use Rattle.hotel_asks.specs.declared.verbs.Verb.TheVariants.{CardsGiven, CardOf, Locks}

-- The words of the verbs, in the order in which help lists them.
abbrev pub verbs : List (List ℕ × Verb)
verbs =
    (codes "begin", Begin) ∷
    (codes "add-kind", AddKind) ∷
    (codes "add-room", AddRoom) ∷
    (codes "reserve", Reserve) ∷
    (codes "cancel", Cancel) ∷
    (codes "check-in", CheckIn) ∷
    (codes "spare", Spare) ∷
    (codes "reissue", Reissue) ∷
    (codes "transfer", Transfer) ∷
    (codes "check-out", CheckOut) ∷
    (codes "refit", Refit) ∷
    (codes "next-day", NextDay) ∷
    (codes "entered", Entered) ∷
    (codes "left", Left) ∷
    (codes "recoded", Recoded) ∷
    (codes "arrivals", Arrivals) ∷
    (codes "in-house", InHouse) ∷
    (codes "chain", ChainOf) ∷
    (codes "left-behind", LeftBehind) ∷
    (codes "audit-of", AuditOf) ∷
    (codes "business-day", BusinessDay) ∷
    (codes "room-status", RoomStatus) ∷
    (codes "inside", Inside) ∷
    (codes "bookings", Bookings) ∷
    (codes "availability", Availability) ∷
    (codes "cards", CardsGiven) ∷
    (codes "card", CardOf) ∷
    (codes "locks", Locks) ∷
    []

-- A list is wanted.
abbrev pub is_list : Verb → Bool
is_list Arrivals = true
is_list InHouse = true
is_list ChainOf = true
is_list LeftBehind = true
is_list AuditOf = true
is_list BusinessDay = true
is_list RoomStatus = true
is_list Inside = true
is_list Bookings = true
is_list Availability = true
is_list CardsGiven = true
is_list CardOf = true
is_list Locks = true
is_list _ = false

-- Rows of this table as they lie in memory.
abbrev pub texts : List (Bor (List ℕ) × Verb) → List (List ℕ × Verb)
texts rows = map (λ row. (row.0.now, row.1)) rows

-- The verb of the first row with this word.
abbrev pub verb_in : List ℕ → List (List ℕ × Verb) → Option Verb
verb_in word rows = option_map (λ row. row.1) (find (λ row. bytes_eq word row.0) rows)

-- The verb that a word is.
unfoldable pub read_verb : List ℕ → Option Verb
read_verb word = verb_in word verbs
