-- Books that stand in a building, and what a call over them promises.
use Rattle.std.specs.Prelude.{◌≡◌}
use Rattle.keycard_rules.specs.declared.kept.Kept.{Ghosts as KeptOf}
use Rattle.hotel_model.specs.{History.History, Rows.Rows, RowsOf.rows_of, Sound.IsSound}
use Rattle.hotel_building.specs.Building.{Step, Building, opened, ◌▸◌, desk}
use Rattle.hotel_building.specs.Calls.{Houses, IsOfDesk, LedOn, NoMoreBad}

-- Books stand in a building: where they are clean, their rows stand for its desk.
abbrev pub StandIn : {S : Type 0} → KeptOf S → (S → Rows) → S → Building → Type 0
StandIn K rows books b = K.is_clean books → rows books ≡ rows_of (desk b)

-- After a call in a building the books stand in one that can be again: in the same building, after steps at its desk
-- alone, in which no other room is bad. And this happened, from the desk before to that after.
abbrev pub EndsIn : Houses → {S : Type 0} → KeptOf S → (S → Rows) → Building → (History → History → Type 0) → S → Type 0
EndsIn houses K rows b went new = (b' : Building) × houses.can_be b' × StandIn K rows new b' × LedOn b b'
    × NoMoreBad b b' × went (desk b) (desk b')

-- This holds of each building that can be, in which the books stood before a call and are honest as it ends.
abbrev pub InBuildings : Houses → {S : Type 0} → KeptOf S → (S → Rows) → S → (Building → Type 0) → S → Type 0
InBuildings houses K rows old holds new = (b : Building) → houses.can_be b → StandIn K rows old b → K.is_honest new
    → holds b

-- A call over books, from the state old to new, stays in buildings where it may be asked.
abbrev pub StaysIn : Houses → {S : Type 0} → KeptOf S → (S → Rows) → S → (Building → Type 0)
    → (History → History → Type 0) → S → Type 0
StaysIn houses K rows old may went new =
    InBuildings houses K rows old (λ b. may b → EndsIn houses K rows b went new) new

-- Books with sound rows stand in the building that opens with them, whose locks stand as the rows say.
abbrev pub OpensSo : {S : Type 0} → Houses → KeptOf S → (S → Rows) → Type 0
OpensSo {S = S} houses K rows = (books : S) → IsSound (rows books)
    → houses.can_be (opened (rows books)) × StandIn K rows books (opened (rows books))

-- Between calls, a step at a door leaves the books in the building after it.
abbrev pub DoorsMove : {S : Type 0} → Houses → KeptOf S → (S → Rows) → Type 0
DoorsMove {S = S} houses K rows = (books : S) (b : Building) (step : Step) → (IsOfDesk step → ⊥)
    → houses.can_be b → houses.may_be_made b step → StandIn K rows books b
    → houses.can_be (b ▸ step) × StandIn K rows books (b ▸ step)
