-- The scenario "two-entries": a first entry turns the lock, a second one moves nothing.
use Rattle.std.specs.Prelude.{List, [], ◌∷◌, ◌++◌}
use Rattle.hotel_model.specs.Scenes.Words.{M, a0, a1, a2, entered, taken, passed, held}
use Rattle.hotel_model.specs.Scenes.Lines.{Line, ◌⇒◌, Chain, Holds}
use Rattle.hotel_model.specs.Scenes.Openings.{opened, checked_in}

abbrev pub lines : List Line
lines =
    opened
    ++ checked_in
    ++ (entered 101 1 1 a0 a1 M ⇒ taken
    ∷ entered 101 2 1 a0 a1 M ⇒ taken
    ∷ Chain 101 (passed 0 a0 ∷ held 1 a1 ∷ []) ∷ [])

abbrev pub TheScene : Type 0
TheScene = Holds (a0 ∷ a1 ∷ []) a2 lines
