-- The scenario "audit-twice": the same notes again are seen.
use Rattle.std.specs.Prelude.{List, [], ◌∷◌, ◌++◌}
use Rattle.hotel_model.specs.Scenes.Words.{M, a0, a1, entered, left, seen}
use Rattle.hotel_model.specs.Scenes.Lines.{Line, ◌⇒◌, Holds}
use Rattle.hotel_model.specs.Scenes.Openings.{opened, checked_in, taken_twice, four_pm}

abbrev pub lines : List Line
lines =
    opened
    ++ checked_in
    ++ taken_twice
    ++ (entered 101 1 1 a0 a1 M ⇒ seen
    ∷ left 101 2 1 a0 a1 four_pm ⇒ seen ∷ [])

abbrev pub TheScene : Type 0
TheScene = Holds (a0 ∷ []) a1 lines
