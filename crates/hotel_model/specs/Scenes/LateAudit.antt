-- The scenario "late-audit": a late note of the earlier card moves the lock to its code.
use Rattle.std.specs.Prelude.{List, [], ◌∷◌, ◌++◌, false}
use Rattle.hotel_model.specs.Scenes.Words.{may, M, a0, a1, a2, b0, bo, entered, taken, passed, held, awaited, house}
use Rattle.hotel_model.specs.Scenes.Lines.{Line, ◌⇒◌, InHouse, Chain, Holds}
use Rattle.hotel_model.specs.Scenes.Openings.{opened, checked_in, next_checked_in}

abbrev pub lines : List Line
lines =
    opened
    ++ checked_in
    ++ next_checked_in
    ++ (entered 101 1 1 a0 a1 M ⇒ taken
    ∷ Chain 101 (passed 0 a0 ∷ held 1 a1 ∷ awaited 2 a2 ∷ [])
    ∷ InHouse (house 101 2 bo (may 3) false ∷ []) ∷ [])

abbrev pub TheScene : Type 0
TheScene = Holds (a0 ∷ a1 ∷ a2 ∷ []) b0 lines
