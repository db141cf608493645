-- The scenario "later-lock": a room has its first lock alone. That lock's notes are taken, and a note of a later lock
-- is refused before its count is looked at.
use Rattle.std.specs.Prelude.{List, [], ◌∷◌, ◌++◌}
use Rattle.hotel_model.specs.declared.reply.Refusal.TheVariants.{NoRoom, NoFit}
use Rattle.hotel_model.specs.Scenes.Words.{M, a0, a1, entered, entered_by, left_by, recoded_by, taken, seen, refused}
use Rattle.hotel_model.specs.Scenes.Lines.{Line, ◌⇒◌, Holds}
use Rattle.hotel_model.specs.Scenes.Openings.{opened, checked_in}

abbrev pub lines : List Line
lines =
    opened
    ++ checked_in
    ++ (entered_by 101 2 1 1 a0 a1 M ⇒ refused NoFit
    ∷ entered_by 101 1 1 1 a0 a1 M ⇒ taken
    ∷ entered 101 1 1 a0 a1 M ⇒ seen
    ∷ entered_by 101 2 1 1 a0 a1 M ⇒ refused NoFit
    ∷ left_by 101 2 3 1 a0 a1 M ⇒ refused NoFit
    ∷ recoded_by 101 99 2 a1 a0 M ⇒ refused NoFit
    ∷ entered_by 102 2 1 1 a0 a1 M ⇒ refused NoRoom
    ∷ left_by 101 1 2 1 a0 a1 M ⇒ taken
    ∷ [])

abbrev pub TheScene : Type 0
TheScene = Holds (a0 ∷ []) a1 lines
