-- The scenario "audit-gap-conflict": a later count leaves a gap; another content of a taken count is a conflict.
use Rattle.std.specs.Prelude.{List, [], ◌∷◌, ◌++◌}
use Rattle.hotel_model.specs.declared.reply.Refusal.TheVariants.{Conflict, Gap}
use Rattle.hotel_model.specs.Scenes.Words.{M, a0, a1, entered, left, taken, refused}
use Rattle.hotel_model.specs.Scenes.Lines.{Line, ◌⇒◌, Holds}
use Rattle.hotel_model.specs.Scenes.Openings.{opened, checked_in, taken_twice}

abbrev pub lines : List Line
lines =
    opened
    ++ checked_in
    ++ taken_twice
    ++ (entered 101 3 1 a0 a1 M ⇒ taken
    ∷ left 101 5 1 a0 a1 M ⇒ refused (Gap 4)
    ∷ entered 101 3 1 a0 a1 (M.0, 54001) ⇒ refused Conflict ∷ [])

abbrev pub TheScene : Type 0
TheScene = Holds (a0 ∷ []) a1 lines
