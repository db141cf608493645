-- The scenario "next-guest", from the end of "two-entries": after the next guest's entry the earlier card opens
-- nothing.
use Rattle.std.specs.Prelude.{List, [], ◌∷◌, ◌++◌}
use Rattle.hotel_model.specs.declared.reply.Refusal.TheVariants.{LockShut}
use Rattle.hotel_model.specs.Scenes.TwoEntries.{lines as lines_before}
use Rattle.hotel_model.specs.Scenes.Words.{M, a0, a1, a2, entered, left, taken, refused}
use Rattle.hotel_model.specs.Scenes.Lines.{Line, ◌⇒◌, Holds}
use Rattle.hotel_model.specs.Scenes.Openings.{next_checked_in}

abbrev pub lines : List Line
lines =
    lines_before
    ++ (left 101 3 1 a0 a1 M ⇒ taken ∷ [])
    ++ next_checked_in
    ++ (entered 101 4 2 a1 a2 M ⇒ taken
    ∷ entered 101 5 1 a0 a1 M ⇒ refused LockShut ∷ [])

abbrev pub TheScene : Type 0
TheScene = Holds (a0 ∷ a1 ∷ []) a2 lines
