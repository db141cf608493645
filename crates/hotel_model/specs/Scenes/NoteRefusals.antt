-- The scenario "note-refusals", from the end of "two-entries": conflict, no such card, another link, leaving twice.
use Rattle.std.specs.Prelude.{List, [], ◌∷◌, ◌++◌}
use Rattle.hotel_model.specs.declared.reply.Refusal.TheVariants.{Conflict, NoCard, CardDiffers, NotInside}
use Rattle.hotel_model.specs.Scenes.TwoEntries.{lines as lines_before}
use Rattle.hotel_model.specs.Scenes.Words.{M, a0, a1, a2, entered, left, taken, refused}
use Rattle.hotel_model.specs.Scenes.Lines.{Line, ◌⇒◌, Holds}

abbrev pub lines : List Line
lines =
    lines_before
    ++ (entered 101 1 9 a0 a1 M ⇒ refused Conflict
    ∷ entered 101 3 9 a0 a1 M ⇒ refused NoCard
    ∷ entered 101 3 1 a0 a2 M ⇒ refused CardDiffers
    ∷ left 101 3 1 a0 a1 M ⇒ taken
    ∷ left 101 4 1 a0 a1 M ⇒ refused NotInside ∷ [])

abbrev pub TheScene : Type 0
TheScene = Holds (a0 ∷ a1 ∷ []) a2 lines
