-- The scenario "recoding-refused", from the end of "late-audit": recodings to a passed code, another room's, the held
-- one; from another.
use Rattle.std.specs.Prelude.{List, [], ◌∷◌, ◌++◌}
use Rattle.hotel_model.specs.declared.reply.Refusal.TheVariants.{HeldDiffers, NotAwaited}
use Rattle.hotel_model.specs.Scenes.LateAudit.{lines as lines_before}
use Rattle.hotel_model.specs.Scenes.Words.{M, a0, a1, a2, b0, DBL, add_room, recoded, room_code, taken, refused}
use Rattle.hotel_model.specs.Scenes.Lines.{Line, ◌⇒◌, Holds}

abbrev pub lines : List Line
lines =
    lines_before
    ++ (add_room 102 DBL ⇒ room_code b0
    ∷ recoded 101 2 a1 a0 M ⇒ refused NotAwaited
    ∷ recoded 101 2 a1 b0 M ⇒ refused NotAwaited
    ∷ recoded 101 2 a1 a1 M ⇒ refused NotAwaited
    ∷ recoded 101 2 a0 a2 M ⇒ refused HeldDiffers
    ∷ recoded 101 2 a1 a2 M ⇒ taken ∷ [])

abbrev pub TheScene : Type 0
TheScene = Holds (a0 ∷ a1 ∷ a2 ∷ []) b0 lines
