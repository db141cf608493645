-- The scenario "left-behind-recoded": a guest who never entered leaves the lock behind; staff recode it.
use Rattle.std.specs.Prelude.{List, [], ◌∷◌, ◌++◌}
use Rattle.hotel_model.specs.declared.reply.Refusal.TheVariants.{LockShut}
use Rattle.hotel_model.specs.Scenes.Words.{M, a0, a1, a2, entered, recoded, taken, refused, passed, held}
use Rattle.hotel_model.specs.Scenes.Lines.{Line, ◌⇒◌, Chain, LeftBehind, Holds}
use Rattle.hotel_model.specs.Scenes.Openings.{opened, checked_in, next_checked_in}

abbrev pub lines : List Line
lines =
    opened
    ++ checked_in
    ++ next_checked_in
    ++ (entered 101 1 2 a1 a2 M ⇒ refused LockShut
    ∷ LeftBehind (record { room = 101; held = a0; current = a2; awaited = 2 } ∷ [])
    ∷ recoded 101 1 a0 a2 M ⇒ taken
    ∷ entered 101 2 2 a1 a2 M ⇒ taken
    ∷ Chain 101 (passed 0 a0 ∷ passed 1 a1 ∷ held 2 a2 ∷ [])
    ∷ LeftBehind [] ∷ [])

abbrev pub TheScene : Type 0
TheScene = Holds (a0 ∷ a1 ∷ []) a2 lines
