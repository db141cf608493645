-- A refit of a room whose code is awaited holds the fresh code, and the earlier card opens the new lock no more.
use Rattle.std.specs.Prelude.{List, [], ◌∷◌, ◌++◌}
use Rattle.hotel_model.specs.declared.reply.Refusal.TheVariants.{LockShut}
use Rattle.hotel_model.specs.Scenes.Words.{may, M, a0, a1, a2, a3, DBL, bo, reserve, check_in, check_out, refit}
use Rattle.hotel_model.specs.Scenes.Words.{entered_by, card, party, lock, checked_out, refused, passed, held}
use Rattle.hotel_model.specs.Scenes.Lines.{Line, ◌⇒◌, Chain, LeftBehind, Holds}
use Rattle.hotel_model.specs.Scenes.Openings.{opened, checked_in}

abbrev pub lines : List Line
lines =
    opened
    ++ checked_in
    ++ (check_out 1 ⇒ checked_out
    ∷ refit 101 ⇒ lock 2 a2
    ∷ Chain 101 (passed 0 a0 ∷ passed 1 a1 ∷ held 2 a2 ∷ [])
    ∷ LeftBehind []
    ∷ entered_by 101 2 1 1 a0 a1 M ⇒ refused LockShut
    ∷ reserve DBL (may 1) 2 bo ⇒ party 2
    ∷ check_in 2 101 ⇒ card 2 2 a2 a3
    ∷ [])

abbrev pub TheScene : Type 0
TheScene = Holds (a0 ∷ a1 ∷ a2 ∷ []) a3 lines
