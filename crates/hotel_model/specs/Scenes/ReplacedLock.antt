-- The scenario "replaced-lock": a refit, and notes of both locks.
use Rattle.std.specs.Prelude.{List, [], ◌∷◌, ◌++◌, true}
use Rattle.hotel_model.specs.declared.reply.Refusal.TheVariants.{RoomTaken, OldFit, NoFit, Gap}
use Rattle.hotel_model.specs.Scenes.Words.{may, M, a0, a1, a2, a3, DBL, bo, reserve, check_in, check_out, refit}
use Rattle.hotel_model.specs.Scenes.Words.{entered, entered_by, taken, seen, card, party, lock, checked_out, refused}
use Rattle.hotel_model.specs.Scenes.Words.{passed, held, house}
use Rattle.hotel_model.specs.Scenes.Lines.{Line, ◌⇒◌, InHouse, Chain, Holds}
use Rattle.hotel_model.specs.Scenes.Openings.{opened, checked_in}

abbrev pub lines : List Line
lines =
    opened
    ++ checked_in
    ++ (entered 101 1 1 a0 a1 M ⇒ taken
    ∷ refit 101 ⇒ refused RoomTaken
    ∷ check_out 1 ⇒ checked_out
    ∷ refit 101 ⇒ lock 2 a2
    ∷ Chain 101 (passed 0 a0 ∷ passed 1 a1 ∷ held 2 a2 ∷ [])
    ∷ reserve DBL (may 1) 2 bo ⇒ party 2
    ∷ check_in 2 101 ⇒ card 2 2 a2 a3
    ∷ entered_by 101 2 1 2 a2 a3 M ⇒ taken
    ∷ InHouse (house 101 2 bo (may 3) true ∷ [])
    ∷ entered 101 1 1 a0 a1 M ⇒ seen
    ∷ entered 101 2 1 a0 a1 M ⇒ refused OldFit
    ∷ entered_by 101 3 1 2 a2 a3 M ⇒ refused NoFit
    ∷ entered_by 101 2 3 2 a2 a3 M ⇒ refused (Gap 2)
    ∷ [])

abbrev pub TheScene : Type 0
TheScene = Holds (a0 ∷ a1 ∷ a2 ∷ []) a3 lines
