-- The scenario "lost-card": a party whose card was lost gets one of a new code for its own room; once it has entered,
-- the lost one opens no more.
use Rattle.std.specs.Prelude.{List, [], ◌∷◌, ◌++◌, true, false}
use Rattle.hotel_model.specs.declared.reply.Refusal.TheVariants.{LockShut, NotInHouse}
use Rattle.hotel_model.specs.Scenes.Words.{may, M, a0, a1, a2, ann_lee, spare, reissue, check_out, entered, left, card}
use Rattle.hotel_model.specs.Scenes.Words.{checked_out, taken, refused, house}
use Rattle.hotel_model.specs.Scenes.Lines.{Line, ◌⇒◌, InHouse, Holds}
use Rattle.hotel_model.specs.Scenes.Openings.{opened, checked_in}

abbrev pub lines : List Line
lines =
    opened
    ++ checked_in
    ++ (entered 101 1 1 a0 a1 M ⇒ taken
    ∷ left 101 2 1 a0 a1 M ⇒ taken
    ∷ InHouse (house 101 1 ann_lee (may 3) true ∷ [])
    ∷ reissue 1 ⇒ card 2 1 a1 a2
    ∷ InHouse (house 101 1 ann_lee (may 3) false ∷ [])
    ∷ entered 101 3 1 a0 a1 M ⇒ taken
    ∷ left 101 4 1 a0 a1 M ⇒ taken
    ∷ entered 101 5 2 a1 a2 M ⇒ taken
    ∷ InHouse (house 101 1 ann_lee (may 3) true ∷ [])
    ∷ entered 101 6 1 a0 a1 M ⇒ refused LockShut
    ∷ spare 1 ⇒ card 3 1 a1 a2
    ∷ check_out 1 ⇒ checked_out
    ∷ reissue 1 ⇒ refused NotInHouse ∷ [])

abbrev pub TheScene : Type 0
TheScene = Holds (a0 ∷ a1 ∷ []) a2 lines
