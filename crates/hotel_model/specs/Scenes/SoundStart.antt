-- A desk that begins with sound rows: a reissue in a secured room with a card inside, a refit of the room that a party
-- left with cards inside, late notes of the lock that it had, and spares after each.
use Rattle.std.specs.Prelude.{List, [], ◌∷◌}
use Rattle.hotel_model.specs.declared.reply.Refusal.TheVariants.{LockShut, NotInside, OldFit}
use Rattle.hotel_model.specs.History.{start}
use Rattle.hotel_model.specs.Scenes.Words.{M, a1, a2, b0, b1, c0, c1, d0, spare, reissue, transfer, refit, check_in}
use Rattle.hotel_model.specs.Scenes.Words.{check_out, entered, left, recoded, entered_by, left_by, taken, seen, card}
use Rattle.hotel_model.specs.Scenes.Words.{lock, checked_out, refused, passed, held}
use Rattle.hotel_model.specs.Scenes.BrokenRows.{rows}
use Rattle.hotel_model.specs.Scenes.Lines.{Line, ◌⇒◌, Chain, source, play, AreAnswered}

abbrev pub lines : List Line
lines =
    spare 9 ⇒ card 11 9 0xf2 0xf3
    ∷ reissue 9 ⇒ card 12 9 0xf3 0x70
    ∷ entered_by 104 2 2 11 0xf2 0xf3 M ⇒ taken
    ∷ entered_by 104 2 3 12 0xf3 0x70 M ⇒ taken
    ∷ transfer 9 103 ⇒ card 13 9 d0 0x71
    ∷ refit 104 ⇒ lock 3 0x72
    ∷ Chain 104 (passed 0 0xf0 ∷ passed 1 0xf1 ∷ passed 2 0xf2 ∷ passed 3 0xf3 ∷ passed 4 0x70 ∷ held 5 0x72 ∷ [])
    ∷ entered 104 1 8 0xf0 0xf1 M ⇒ seen
    ∷ entered_by 104 2 4 12 0xf3 0x70 M ⇒ refused OldFit
    ∷ left_by 104 3 1 12 0xf3 0x70 M ⇒ refused NotInside
    ∷ entered_by 104 3 1 12 0xf3 0x70 M ⇒ refused LockShut
    ∷ spare 9 ⇒ card 14 9 d0 0x71
    ∷ transfer 9 104 ⇒ card 15 9 0x72 0x73
    ∷ spare 9 ⇒ card 16 9 0x72 0x73
    ∷ entered_by 104 3 1 16 0x72 0x73 M ⇒ taken
    ∷ reissue 1 ⇒ card 17 1 a2 0x74
    ∷ entered 101 4 4 a1 a2 M ⇒ taken
    ∷ recoded 101 5 a2 0x74 M ⇒ taken
    ∷ entered 101 6 4 a1 a2 M ⇒ refused LockShut
    ∷ left 101 6 4 a1 a2 M ⇒ taken
    ∷ entered 101 7 17 a2 0x74 M ⇒ taken
    ∷ check_out 9 ⇒ checked_out
    ∷ refit 104 ⇒ lock 4 0x75
    ∷ refit 102 ⇒ lock 2 0x76
    ∷ refit 105 ⇒ lock 4 0x77
    ∷ check_out 3 ⇒ checked_out
    ∷ refit 201 ⇒ lock 2 0x78
    ∷ Chain 201 (passed 0 c0 ∷ passed 1 c1 ∷ held 2 0x78 ∷ [])
    ∷ check_in 5 102 ⇒ card 18 5 0x76 0x79
    ∷ entered_by 102 2 1 3 b0 b1 M ⇒ refused LockShut
    ∷ entered_by 102 2 1 18 0x76 0x79 M ⇒ taken
    ∷ []

abbrev pub TheScene : Type 0
TheScene =
    let codes = 0x70 ∷ 0x71 ∷ 0x72 ∷ 0x73 ∷ 0x74 ∷ 0x75 ∷ 0x76 ∷ 0x77 ∷ 0x78 ∷ [] in
    AreAnswered lines (play (start rows) (source codes 0x79) lines)
