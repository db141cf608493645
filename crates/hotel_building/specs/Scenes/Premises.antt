-- What goes wrong without each premise of a building: what happened before can be, and after a step without the premise
-- what is promised doesn't hold.
use Rattle.std.specs.Prelude.{ℕ, List, [], ◌∷◌, ◌++◌, true, false}
use Rattle.keycard_rules.specs.declared.note.Act.TheVariants.{Entered}
use Rattle.hotel_model.specs.declared.reply.Refusal.TheVariants.{Gap, NoCard, NotAwaited, NotInside, OldFit}
use Rattle.hotel_model.specs.Scenes.Words.{may, M, a0, a1, a2, a3, DBL, bo, reserve, check_in, check_out, refit, party}
use Rattle.hotel_model.specs.Scenes.Words.{card, card_of, checked_out, entered, left, link, lock, note, recoded}
use Rattle.hotel_model.specs.Scenes.Words.{refused, taken}
use Rattle.hotel_building.specs.Building.{Door}
use Rattle.hotel_building.specs.Scenes.Lines.{Line, ◌⇒◌, Shows, Goes, Sets, Tells, Says, IsSo, Breaks, Forges, IsNeeded}
use Rattle.hotel_building.specs.Scenes.LateLog.{opening}

-- a door of the room 101 without unread notes: its lock's number, the code that it holds, its notes, the cards inside
abbrev pub door_of : ℕ → ℕ → ℕ → List ℕ → Door
door_of fit code made cards = record {
  lock = record { room = 101; fit = fit; held = code; made = made };
  unread = [];
  inside = cards;
  slipped = [];
}

-- the scene over an empty desk, where the source gives these codes
abbrev pub Breaks101 : List Line → List Line → List Line → Type 0
Breaks101 before step later = IsNeeded (a0 ∷ a1 ∷ []) a2 (opening ++ before) step later

-- Cards aren't copied or changed. A card with Ann's codes and a number that the desk never gave opens her door; the
-- desk refuses the lock's note, and its later ones.
abbrev pub CopiedCard : Type 0
CopiedCard = Breaks101 []
    (Shows 101 (card_of 9 1 a0 a1) true ∷ [])
    (entered 101 1 9 a0 a1 M ⇒ refused NoCard ∷ entered 101 2 1 a0 a1 M ⇒ refused (Gap 1) ∷ [])

-- A lock notes an exit only of a card whose entry it noted.
abbrev pub ExitWithoutEntry : Type 0
ExitWithoutEntry = Breaks101 []
    (Goes 101 (card_of 1 1 a0 a1) ∷ [])
    (left 101 1 1 a0 a1 M ⇒ refused NotInside ∷ entered 101 2 1 a0 a1 M ⇒ refused (Gap 1) ∷ [])

-- Staff set a lock only to a code that is awaited, or to the one that it holds.
abbrev pub SetToAnyCode : Type 0
SetToAnyCode = Breaks101 []
    (Sets 101 a3 ∷ [])
    (recoded 101 1 a0 a3 M ⇒ refused NotAwaited ∷ IsSo 101 a3 1 [] ∷ [])

-- A lock is replaced only with no card inside. Ann stays in her room as its lock is replaced: she is inside, and counts
-- as gone.
abbrev pub ReplacedWithSomebodyInside : Type 0
ReplacedWithSomebodyInside = Breaks101
    (Shows 101 (card_of 1 1 a0 a1) true ∷ Tells 101 taken ∷ check_out 1 ⇒ checked_out ∷ [])
    (refit 101 ⇒ lock 2 a2 ∷ [])
    (Says 101 a2 [] [] false ∷ IsSo 101 a2 0 (1 ∷ []) ∷ [])

-- Nobody brings a card in unread. Ann comes in behind Bo, who has her room now: the room is called secured.
abbrev pub EntersUnread : Type 0
EntersUnread = Breaks101
    (Shows 101 (card_of 1 1 a0 a1) true
    ∷ Goes 101 (card_of 1 1 a0 a1)
    ∷ check_out 1 ⇒ checked_out
    ∷ reserve DBL (may 1) 2 bo ⇒ party 2
    ∷ check_in 2 101 ⇒ card 2 2 a1 a2
    ∷ Shows 101 (card_of 2 2 a1 a2) true
    ∷ Tells 101 taken
    ∷ Tells 101 taken
    ∷ Tells 101 taken
    ∷ [])
    (Breaks 101 (door_of 1 a2 3 (1 ∷ 2 ∷ [])) ∷ [])
    (Says 101 a2 [] (2 ∷ []) true ∷ IsSo 101 a2 0 (1 ∷ 2 ∷ []) ∷ [])

-- Notes aren't forged. The desk takes a note that Ann entered, and calls her room secured; its lock holds the code from
-- before.
abbrev pub ForgedNote : Type 0
ForgedNote = Breaks101 []
    (Forges (note 101 1 1 (Entered 1 (link a0 a1)) M) ∷ [])
    (Says 101 a1 [] (1 ∷ []) true ∷ IsSo 101 a0 0 [] ∷ [])

-- A lock is in its door when the desk refits the room. The lock from before is still in it: the card from before opens
-- it, though no code is awaited, and the desk refuses its note.
abbrev pub LockElsewhere : Type 0
LockElsewhere = Breaks101
    (check_out 1 ⇒ checked_out ∷ refit 101 ⇒ lock 2 a2 ∷ Says 101 a2 [] [] false ∷ [])
    (Breaks 101 (door_of 1 a0 0 []) ∷ [])
    (Shows 101 (card_of 1 1 a0 a1) true ∷ entered 101 1 1 a0 a1 M ⇒ refused OldFit ∷ [])

-- Locks stand at the opening as the rows say. A backup is restored, from before Ann's first entry: the desk refuses the
-- note of her next one.
abbrev pub RestoredBackup : Type 0
RestoredBackup = Breaks101 []
    (Breaks 101 (door_of 1 a1 1 (1 ∷ [])) ∷ [])
    (Shows 101 (card_of 1 1 a0 a1) true ∷ entered 101 2 1 a0 a1 M ⇒ refused (Gap 1) ∷ [])
