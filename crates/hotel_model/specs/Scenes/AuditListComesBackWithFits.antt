-- The scenario "audit-list-comes-back-with-fits": the list of a room's notes of two locks, by lock and count; each of
-- them sent again, as the list has it, was seen.
use Rattle.std.specs.Prelude.{List, [], ◌∷◌, ◌++◌}
use Rattle.keycard_rules.specs.Note.{Note}
use Rattle.keycard_rules.specs.declared.note.Act.TheVariants as act
use Rattle.hotel_model.specs.declared.reply.Refusal.TheVariants.{OldFit, Gap}
use Rattle.hotel_model.specs.Scenes.Words.{may, M, a0, a1, a2, a3, DBL, bo, link, note}
use Rattle.hotel_model.specs.Scenes.Words.{reserve, check_in, check_out, refit, entered, left, entered_by, left_by}
use Rattle.hotel_model.specs.Scenes.Words.{party, card, checked_out, lock, taken, seen, refused}
use Rattle.hotel_model.specs.Scenes.Lines.{Line, ◌⇒◌, AuditOf, Holds}
use Rattle.hotel_model.specs.Scenes.Openings.{opened, checked_in, taken_twice, four_pm}
use Rattle.hotel_model.specs.Scenes.AuditRoundTrip.{listed}

-- The room gets another lock, and Bo's party, of whose notes the first comes twice.
abbrev pub refitted : List Line
refitted =
    check_out 1 ⇒ checked_out
    ∷ refit 101 ⇒ lock 2 a2
    ∷ reserve DBL (may 1) 2 bo ⇒ party 2
    ∷ check_in 2 101 ⇒ card 2 2 a2 a3
    ∷ entered_by 101 2 1 2 a2 a3 four_pm ⇒ taken
    ∷ entered_by 101 2 1 2 a2 a3 four_pm ⇒ seen
    ∷ left_by 101 2 2 2 a2 a3 four_pm ⇒ taken
    ∷ []

-- the notes of the second lock as listed
abbrev pub later_listed : List Note
later_listed =
    note 101 2 1 (act.Entered 2 (link a2 a3)) four_pm
    ∷ note 101 2 2 (act.Left 2 (link a2 a3)) four_pm
    ∷ []

abbrev pub lines : List Line
lines =
    opened
    ++ checked_in
    ++ taken_twice
    ++ refitted
    ++ (AuditOf 101 (listed ++ later_listed)
    ∷ entered 101 1 1 a0 a1 M ⇒ seen
    ∷ left 101 2 1 a0 a1 four_pm ⇒ seen
    ∷ entered_by 101 2 1 2 a2 a3 four_pm ⇒ seen
    ∷ left_by 101 2 2 2 a2 a3 four_pm ⇒ seen
    ∷ left 101 3 1 a0 a1 four_pm ⇒ refused OldFit
    ∷ left_by 101 2 4 2 a2 a3 four_pm ⇒ refused (Gap 3)
    ∷ [])

abbrev pub TheScene : Type 0
TheScene = Holds (a0 ∷ a1 ∷ a2 ∷ []) a3 lines
