-- The scenario "audit-round-trip": a room's notes as its list has them, sent again: each was seen.
use Rattle.std.specs.Prelude.{List, [], ◌∷◌, ◌++◌}
use Rattle.keycard_rules.specs.Note.{Note}
use Rattle.keycard_rules.specs.declared.note.Act.TheVariants as act
use Rattle.hotel_model.specs.Scenes.Words.{M, a0, a1, link, note, entered, left, seen}
use Rattle.hotel_model.specs.Scenes.Lines.{Line, ◌⇒◌, AuditOf, Holds}
use Rattle.hotel_model.specs.Scenes.Openings.{opened, checked_in, taken_twice, four_pm}

-- the notes as listed
abbrev pub listed : List Note
listed = note 101 1 1 (act.Entered 1 (link a0 a1)) M ∷ note 101 1 2 (act.Left 1 (link a0 a1)) four_pm ∷ []

abbrev pub lines : List Line
lines =
    opened
    ++ checked_in
    ++ taken_twice
    ++ (AuditOf 101 listed
    ∷ entered 101 1 1 a0 a1 M ⇒ seen
    ∷ left 101 2 1 a0 a1 four_pm ⇒ seen
    ∷ [])

abbrev pub TheScene : Type 0
TheScene = Holds (a0 ∷ []) a1 lines
