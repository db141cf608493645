-- What comes of a command on rows, whichever command it was.
use Rattle.std.specs.Prelude.{ℕ, ◌≡◌, List, Some}
use Rattle.hotel_model.specs.{declared.change.Change.Change, declared.command.Command.Command}
use Rattle.hotel_model.specs.{declared.reply.Reply.Reply, Rows.Rows, Ranges.IsCommand}
use Rattle.hotel_model.specs.{Refinement.OnRows.outcome_on, Outcome.Outcome}

-- This comes of some command on these rows, with some words ahead in the source.
abbrev pub IsOutcome : Rows → Outcome Change → Type 0
IsOutcome rows outcome =
    (ahead : List ℕ) × (command : Command) × IsCommand command × (outcome_on rows ahead command ≡ outcome)

-- This change and this reply come of some command on these rows, after some number of words was examined.
abbrev pub IsAnswered : Rows → Change → Reply → Type 0
IsAnswered rows change reply =
    (examined : ℕ) × IsOutcome rows (record { reply = reply; happens = Some change; examined = examined })
