-- What the books compute on rows, lifted to what the desk answers after a history.
use Rattle.std.specs.Prelude.{ℕ, ◌≡◌, List, option_map}
use Rattle.hotel_model.specs.{declared.change.Change.Change, declared.command.Command.Command, Event.Event}
use Rattle.hotel_model.specs.{Ranges.IsCommand, History.History, History.◌▷◌, RowsOf.rows_of, Outcome.Outcome}
use Rattle.hotel_model.specs.{Answer.answer_to}
use Rattle.hotel_model.specs.{Run.Reached, Refinement.Change.made, Refinement.Fits.Fits, Refinement.ChangeOf.change_of}
use Rattle.hotel_model.specs.Refinement.OnRows.{outcome_on}

-- The outcome, with the change of the books in place of the event.
abbrev pub as_change : History → Outcome Event → Outcome Change
as_change h o = record { reply = o.reply; happens = option_map (change_of h) o.happens; examined = o.examined }

-- What comes of a command on the rows of a history is the answer after that history.
abbrev pub Lifts : History → Command → Type 0
Lifts h command = (ahead : List ℕ) → outcome_on (rows_of h) ahead command ≡ as_change h (answer_to h ahead command)

-- This holds after each history that can be reached.
abbrev pub AnswersLift : Type 0
AnswersLift = (h : History) (command : Command) → Reached h → IsCommand command → Lifts h command

-- The rows after one more event are those that its change makes, and the change fits.
abbrev pub ChangesFit : Type 0
ChangesFit = (h : History) (event : Event) → Reached (h ▷ event)
    → (rows_of (h ▷ event) ≡ made (change_of h event) (rows_of h)) × Fits (change_of h event) (rows_of h)
