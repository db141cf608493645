-- Runs: commands one after the other, with their replies and the history that they make.
use Rattle.std.specs.Prelude.{ℕ, ◌≡◌, Bool, true, false, List, [], ◌∷◌, Some, take, drop}
use Rattle.rand_core.specs.Stream.{Stream}
use Rattle.hotel_model.specs.declared.command.Command.{Command}
use Rattle.hotel_model.specs.declared.reply.Reply.{Reply}
use Rattle.hotel_model.specs.declared.reply.Reply.TheVariants as reply
use Rattle.hotel_model.specs.declared.reply.Refusal.TheVariants.{Memory, Store}
use Rattle.hotel_model.specs.Rows.{Rows}
use Rattle.hotel_model.specs.Sound.{IsSound}
use Rattle.hotel_model.specs.History.{History, start, ◌▷◌}
use Rattle.hotel_model.specs.Event.{Event}
use Rattle.hotel_model.specs.Ranges.{InRange}
use Rattle.hotel_model.specs.RowsOf.{rows_of}
use Rattle.keycard_rules.specs.Draw.{words, past, MovedAtMost}
use Rattle.keycard_rules.specs.declared.draw.TheConstants.{MOST_WORDS}
use Rattle.hotel_model.specs.Outcome.{Outcome, grown}
use Rattle.hotel_model.specs.Answer.{answer_to}

-- The history can be reached: it starts with sound rows, each event was accepted after those before it, and the event's
-- values are in their ranges.
abbrev pub Reached : History → Type 0
Reached (start t) = IsSound t
Reached (h ▷ event) = Reached h × (ahead : List ℕ) × (command : Command)
    × ((answer_to h ahead command).happens ≡ Some event) × InRange event

-- The rows stand for a history that can be reached.
abbrev pub StandsFor : History → Rows → Type 0
StandsFor h rows = Reached h × (rows ≡ rows_of h)

-- the answer to a command at a source
abbrev pub answered : History → Stream → Command → Outcome Event
answered h source command = answer_to h (words MOST_WORDS source) command

-- memory or the store failed
abbrev pub is_failed : Reply → Bool
is_failed (reply.Refused Memory) = true
is_failed (reply.Refused Store) = true
is_failed _ = false

-- A failed command: nothing happened, and the source moved by at most the words of its draw. Any other: the answer, its
-- event, and the words that it examined.
abbrev pub StepsIf : Bool → History → Stream → Command → Reply → History → Stream → Type 0
StepsIf true h s command reply h' s' = (h' ≡ h) × MovedAtMost (answered h s command).examined s s'
StepsIf false h s command reply h' s' =
    (reply ≡ (answered h s command).reply) × (h' ≡ grown h (answered h s command).happens)
    × (s' ≡ past (answered h s command).examined s)

-- A command may be given this reply, after which these are the history and the source. Memory or Store may stand in
-- place of any answer.
abbrev pub Steps : History → Stream → Command → Reply → History → Stream → Type 0
Steps h s command reply h' s' = StepsIf (is_failed reply) h s command reply h' s'

-- The replies to commands in order, from a history and a source to those at the end.
abbrev pub Runs : History → Stream → List Command → List Reply → History → Stream → Type 0
Runs h s [] [] h' s' = (h' ≡ h) × (s' ≡ s)
Runs h s (command ∷ commands) (reply ∷ replies) h' s' =
    (mid : History) × (source : Stream) × Steps h s command reply mid source × Runs mid source commands replies h' s'
Runs h s [] (reply ∷ replies) h' s' = ⊥
Runs h s (command ∷ commands) [] h' s' = ⊥

-- what a run without failures comes to
pub record Ran : Type 0 where
  -- the history at its end
  pub history : History
  -- the words that it left in the source
  pub ahead : List ℕ
  -- its replies, in order
  pub replies : List Reply

-- the run, with one more reply before its own
abbrev pub first_reply : Reply → Ran → Ran
first_reply reply ran = record ran { replies = reply ∷ ran.replies }

-- the reply of an outcome, and then the run that comes of it
abbrev pub go_on : Outcome Event → (Outcome Event → Ran) → Ran
go_on outcome later = first_reply outcome.reply (later outcome)

-- The run of commands in which nothing fails, where these are the source's words; each command is given as many of the
-- next as a draw may examine.
abbrev pub run_on : History → List ℕ → List Command → Ran
run_on h ahead [] = record { history = h; ahead = ahead; replies = [] }
run_on h ahead (command ∷ commands) =
    go_on (answer_to h (take MOST_WORDS ahead) command) (λ outcome. run_on (grown h outcome.happens)
    (drop outcome.examined ahead) commands)
