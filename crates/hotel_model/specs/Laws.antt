-- What is proved of the definitions: they are what they say.
use Rattle.std.specs.Prelude.{ℕ, ◌≡◌, ◌≤◌, false, List, [], ◌∷◌, ◌++◌, All, length}
use Rattle.rand_core.specs.Stream.{Stream}
use Rattle.keycard_rules.specs.Draw.{words}
use Rattle.keycard_rules.specs.declared.draw.TheConstants.{MOST_WORDS}
use Rattle.hotel_model.specs.declared.command.Command.{Command}
use Rattle.hotel_model.specs.declared.reply.Reply.{Reply}
use Rattle.hotel_model.specs.Rows.{Rows}
use Rattle.hotel_model.specs.Sound.{IsSound}
use Rattle.hotel_model.specs.History.{History, start}
use Rattle.hotel_model.specs.Ranges.{IsCommand, IsReply}
use Rattle.hotel_model.specs.Run.{Reached, StandsFor, Runs, Ran, run_on, is_failed}

-- Sound rows stand for a history: the start with them.
abbrev pub StartsStand : Type 0
StartsStand = (rows : Rows) → IsSound rows → StandsFor (start rows) rows

-- A run after a run is a run.
abbrev pub RunsJoin : Type 0
RunsJoin = (h mid h' : History) (s source s' : Stream) (commands later : List Command) (replies more : List Reply)
    → Runs h s commands replies mid source
    → Runs mid source later more h' s' → Runs h s (commands ++ later) (replies ++ more) h' s'

-- A run from a history that can be reached ends in one that can be reached, where the commands' and replies' values are
-- in their ranges.
abbrev pub RunsReach : Type 0
RunsReach = (h h' : History) (s s' : Stream) (commands : List Command) (replies : List Reply) → Reached h
    → All IsCommand commands → All IsReply replies → Runs h s commands replies h' s' → Reached h'

-- no reply says that memory or the store failed
abbrev pub NoneFailed : List Reply → Type 0
NoneFailed [] = Unit {0}
NoneFailed (reply ∷ replies) = (is_failed reply ≡ false) × NoneFailed replies

-- A run has come to these rows and this source.
abbrev pub RunsTo : History → Stream → List Command → List Reply → Rows → Stream → Type 0
RunsTo h s commands replies rows s' = (h' : History) × StandsFor h' rows × Runs h s commands replies h' s'

-- Two runs of the same commands in which nothing failed, over whichever books, have the same replies, and come to the
-- same rows and the same source.
abbrev pub RunsAgree : Type 0
RunsAgree = (h : History) (s : Stream) (commands : List Command) (replies replies' : List Reply) (rows rows' : Rows)
    (rest rest' : Stream)
    → NoneFailed replies → NoneFailed replies' → RunsTo h s commands replies rows rest
    → RunsTo h s commands replies' rows' rest'
    → (replies ≡ replies') × (rows ≡ rows') × (rest ≡ rest')

-- What was computed is a run in which nothing failed, to a source whose next words are those that were left.
abbrev pub IsRun : History → Stream → List Command → Ran → Type 0
IsRun h s commands ran = (s' : Stream) × (left : ℕ) × Runs h s commands ran.replies ran.history s'
    × (ran.ahead ≡ words left s') × NoneFailed ran.replies

-- The run that is computed of commands and a source's next words is a run, where at its end as many of these are left
-- as a draw may examine.
abbrev pub RunsCompute : Type 0
RunsCompute = (h : History) (s : Stream) (n : ℕ) (commands : List Command)
    → MOST_WORDS ≤ length (run_on h (words n s) commands).ahead → IsRun h s commands (run_on h (words n s) commands)
