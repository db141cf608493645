-- What a script's line comes to.
use Rattle.std.specs.Prelude.{◌≡◌, ◌≤◌, ◌⊎◌, ℕ, true, false, List, [], ◌∷◌, ◌++◌, Option, Some, None, codes, length}
use Rattle.std.specs.Prelude.{Result, Ok, Err}
use Rattle.std.specs.Io.KnownBytes.{Appends}
use Rattle.rand_core.specs.Stream.{Stream}
use Rattle.hotel_model.specs.{declared.command.Command.Command, declared.reply.Reply.Reply, History.History}
use Rattle.hotel_model.specs.{declared.reply.Reply.TheVariants.Refused, declared.reply.Refusal.TheVariants.Memory}
use Rattle.hotel_model.specs.Run.{Steps}
use Rattle.hotel_asks.specs.Asks.{copies}
use Rattle.hotel_books.specs.Books.Failures.{failure_in}
use Rattle.hotel_core.specs.Texts.{reply_text}
use Rattle.hotel_program.specs.Script.Asks.{ask_in}
use Rattle.hotel_streams.specs.{Bytes.AppendsPrefix, declared.calls.WriteFailed.WriteFailed}
use Rattle.hotel_program.specs.Script.ListAnswers.{AnswersList, tells_failure}
use Rattle.hotel_asks.specs.Listings.{listing_over}
use Rattle.keycard_rules.specs.Calls.{Told}
use Rattle.hotel_lists.specs.Listings.{Listing}
use Rattle.hotel_asks.specs.declared.asked.Ask.{Ask}
use Rattle.hotel_asks.specs.declared.asked.Ask.TheVariants as ask
use Rattle.hotel_program.specs.declared.script.line_answers.ScriptAnswer.{ScriptAnswer}
use Rattle.hotel_program.specs.declared.script.line_answers.ScriptAnswer.TheVariants.{Replied, Unread}

-- The answer to a line that is unread.
abbrev pub unread_text : List ℕ
unread_text = codes "unread" ++ 10 ∷ []

-- The text of an answer to a line.
abbrev pub answer_text : ScriptAnswer → List ℕ
answer_text (Replied reply) = reply_text reply
answer_text Unread = unread_text

-- What the calls of a command's line reported, by its reply: as the command's; or none was made, where there was no
-- memory to copy a text of the line.
abbrev pub CommandTold : Command → Reply → Told → Type 0
CommandTold command reply told =
    (told ≡ failure_in reply ∷ []) ⊎ ((reply ≡ Refused Memory) × (copies command ≡ true) × (told ≡ []))

-- What is asked goes with this answer, by calls that reported this: a command is a step that gives the reply of that
-- text; a list is answered, and is the history's where the condition holds of its text; and where nothing is asked the
-- line is unread. Of the last two nothing happens.
abbrev pub AskGoes : (List ℕ → Type 0) → Option Ask → History → Stream → List ℕ → Told → History → Stream → Type 0
AskGoes sure (Some (ask.Command command)) h s text told h' s' = (reply : Reply) × Steps h s command reply h' s'
    × (text ≡ reply_text reply) × CommandTold command reply told
AskGoes sure (Some (ask.List its_list)) h s text told h' s' =
    (listing : Option Listing) × AnswersList listing text told × (sure text → listing ≡ listing_over h its_list)
    × (h' ≡ h) × (s' ≡ s)
AskGoes sure None h s text told h' s' = (text ≡ unread_text) × (told ≡ []) × (h' ≡ h) × (s' ≡ s)

-- A line goes with this answer as what it asks for does.
abbrev pub ScriptLineGoes : (List ℕ → Type 0) → History → Stream → List ℕ → List ℕ → Told → History → Stream → Type 0
ScriptLineGoes sure h s line text told h' s' = AskGoes sure (ask_in line) h s text told h' s'

-- a list whose answer reports no failure asked the books
abbrev pub ListAsked : Option Ask → List ℕ → Told → Type 0
ListAsked (Some (ask.List its_list)) text told = tells_failure text ≡ false → 1 ≤ length told
ListAsked _ text told = Unit {0}

-- What is asked went with an answer that was written so.
abbrev pub AskAnswered : (List ℕ → Type 0) → (List ℕ → Type 0) → Option Ask → Stream → Stream → Told → History
    → History → Type 0
AskAnswered sure written wanted s s' told h h' =
    (text : List ℕ) × AskGoes sure wanted h s text told h' s' × written text

-- what is surely answered: also over books that had failed for good what reports no failure, and the rest where this is
-- so, as that they were kept where the line began
abbrev pub Sure : Type 0 → List ℕ → Type 0
Sure kept text = tells_failure text ≡ true → kept

-- What is asked was answered: the answer was written whole; or a prefix of it, which vouches for nothing.
abbrev pub AskEnds : Option Ask → Stream → Stream → Option (List ℕ) → Option (List ℕ) → Result (Unit {0}) WriteFailed
    → Type 0 → Told → History → History → Type 0
AskEnds wanted s s' old new (Ok done) kept told h h' =
    AskAnswered (Sure kept) (λ text. Appends old new text × ListAsked wanted text told) wanted s s' told h h'
AskEnds wanted s s' old new (Err failed) kept told h h' =
    AskAnswered (λ text. kept) (AppendsPrefix old new) wanted s s' told h h'
