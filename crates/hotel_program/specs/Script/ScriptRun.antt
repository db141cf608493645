-- A script as a run of its commands.
use Rattle.std.specs.Prelude.{◌≡◌, ℕ, Bool, true, List, [], ◌∷◌, ◌++◌, map, Option, Some, None}
use Rattle.rand_core.specs.Stream.{Stream}
use Rattle.hotel_model.specs.declared.command.Command.{Command}
use Rattle.hotel_model.specs.declared.reply.Reply.{Reply}
use Rattle.hotel_model.specs.History.{History}
use Rattle.hotel_model.specs.Run.{Runs}
use Rattle.keycard_rules.specs.Calls.{Told}
use Rattle.hotel_core.specs.Texts.{reply_text}
use Rattle.hotel_program.specs.Script.Asks.{ask_in}
use Rattle.hotel_asks.specs.declared.asked.Ask.{Ask}
use Rattle.hotel_asks.specs.declared.asked.Ask.TheVariants as ask
use Rattle.hotel_asks.specs.declared.asked.ListAsk.{ListAsk}
use Rattle.hotel_program.specs.Script.LineAnswers.{CommandTold, unread_text}
use Rattle.hotel_program.specs.Script.ListAnswers.{AnswersList}
use Rattle.hotel_lists.specs.Listings.{Listing}
use Rattle.hotel_asks.specs.Listings.{listing_over}
use Rattle.hotel_program.specs.Script.WholeScript.{ScriptGoes}

-- The commands among what lines ask for.
abbrev pub commands_asked : List (Option Ask) → List Command
commands_asked [] = []
commands_asked (None ∷ later) = commands_asked later
commands_asked (Some (ask.Command command) ∷ later) = command ∷ commands_asked later
commands_asked (Some (ask.List its_list) ∷ later) = commands_asked later

-- The answers of lines whose commands are given these replies, and whose lists these answers, in order.
abbrev pub answer_texts : List (Option Ask) → List Reply → List (List ℕ × Told) → List (List ℕ)
answer_texts [] replies lists = []
answer_texts (None ∷ later) replies lists = unread_text ∷ answer_texts later replies lists
answer_texts (Some (ask.Command command) ∷ later) [] lists = []
answer_texts (Some (ask.Command command) ∷ later) (reply ∷ replies) lists =
    reply_text reply ∷ answer_texts later replies lists
answer_texts (Some (ask.List its_list) ∷ later) replies [] = []
answer_texts (Some (ask.List its_list) ∷ later) replies (answer ∷ lists) = answer.0 ∷ answer_texts later replies lists

-- What the calls reported where these are the replies and the lists' answers, in order.
abbrev pub ToldIn : List (Option Ask) → List Reply → List (List ℕ × Told) → Told → Type 0
ToldIn [] replies lists told = told ≡ []
ToldIn (None ∷ later) replies lists told = ToldIn later replies lists told
ToldIn (Some (ask.Command command) ∷ later) [] lists told = told ≡ []
ToldIn (Some (ask.Command command) ∷ later) (reply ∷ replies) lists told =
    (first more : Told) × CommandTold command reply first × ToldIn later replies lists more × (told ≡ first ++ more)
ToldIn (Some (ask.List its_list) ∷ later) replies [] told = told ≡ []
ToldIn (Some (ask.List its_list) ∷ later) replies (answer ∷ lists) told =
    (more : Told) × ToldIn later replies lists more × (told ≡ answer.1 ++ more)

-- The commands of lines are a run, and the answers and what was reported are those of its replies and of the lists'
-- answers.
abbrev pub LinesRun : History → Stream → List (List ℕ) → List (List ℕ) → Told → History → Stream → Type 0
LinesRun h s lines texts told h' s' =
    (replies : List Reply) × (lists : List (List ℕ × Told))
    × Runs h s (commands_asked (map ask_in lines)) replies h' s'
    × (texts ≡ answer_texts (map ask_in lines) replies lists) × ToldIn (map ask_in lines) replies lists told

-- The lines of a script are a run of their commands, whatever test of the texts says which lists are surely answered.
abbrev pub ScriptsRun : Type 0
ScriptsRun =
    (sure : List ℕ → Bool) (h h' : History) (s s' : Stream) (lines texts : List (List ℕ)) (told : Told)
    → ScriptGoes (λ text. sure text ≡ true) h s lines texts told h' s' → LinesRun h s lines texts told h' s'

-- Where a line asks for a list, the lines before it are a run to some history, the list that is answered is that
-- history's where that is sure, and the lines after it are a run from there.
abbrev pub ListsBetween : Type 0
ListsBetween = (sure : List ℕ → Bool) (h h' : History) (s s' : Stream) (before later : List (List ℕ)) (line : List ℕ)
    (its_list : ListAsk) (texts : List (List ℕ)) (told : Told)
    → ScriptGoes (λ text. sure text ≡ true) h s (before ++ line ∷ later) texts told h' s'
    → ask_in line ≡ Some (ask.List its_list)
    → (mid : History) × (source : Stream) × (first : List (List ℕ)) × (text : List ℕ) × (rest : List (List ℕ))
    × (told_first told_text told_rest : Told)
    × LinesRun h s before first told_first mid source
    × (listing : Option Listing) × AnswersList listing text told_text
    × (sure text ≡ true → listing ≡ listing_over mid its_list)
    × LinesRun mid source later rest told_rest h' s'
    × (texts ≡ first ++ text ∷ rest) × (told ≡ told_first ++ told_text ++ told_rest)
