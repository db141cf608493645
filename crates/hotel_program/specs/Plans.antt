-- What the words of a call ask for.
use Rattle.std.specs.Prelude.{◌≡◌, ◌⊎◌, ℕ, List, [], ◌∷◌, Option, Some, None, Result, Ok, Err, codes, if◌then◌else◌}
use Rattle.std.specs.Prelude.{◌++◌, option_map, string_bytes}
use Rattle.std.specs.Option.{ok_or}
use Rattle.std.specs.Str.{bytes_eq}
use Rattle.clap.specs.Words.{Row, Text, first_of}
use Rattle.clap.specs.Kinds.{IsAmong, Kinds}
use Rattle.clap.specs.declared.error.kind.ErrorKind.{ErrorKind}
use Rattle.clap.specs.declared.error.kind.ErrorKind.TheVariants as kind
use Rattle.keycard_rules.specs.Numerals.{number_up_to}
use Rattle.hotel_asks.specs.Asks.{ask_of}
use Rattle.hotel_asks.specs.Names.{name_text, names_of}
use Rattle.keycard_rules.specs.Results.{◌>>=◌}
use Rattle.hotel_asks.specs.Verbs.{read_verb}
use Rattle.hotel_asks.specs.declared.asked.Ask.{Ask}
use Rattle.hotel_asks.specs.declared.asked.Ask.TheVariants as ask
use Rattle.hotel_asks.specs.declared.values.ValueFault.{ValueFault}
use Rattle.hotel_asks.specs.declared.values.ValueFault.TheVariants as fault
use Rattle.hotel_asks.specs.declared.values.ValueName.{ValueName}
use Rattle.hotel_asks.specs.declared.values.ValueName.TheVariants.{File, Port, Count}
use Rattle.hotel_asks.specs.declared.verbs.Verb.{Verb}
use Rattle.hotel_program.specs.declared.command_line.parse.TheConstants.{MOST_CONNECTIONS, MOST_PORT}
use Rattle.hotel_program.specs.declared.command_line.plan.DeskAct.{DeskAct}
use Rattle.hotel_program.specs.declared.command_line.plan.DeskAct.TheVariants.{One, List as AList, Audit, Script, Serve}
use Rattle.hotel_program.specs.declared.command_line.plan.UsageFault.{UsageFault}
use Rattle.hotel_program.specs.declared.command_line.plan.UsageFault.TheVariants.{Shown, Usage, Value, Memory}

-- The text that was given for a value.
abbrev pub text_value : List Row → ValueName → Result Text ValueFault
text_value rows name = ok_or (first_of (name_text name) rows) (fault.Value name)

-- The texts that were given for values, in their order.
abbrev pub texts_in : List Row → List ValueName → Result (List Text) ValueFault
texts_in rows [] = Ok []
texts_in rows (name ∷ names) = do
  text ← text_value rows name
  texts ← texts_in rows names
  Ok (text ∷ texts)

-- A number from 1 on, as the value of that name.
abbrev pub number_in : ℕ → ValueName → Text → Result ℕ ValueFault
number_in most name text = ok_or (number_up_to most text) (fault.Value name)

-- What is asked is one command or a list.
abbrev pub act_asked : Ask → DeskAct
act_asked (ask.Command command) = One command
act_asked (ask.List its_list) = AList its_list

-- A subcommand that is a verb.
abbrev pub verb_act : Verb → List Row → Result DeskAct ValueFault
verb_act verb rows = do
  texts ← texts_in rows (names_of verb)
  asked ← ask_of verb texts
  Ok (act_asked asked)

-- The port and how many connections.
abbrev pub serve_act : List Row → Result DeskAct ValueFault
serve_act rows = do
  port_text ← text_value rows Port
  port ← number_in MOST_PORT Port port_text
  count_text ← text_value rows Count
  count ← number_in MOST_CONNECTIONS Count count_text
  Ok (Serve port count)

-- A subcommand that is no verb.
abbrev pub own_act : Text → List Row → Result DeskAct ValueFault
own_act name rows =
    if bytes_eq name (codes "audit") then (do
      file ← text_value rows File
      Ok (Audit file))
    else (if bytes_eq name (codes "serve") then serve_act rows else Ok Script)

-- A subcommand, where the verb that its name is was looked for.
abbrev pub act_by : Option Verb → Text → List Row → Result DeskAct ValueFault
act_by (Some verb) name rows = verb_act verb rows
act_by None name rows = own_act name rows

-- What a subcommand asks for, its values read from left to right.
abbrev pub desk_act : Text → List Row → Result DeskAct ValueFault
desk_act name rows = act_by (read_verb name) name rows

-- What the subcommand asks for, if there is one.
abbrev pub act_in : Option (Text × List Row) → Option (Result DeskAct ValueFault)
act_in = option_map (λ p. desk_act p.0 p.1)

-- A reading is as wanted, in the words of contracts, or there was no memory for it.
abbrev pub IsRead : {A B : Type 0} → (B → A) → Result A ValueFault → Result B UsageFault → Type 0
IsRead of wanted (Ok b) = wanted ≡ Ok (of b)
IsRead of wanted (Err (Value name)) = wanted ≡ Err (fault.Value name)
IsRead of wanted (Err Memory) = Unit {0}
IsRead of wanted (Err (Shown text)) = ⊥
IsRead of wanted (Err (Usage text)) = ⊥

-- The value that a fault names, if it names one.
abbrev pub refused_value : UsageFault → Option ValueName
refused_value (Value name) = Some name
refused_value Memory = None
refused_value (Shown text) = None
refused_value (Usage text) = None

-- A value that the fault names is the first that its reader refuses.
abbrev pub IsRefusalOf : Option (Result DeskAct ValueFault) → UsageFault → Type 0
IsRefusalOf wanted why = (name : ValueName) → refused_value why ≡ Some name → wanted ≡ Some (Err (fault.Value name))

-- A value was refused, or there was no memory.
abbrev pub IsValueOrMemory : UsageFault → Type 0
IsValueOrMemory (Value name) = Unit {0}
IsValueOrMemory Memory = Unit {0}
IsValueOrMemory (Shown text) = ⊥
IsValueOrMemory (Usage text) = ⊥

-- What is asked for and shown: help, or the version.
abbrev pub IsShown : ErrorKind → Type 0
IsShown why = (why ≡ kind.DisplayHelp) ⊎ (why ≡ kind.DisplayVersion)

-- Words of this kind aren't those of the command line.
abbrev pub IsWrong : ErrorKind → Type 0
IsWrong why = (IsShown why → ⊥) × (why ≡ kind.OutOfMemory → ⊥)

-- The fault that an error of a kind is, where there is memory for its text.
abbrev pub IsOf : ErrorKind → UsageFault → Type 0
IsOf why (Shown text) = IsShown why
IsOf why (Usage text) = IsWrong why
IsOf why (Value name) = ⊥
IsOf why Memory = Unit {0}

-- Among the kinds of faults there is one that is so.
abbrev pub HasOne : (ErrorKind → Type 0) → Kinds → Type 0
HasOne is_so kinds = (why : ErrorKind) × IsAmong why kinds × is_so why

-- These are the kinds of faults that the words have by the definition of `clap`, and the fault is of one of them; a
-- value is refused of words that have none, and lack of memory comes of any.
abbrev pub IsToldBy : Kinds → UsageFault → Type 0
IsToldBy kinds (Shown text) = HasOne IsShown kinds
IsToldBy kinds (Usage text) = HasOne IsWrong kinds
IsToldBy kinds (Value name) = kinds ≡ []
IsToldBy kinds Memory = Unit {0}

-- What a fault of the words prints.
abbrev pub usage_text : UsageFault → List ℕ
usage_text (Shown text) = string_bytes text
usage_text (Usage text) = string_bytes text
usage_text (Value name) = codes "unread " ++ name_text name
usage_text Memory = codes "memory"
