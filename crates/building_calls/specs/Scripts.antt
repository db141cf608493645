-- Scripts over books that stand in a building.
use Rattle.std.specs.Prelude.{◌≡◌, ℕ, List, map, take, Option, Result, Ok, Err}
use Rattle.rand_core.specs.Stream.{Stream}
use Rattle.keycard_rules.specs.{declared.kept.Kept.Ghosts as KeptOf, Calls.Told}
use Rattle.hotel_model.specs.History.{History}
use Rattle.hotel_books.specs.declared.books.Books.{Ghosts as BooksOf}
use Rattle.hotel_program.specs.declared.script.ScriptEnd.{ScriptEnd}
use Rattle.hotel_program.specs.declared.script.ScriptFault.{ScriptFault}
use Rattle.hotel_program.specs.declared.script.ScriptFault.TheVariants.{Write}
use Rattle.hotel_program.specs.Script.{Asks.ask_in, Lines.answered_lines, ScriptRun.commands_asked}
use Rattle.hotel_program.specs.Script.WholeScript.{IsInput, ScriptAnswered, ScriptCut, ScriptRan}
use Rattle.hotel_building.specs.Building.{Building}
use Rattle.hotel_building.specs.Calls.{Houses, MayRun}
use Rattle.building_calls.specs.Stands.{EndsIn, InBuildings}

-- Each command of a script's lines may be asked in its turn.
abbrev pub MayScript : Houses → Building → Stream → List (List ℕ) → Type 0
MayScript houses b source lines = MayRun houses b source (commands_asked (map ask_in lines))

-- Lines went in a building: if they may be asked, the books stay in buildings, and the lines were answered so.
abbrev pub LinesIn : {S R W : Type 0} → Houses → KeptOf S → BooksOf S → (R → Stream) → S × R × W → List (List ℕ)
    → (Told → History → History → Type 0) → S × R × W → Building → Type 0
LinesIn houses K own words old lines went new b = MayScript houses b (words old.1) lines
    → EndsIn houses K own.rows b (λ h h'. (told : Told) × went told h h') new.0

-- A script ran in a building. It was some script with the bytes that are known. Its lines were answered, or those up to
-- one whose answer was cut short; or it wasn't read whole, and nothing happened. The books are kept as it ends, or not.
abbrev pub RanIn : {S R W : Type 0} → Houses → KeptOf S → BooksOf S → (R → Stream) → (W → Option (List ℕ))
    → Option (List ℕ) → S × R × W → Result ScriptEnd ScriptFault → S × R × W → Building → Type 0
RanIn houses K own words contents known old (Ok end) new b = (script : List ℕ) × IsInput known script
    × LinesIn houses K own words old (answered_lines script) (ScriptAnswered (answered_lines script) (words old.1)
    (words new.1) (contents old.2) (contents new.2) (K.is_clean new.0)) new b
RanIn houses K own words contents known old (Err (Write done)) new b = (script : List ℕ) × IsInput known script
    × LinesIn houses K own words old (take done (answered_lines script)) (ScriptCut (take done (answered_lines script))
    (words old.1) (words new.1) (contents old.2) (contents new.2) (K.is_clean new.0)) new b
RanIn houses K own words contents known old (Err why) new b = new ≡ old

-- What a script promises.
abbrev pub ScriptsStay : {S R W : Type 0} → Houses → KeptOf S → BooksOf S → (R → Stream) → (W → Option (List ℕ))
    → Type 0
ScriptsStay {S = S} {R = R} {W = W} houses K own words contents = (known : Option (List ℕ)) (old new : S × R × W)
    (end : Result ScriptEnd ScriptFault) → ScriptRan K own words contents known old end new
    → InBuildings houses K own.rows old.0 (RanIn houses K own words contents known old end new) new.0
