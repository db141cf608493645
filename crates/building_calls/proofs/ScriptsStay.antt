-- Scripts over books that stand in a building.
use Rattle.std.proofs.Common.{ℕ, ◌≡◌, true, false, List, [], ◌∷◌, ◌++◌, map, take, Option, Result, Ok, Err}
use Rattle.rand_core.specs.Stream.{Stream}
use Rattle.keycard_rules.specs.{declared.kept.Kept.Ghosts as KeptOf, Calls.Told}
use Rattle.hotel_model.specs.History.{History}
use Rattle.hotel_books.specs.declared.books.Books.{Ghosts as BooksOf}
use Rattle.hotel_program.specs.declared.script.ScriptEnd.{ScriptEnd}
use Rattle.hotel_program.specs.declared.script.ScriptFault.{ScriptFault}
use Rattle.hotel_program.specs.declared.script.ScriptFault.TheVariants.{Read, TooLarge, Memory, Write}
use Rattle.hotel_program.specs.Script.{Asks.ask_in, Lines.answered_lines, LineAnswers.Sure}
use Rattle.hotel_program.specs.Script.ScriptRun.{commands_asked}
use Rattle.hotel_program.specs.Script.WholeScript.{LinesAnswered, LinesCut, ScriptAnswered, ScriptCut, ScriptGoes}
use Rattle.hotel_program.specs.Script.WholeScript.{ScriptRan}
use Rattle.hotel_program.proofs.OfScript.ScriptLemmas.{goes_weaker, scripts_happen}
use Rattle.hotel_program.proofs.OfScript.ScriptRunLemmas.{scripts_run}
use Rattle.hotel_building.specs.Calls.{Houses, MayRun}
use Rattle.building_calls.specs.{Scripts.MayScript, Scripts.RanIn, Scripts.ScriptsStay, Stands.InBuildings}
use Rattle.building_calls.specs.Stands.{StaysIn}
use Rattle.building_calls.proofs.Stays.{Known, LeadsOut, by_calls, stays_by}
use Rattle.building_calls.proofs.CallsStay.{run_out}

never : false ≡ true → ⊥
never e = cc

lines_out : (houses : Houses) → Known houses → (sure : List ℕ → Type 0) (lines texts : List (List ℕ)) (told : Told)
    (s s' : Stream) → LeadsOut houses (λ b. MayRun houses b s (commands_asked (map ask_in lines)))
    (λ h h'. ScriptGoes sure h s lines texts told h' s')
lines_out houses facts sure lines texts told s s' b later ok may reached goes =
    let ran = scripts_run (λ text. false) _ later s s' lines texts told
    (goes_weaker sure (λ text. false ≡ true) lines texts _ later s s' told (λ text e. absurd (never e)) goes) in
    run_out houses facts s s' (commands_asked (map ask_in lines)) ran.0 b later ok may reached ran.2

module _ (houses : Houses) (facts : Known houses) {S R W : Type 0} (K : KeptOf S) (own : BooksOf S) (words : R → Stream)
    (contents : W → Option (List ℕ)) (known : Option (List ℕ)) (old new : S × R × W) where
  abbrev answered_so : List (List ℕ) → History → History → Type 0
  answered_so lines h h' = (told : Told) × ScriptAnswered lines (words old.1) (words new.1) (contents old.2)
      (contents new.2) (K.is_clean new.0) told h h'

  answered_out : (lines : List (List ℕ)) → LeadsOut houses (λ b. MayScript houses b (words old.1) lines)
      (answered_so lines)
  answered_out lines b later ok may reached (told, went) =
      lines_out houses facts (Sure (K.is_clean new.0)) lines went.0 told (words old.1) (words new.1) b later ok may
      reached went.1

  answered_in : (lines : List (List ℕ)) → LinesAnswered K own words contents old lines new
      → StaysIn houses K own.rows old.0 (λ b. MayScript houses b (words old.1) lines) (answered_so lines) new.0
  answered_in lines answered = stays_by houses facts K own.rows _ (answered_so lines) old.0 new.0 (answered_out lines)
      (by_calls K own _ (answered_so lines) old.0 new.0 (λ told h h' went. (told, went))
      ((scripts_happen K own words contents).answered old new lines answered))

  abbrev cut_so : List (List ℕ) → History → History → Type 0
  cut_so lines h h' = (told : Told) × ScriptCut lines (words old.1) (words new.1) (contents old.2) (contents new.2)
      (K.is_clean new.0) told h h'

  cut_out : (lines : List (List ℕ)) → LeadsOut houses (λ b. MayScript houses b (words old.1) lines) (cut_so lines)
  cut_out lines b later ok may reached (told, went) =
      lines_out houses facts (λ text. K.is_clean new.0) lines (went.0 ++ went.1 ∷ []) told (words old.1) (words new.1)
      b later ok may reached went.2

  cut_in : (lines : List (List ℕ)) → LinesCut K own words contents old lines new
      → StaysIn houses K own.rows old.0 (λ b. MayScript houses b (words old.1) lines) (cut_so lines) new.0
  cut_in lines cut = stays_by houses facts K own.rows _ (cut_so lines) old.0 new.0 (cut_out lines)
      (by_calls K own _ (cut_so lines) old.0 new.0 (λ told h h' went. (told, went))
      ((scripts_happen K own words contents).cut old new lines cut))

  ran_in : (end : Result ScriptEnd ScriptFault) → ScriptRan K own words contents known old end new
      → InBuildings houses K own.rows old.0 (RanIn houses K own words contents known old end new) new.0
  ran_in (Ok end) (script, input, many, lines) b ok stands honest =
      (script, input, answered_in (answered_lines script) lines b ok stands honest)
  ran_in (Err (Write done)) (script, input, some, few, lines) b ok stands honest =
      (script, input, cut_in (take done (answered_lines script)) lines b ok stands honest)
  ran_in (Err TooLarge) (same, large) b ok stands honest = same
  ran_in (Err Read) same b ok stands honest = same
  ran_in (Err Memory) same b ok stands honest = same

pub scripts_stay : (houses : Houses) → Known houses → {S R W : Type 0} (K : KeptOf S) (own : BooksOf S)
    (words : R → Stream) (contents : W → Option (List ℕ)) → ScriptsStay houses K own words contents
scripts_stay houses facts K own words contents known old new end ran =
    ran_in houses facts K own words contents known old new end ran
