-- A room's codes in order of issue: those that the lock has passed, the one that it holds, and those that it has not
-- seen.
use Rattle.std.specs.Prelude.{◌≡◌, ℕ, ◌==◌, ◌&&◌, ◌||◌, Bool, false, not, List, [], ◌∷◌, ◌++◌, Option, Some, None}
use Rattle.std.specs.Prelude.{Result, Ok, Err, if◌then◌else◌}
use Rattle.std.specs.List.{position_or_len}
use Rattle.keycard_rules.specs.{Words.is_one_of, Words.before, Words.after, declared.card.Link.Link}
use Rattle.keycard_rules.specs.{declared.chain.Turned.Turned, declared.chain.RecodeFault.RecodeFault}
use Rattle.keycard_rules.specs.declared.chain.RecodeFault.TheVariants.{HeldDiffers, NotAwaited}

-- passed, held and awaited codes
pub record Ledger : Type 0 where
  pub passed : List ℕ
  pub held : ℕ
  pub awaited : List ℕ

-- all codes, in order of issue
abbrev pub issued : Ledger → List ℕ
issued ledger = ledger.passed ++ (ledger.held ∷ ledger.awaited)

-- the last of a list that begins with a code
abbrev pub last_from : ℕ → List ℕ → ℕ
last_from code [] = code
last_from code (next ∷ later) = last_from next later

-- the newest code
abbrev pub current : Ledger → ℕ
current ledger = last_from ledger.held ledger.awaited

-- one code, held
abbrev pub installed : ℕ → Ledger
installed code = record { passed = []; held = code; awaited = [] }

-- one more awaited code
abbrev pub with_issued : Ledger → ℕ → Ledger
with_issued ledger code = record ledger { awaited = ledger.awaited ++ (code ∷ []) }

-- the code is the first awaited one
abbrev pub is_next : List ℕ → ℕ → Bool
is_next [] code = false
is_next (next ∷ later) code = next == code

-- the codes after the first
abbrev pub without_first : List ℕ → List ℕ
without_first [] = []
without_first (next ∷ later) = later

-- a card of the link moves the lock on: its old code is held, and its new one is the first awaited
abbrev pub moves_on : Ledger → Link → Bool
moves_on ledger link = (ledger.held == link.old_code) && is_next ledger.awaited link.new_code

-- the codes after the lock has moved on to the first awaited one
abbrev pub moved_on : Ledger → ℕ → Ledger
moved_on ledger code =
    record { passed = ledger.passed ++ (ledger.held ∷ []); held = code; awaited = without_first ledger.awaited }

-- the codes after a card of the link: where its new code is held, nothing moves
abbrev pub entered : Ledger → Link → Ledger
entered ledger link = if ledger.held == link.new_code then ledger
    else (if moves_on ledger link then moved_on ledger link.new_code else ledger)

-- the codes held before and after, where the card opens
abbrev pub turned : Ledger → Link → Option Turned
turned ledger link = if (ledger.held == link.new_code) || moves_on ledger link then Some
    (record { before = ledger.held; after = link.new_code }) else None

-- the first place of a code, or the number of codes
unfoldable pub place_in : List ℕ → ℕ → ℕ
place_in codes code = position_or_len (λ c. c == code) codes

-- what a recoding answers: the first code has to be held, the second one awaited
abbrev pub recode_answer : Ledger → ℕ → ℕ → Result (Unit {0}) RecodeFault
recode_answer ledger from to =
    if not (ledger.held == from) then Err HeldDiffers else (if is_one_of to ledger.awaited then Ok tt
    else Err NotAwaited)

-- the codes after a recoding: the held one and those awaited before the new one are passed
abbrev pub recoded : Ledger → ℕ → Ledger
recoded ledger to = record {
  passed = ledger.passed ++ (ledger.held ∷ before to ledger.awaited);
  held = to;
  awaited = after to ledger.awaited;
}

-- the codes after a new lock with one more code: all earlier ones are passed
abbrev pub refitted : Ledger → ℕ → Ledger
refitted ledger code = record { passed = ledger.passed ++ (ledger.held ∷ ledger.awaited); held = code; awaited = [] }

-- an issue made the link: its codes stand one after the other
abbrev pub IsLinkOf : List ℕ → Link → Type 0
IsLinkOf codes link =
    (earlier : List ℕ) × (later : List ℕ) × (codes ≡ earlier ++ (link.old_code ∷ link.new_code ∷ later))
