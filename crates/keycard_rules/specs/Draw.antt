-- Drawing a code that was never issued.
use Rattle.std.specs.Prelude.{ℕ, zero, suc, ◌≡◌, ◌≤◌, ◌+◌, ◌/◌, List, [], ◌∷◌, Option, Some, None, Result}
use Rattle.std.specs.Prelude.{Ok, Err, if◌then◌else◌}
use Rattle.rand_core.specs.Stream.{Stream, next_u64}
use Rattle.keycard_rules.specs.Words.{is_one_of}
use Rattle.keycard_rules.specs.declared.draw.DrawFault.{DrawFault}
use Rattle.keycard_rules.specs.declared.draw.TheConstants.{MOST_WORDS}
use Rattle.keycard_rules.specs.declared.draw.DrawFault.TheVariants.{NoFreshCode, Memory, Store}
use Rattle.keycard_rules.specs.declared.issued.LookFault.{LookFault}
use Rattle.keycard_rules.specs.declared.issued.LookFault.TheVariants as look

-- the next n words of a source
unfoldable pub words : ℕ → Stream → List ℕ
words zero source = []
words (suc n) source = (next_u64 source).0 ∷ words n (next_u64 source).1

-- the source after n words
unfoldable pub past : ℕ → Stream → Stream
past zero source = source
past (suc n) source = past n (next_u64 source).1

-- a word's code
abbrev pub code_of : ℕ → ℕ
code_of word = word / 65536

-- what a draw finds: a code, or none, and how many words it examined
pub record Draw : Type 0 where
  pub code : Option ℕ
  pub examined : ℕ

-- the first code of these words that isn't issued
unfoldable pub draw_from : List ℕ → List ℕ → Draw
draw_from issued [] = record { code = None; examined = 0 }
draw_from issued (word ∷ later) =
    let draw : Draw = draw_from issued later in
    if is_one_of (code_of word) issued then record draw { examined = draw.examined + 1 }
    else record { code = Some (code_of word); examined = 1 }

-- the same of the next words of a source, as many as a draw may examine
unfoldable pub drawn : List ℕ → Stream → Draw
drawn issued source = draw_from issued (words MOST_WORDS source)

-- the source has moved by at most n words
abbrev pub MovedAtMost : ℕ → Stream → Stream → Type 0
MovedAtMost n source later = (k : ℕ) × (k ≤ n) × (later ≡ past k source)

-- What a draw answers, and where it leaves the source: the code that is drawn, or none where all are issued.
abbrev pub Draws : List ℕ → Stream → Result ℕ DrawFault → Stream → Type 0
Draws issued source (Ok code) later =
    ((drawn issued source).code ≡ Some code) × (later ≡ past (drawn issued source).examined source)
Draws issued source (Err NoFreshCode) later =
    ((drawn issued source).code ≡ None) × (later ≡ past (drawn issued source).examined source)
Draws issued source (Err Memory) later = MovedAtMost (drawn issued source).examined source later
Draws issued source (Err Store) later = MovedAtMost (drawn issued source).examined source later

-- the look-up's fault that a draw answers, where it answers one
abbrev pub fault_in : Result ℕ DrawFault → Option LookFault
fault_in (Ok code) = None
fault_in (Err NoFreshCode) = None
fault_in (Err Memory) = Some look.Memory
fault_in (Err Store) = Some look.Store
