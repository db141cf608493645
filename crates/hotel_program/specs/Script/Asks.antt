-- What a script's line asks for.
use Rattle.std.specs.Prelude.{ℕ, zero, suc, List, [], ◌∷◌, if◌then◌else◌, Option, Some, None}
use Rattle.std.specs.Option.{option_and_then}
use Rattle.hotel_asks.specs.declared.asked.Ask.{Ask}
use Rattle.hotel_asks.specs.declared.verbs.Verb.{Verb}
use Rattle.hotel_asks.specs.declared.verbs.Verb.TheVariants.{Reserve}
use Rattle.hotel_asks.specs.{Asks.accepted, Verbs.read_verb}
use Rattle.hotel_program.specs.Script.Lines.{is_readable}
use Rattle.hotel_program.specs.Script.Words.{words, next_word, trimmed}

-- A word and then what the text after it gives, or nothing where there is no word.
abbrev pub with_word : Option (List ℕ × List ℕ) → (List ℕ → List (List ℕ)) → List (List ℕ)
with_word None later = []
with_word (Some p) later = p.0 ∷ later p.1

-- The first n words of a text and then the rest of it; only its words where they are fewer.
abbrev pub words_and_rest : ℕ → List ℕ → List (List ℕ)
words_and_rest zero text = trimmed text ∷ []
words_and_rest (suc n) text = with_word (next_word text) (λ later. words_and_rest n later)

-- The values that a line has after its verb: its words, but of a reservation three words and the rest of the line,
-- which is the guest.
abbrev pub values_after : Verb → List ℕ → List (List ℕ)
values_after Reserve text = words_and_rest 3 text
values_after _ text = words text

-- What a line's first word, a verb, and the text after it ask for.
abbrev pub ask_from : List ℕ × List ℕ → Option Ask
ask_from (word, text) = option_and_then (λ verb. accepted verb (values_after verb text)) (read_verb word)

-- What a line asks for; nothing where the line is unread.
abbrev pub ask_in : List ℕ → Option Ask
ask_in line = if is_readable line then option_and_then ask_from (next_word line) else None
