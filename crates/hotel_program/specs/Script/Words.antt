-- The words of a text: what stands between its spaces.
use Rattle.std.specs.Prelude.{ℕ, ◌-◌, ◌==◌, Bool, false, not, List, [], ◌∷◌, length, take, drop, Option, Some, None}
use Rattle.std.specs.Prelude.{if◌then◌else◌}
use Rattle.std.specs.List.{position_or_len, prefix_len, suffix_len}

-- A text from its first byte that is no space.
unfoldable pub trimmed_start : List ℕ → List ℕ
trimmed_start text = drop (prefix_len (λ b. b == 32) text) text

-- A text without the spaces at its end.
abbrev pub trimmed_end : List ℕ → List ℕ
trimmed_end text = take (length text - suffix_len (λ b. b == 32) text) text

-- A text without the spaces at both ends.
abbrev pub trimmed : List ℕ → List ℕ
trimmed text = trimmed_end (trimmed_start text)

-- The bytes before a text's first space.
unfoldable pub first_word : List ℕ → List ℕ
first_word text = take (position_or_len (λ b. b == 32) text) text

-- A text from its first space on.
unfoldable pub after_word : List ℕ → List ℕ
after_word text = drop (position_or_len (λ b. b == 32) text) text

-- The first word of a text and the text after it, if it has a word.
abbrev pub next_word : List ℕ → Option (List ℕ × List ℕ)
next_word text = word_at (trimmed_start text) where
  word_at : List ℕ → Option (List ℕ × List ℕ)
  word_at from = if length from == 0 then None else Some (first_word from, after_word from)

-- A byte put before the first of some lines or words.
abbrev pub with_first : ℕ → List (List ℕ) → List (List ℕ)
with_first b [] = (b ∷ []) ∷ []
with_first b (text ∷ texts) = (b ∷ text) ∷ texts

-- The text begins with a byte that is no space.
abbrev pub begins_word : List ℕ → Bool
begins_word [] = false
begins_word (b ∷ rest) = not (b == 32)

-- The words of a text, separated by one or more spaces, with spaces at both ends dropped.
unfoldable pub words : List ℕ → List (List ℕ)
words [] = []
words (b ∷ rest) =
    if b == 32 then words rest else (if begins_word rest then with_first b (words rest) else (b ∷ []) ∷ words rest)

-- The words of a text of which the first one, and the text after it, are known.
abbrev pub words_from : Option (List ℕ × List ℕ) → List (List ℕ)
words_from None = []
words_from (Some p) = p.0 ∷ words p.1
