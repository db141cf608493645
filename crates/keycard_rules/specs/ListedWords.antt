-- A generator that gives the words of a list.
use Rattle.std.specs.Prelude.{ℕ, ◌-◌, List, [], ◌∷◌, ◌++◌, length, take, replicate, slice_index}
use Rattle.rand_core.specs.{Stream.Stream, Steps.stream_of, Steps.steps_u64_low}

-- the next word, and the words that are left; the last one stays
abbrev pub next_listed : List ℕ → ℕ × List ℕ
next_listed [] = (0, [])
next_listed (word ∷ []) = (word, word ∷ [])
next_listed (word ∷ next ∷ later) = (word, next ∷ later)

-- what the generator answers from these words on: `next_u64` gives a word, `next_u32` the low half of one
abbrev pub listed_stream : List ℕ → Stream
listed_stream listed = stream_of (steps_u64_low next_listed) listed

-- the last of a list
abbrev pub last_listed : List ℕ → ℕ
last_listed listed = slice_index listed (length listed - 1)

-- the first n words, where the last one is repeated for ever
abbrev pub first_listed : ℕ → List ℕ → List ℕ
first_listed n listed = take n (listed ++ replicate n (last_listed listed))
