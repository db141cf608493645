-- The lines of a script.
use Rattle.std.specs.Prelude.{ℕ, ◌==◌, ◌&&◌, Bool, true, not, List, [], ◌∷◌, length, map, filter, if◌then◌else◌, nat_le}
use Rattle.std.specs.Str.{is_utf8}
use Rattle.hotel_program.specs.declared.script.lines.TheConstants.{LINE_LIMIT}
use Rattle.hotel_program.specs.Script.Words.{trimmed_start, with_first}

-- The lines of a script, without the line feeds at their ends. The last one may have none.
unfoldable pub lines : List ℕ → List (List ℕ)
lines [] = []
lines (b ∷ text) = if b == 10 then [] ∷ lines text else with_first b (lines text)

-- A line without one carriage return at its end.
unfoldable pub without_return : List ℕ → List ℕ
without_return [] = []
without_return (b ∷ []) = if b == 13 then [] else b ∷ []
without_return (b ∷ c ∷ rest) = b ∷ without_return (c ∷ rest)

-- A line that gets no answer: it is empty, of spaces alone, or its first other byte is `#`.
abbrev pub is_silent : List ℕ → Bool
is_silent line = is_comment (trimmed_start line) where
  is_comment : List ℕ → Bool
  is_comment [] = true
  is_comment (b ∷ rest) = b == 35

-- The lines of a script that are answered, without their ends.
abbrev pub answered_lines : List ℕ → List (List ℕ)
answered_lines script = filter (λ line. not (is_silent line)) (map without_return (lines script))

-- A line that is read: one that is not too long, and UTF-8.
abbrev pub is_readable : List ℕ → Bool
is_readable line = nat_le (length line) LINE_LIMIT && is_utf8 line
