-- The trees of the nine tables, numbered from 0 on in the order of making; the numbers between are those of the indexes
-- of their UNIQUE columns.
use Rattle.std.specs.Prelude.{ℕ}

abbrev pub meta_tree : ℕ
meta_tree = 0

abbrev pub kind_tree : ℕ
kind_tree = 1

abbrev pub room_tree : ℕ
room_tree = 3

abbrev pub stay_tree : ℕ
stay_tree = 5

abbrev pub code_tree : ℕ
code_tree = 6

abbrev pub card_tree : ℕ
card_tree = 8

abbrev pub inside_tree : ℕ
inside_tree = 9

abbrev pub note_tree : ℕ
note_tree = 11

abbrev pub fit_tree : ℕ
fit_tree = 13
