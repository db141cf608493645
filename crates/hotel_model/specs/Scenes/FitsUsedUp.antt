-- The scenario "fits-used-up": the 99th lock of a room is the last.
use Rattle.std.specs.Prelude.{ℕ, zero, suc, ◌≡◌, ◌+◌, ◌*◌, List, [], ◌∷◌, ◌++◌, map}
use Rattle.hotel_model.specs.declared.reply.Refusal.TheVariants.{FitsUsedUp}
use Rattle.hotel_model.specs.Rows.{no_rows}
use Rattle.hotel_model.specs.History.{start}
use Rattle.hotel_model.specs.Scenes.Words.{may, DBL, begin, add_kind, add_room, refit, begun, kind_added, room_code}
use Rattle.hotel_model.specs.Scenes.Words.{lock, refused}
use Rattle.hotel_model.specs.Scenes.Lines.{Line, ◌⇒◌, Holds, play}

-- n refits, of which the first makes this fit, with the code of the same number
abbrev pub refits : ℕ → ℕ → List Line
refits zero fit = []
refits (suc n) fit = refit 101 ⇒ lock fit fit ∷ refits n (fit + 1)

abbrev pub opening : List Line
opening = begin (may 1) ⇒ begun ∷ add_kind DBL ⇒ kind_added ∷ add_room 101 DBL ⇒ room_code 1 ∷ []

-- n and the numbers after it
abbrev pub numbers_from : ℕ → ℕ → List ℕ
numbers_from n zero = []
numbers_from n (suc k) = n ∷ numbers_from (n + 1) k

-- Five refits, and what is kept after each.
abbrev pub Few : Type 0
Few = Holds (numbers_from 1 5) 6 (opening ++ refits 5 2)

abbrev pub all_lines : List Line
all_lines = opening ++ refits 98 2 ++ refit 101 ⇒ refused FitsUsedUp ∷ []

-- All replies.
abbrev pub All : Type 0
All = (play (start no_rows) (map (λ n. n * 65536) (numbers_from 1 200)) all_lines).lines ≡ all_lines

abbrev pub TheScene : Type 0
TheScene = Few × All
