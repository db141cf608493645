-- Counts over the rows: how many rooms a kind has, and the nights that its stays take.
use Rattle.std.proofs.Common.{ℕ, ◌≡◌, ◌+◌, Bool, cond, List, [], ◌∷◌, refl, ap, sym, ◌∙◌, map, bytes_eq, count_by}
use Rattle.hotel_model.proofs.Names.{values_of, sum_by-cons, is_full, first_day, RoomRow, History, rooms, stays}
use Rattle.hotel_model.proofs.Names.{rooms_of, first_full, room_row, rows_of, rooms_of_kind, first_full_on}

-- how many pass a test, with one more
pub count_more : {X : Type 0} (p : X → Bool) (x : X) (xs : List X)
    → count_by p (x ∷ xs) ≡ cond (p x) 1 0 + count_by p xs
count_more p x xs = sum_by-cons (λ y. cond (p y) 1 0) x xs

rooms_by_kind : (h : History) (kind : List ℕ) (rs : List (ℕ × List ℕ))
    → count_by (λ (row : RoomRow). bytes_eq row.kind kind) (values_of (map (λ e. (e.0, room_row h e.0 e.1)) rs))
    ≡ count_by (λ k. bytes_eq k kind) (values_of rs)
rooms_by_kind h kind [] = refl
rooms_by_kind h kind (e ∷ es) =
    count_more (λ (row : RoomRow). bytes_eq row.kind kind) (room_row h e.0 e.1)
    (values_of (map (λ e. (e.0, room_row h e.0 e.1)) es))
    ∙ ap (λ n. cond (bytes_eq e.1 kind) 1 0 + n) (rooms_by_kind h kind es)
    ∙ sym (count_more (λ k. bytes_eq k kind) e.1 (values_of es))

-- The rows have as many rooms of a kind as there are.
pub rooms_counted : (h : History) (kind : List ℕ) → rooms_of_kind (rows_of h).rooms kind ≡ rooms_of h kind
rooms_counted h kind = rooms_by_kind h kind (rooms h)

-- The first full night of the rows is the history's.
pub full_night_counted : (h : History) (kind : List ℕ) (d k : ℕ)
    → first_full_on (rows_of h) kind d k ≡ first_full h kind d k
full_night_counted h kind d k = ap (λ n. first_day (is_full (values_of (stays h)) kind n) d k) (rooms_counted h kind)
