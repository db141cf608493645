-- The header of an audit file.
use Rattle.std.specs.Prelude.{ℕ, Bool, true, false, ◌&&◌, List, [], ◌∷◌, Option, Some, None, if◌then◌else◌, codes}
use Rattle.std.specs.Str.{bytes_eq}
use Rattle.hotel_lock.specs.{declared.header.Columns.Columns, declared.header.Columns.TheVariants.WithFit}
use Rattle.hotel_lock.specs.{declared.header.Columns.TheVariants.WithoutFit}

-- the names of the columns that the lines have: one of them is the number of the room's lock, or none is
abbrev pub column_names : Columns → List (List ℕ)
column_names WithFit = codes "room" ∷ codes "fit" ∷ codes "count" ∷ codes "kind" ∷ codes "card" ∷ codes "old"
    ∷ codes "new" ∷ codes "at" ∷ []
column_names WithoutFit =
    codes "room" ∷ codes "count" ∷ codes "kind" ∷ codes "card" ∷ codes "old" ∷ codes "new" ∷ codes "at" ∷ []

-- as many texts, and each is the other's
abbrev pub are_same_texts : List (List ℕ) → List (List ℕ) → Bool
are_same_texts [] [] = true
are_same_texts [] (b ∷ more) = false
are_same_texts (a ∷ texts) [] = false
are_same_texts (a ∷ texts) (b ∷ more) = bytes_eq a b && are_same_texts texts more

-- a header is the names of the columns and nothing else
abbrev pub columns_of : List (List ℕ) → Option Columns
columns_of fields =
    if are_same_texts fields (column_names WithFit) then Some WithFit
    else (if are_same_texts fields (column_names WithoutFit) then Some WithoutFit else None)
