-- Plain rows of the tables, as the columns that a statement shows of them, and in which order they come.
use Rattle.std.specs.Prelude.{ℤ, pos, negsuc, ◌&&◌, Bool, true, false, List, [], ◌∷◌, Option, Some, None, map}
use Rattle.std.specs.Prelude.{string_bytes}
use Rattle.std.specs.Ordering.{nat_cmp, int_cmp, ordering_then}
use Rattle.std.specs.declared.cmp.Ordering.{Ordering}
use Rattle.std.specs.Cmp.Lexicographic.{slice_cmp}
use Rattle.std.specs.List.Sorted.{IsPermutation, IsSorted}
use Rattle.sqlite_value.specs.declared.value.Value.{Value}
use Rattle.sqlite_value.specs.declared.value.Value.TheVariants.{Null, Int, Text}
use Rattle.sqlite.specs.Order.{Row, column}
use Rattle.hotel_statements.specs.declared.plain_rows.PlainMeta.{PlainMeta}
use Rattle.hotel_statements.specs.declared.plain_rows.NumberedInside.{NumberedInside}
use Rattle.hotel_rows.specs.declared.stored.PlainKind.{PlainKind}
use Rattle.hotel_rows.specs.declared.stored.PlainRoom.{PlainRoom}
use Rattle.hotel_rows.specs.declared.stored.PlainStay.{PlainStay}
use Rattle.hotel_rows.specs.declared.stored.PlainCode.{PlainCode}
use Rattle.hotel_rows.specs.declared.stored.PlainCard.{PlainCard}
use Rattle.hotel_rows.specs.declared.stored.PlainInside.{PlainInside}
use Rattle.hotel_rows.specs.declared.stored.PlainNote.{PlainNote}
use Rattle.hotel_rows.specs.declared.stored.PlainFit.{PlainFit}

-- a number that may be null
abbrev pub maybe : Option ℤ → Value
maybe None = Null
maybe (Some n) = Int n

-- ---- the columns of a plain row

abbrev pub meta_shown : PlainMeta → Row
meta_shown l = Int l.id ∷ Int l.version ∷ maybe l.day ∷ []

abbrev pub kind_shown : PlainKind → Row
kind_shown l = Text (string_bytes l.kind) ∷ []

abbrev pub room_shown : PlainRoom → Row
room_shown l = Int l.room ∷ Text (string_bytes l.kind) ∷ Int l.lock_place ∷ Int l.codes ∷ Int l.secured ∷ maybe l.party
    ∷ Int l.notes ∷ []

abbrev pub stay_shown : PlainStay → Row
stay_shown l = Int l.party ∷ Text (string_bytes l.guest) ∷ Text (string_bytes l.kind) ∷ Int l.arrive ∷ Int l.depart
    ∷ Int l.state ∷ maybe l.room ∷ []

abbrev pub code_shown : PlainCode → Row
code_shown l = Int l.code ∷ Int l.room ∷ Int l.place ∷ []

abbrev pub card_shown : PlainCard → Row
card_shown l = Int l.number ∷ Int l.party ∷ Int l.old_code ∷ Int l.new_code ∷ []

abbrev pub inside_shown : PlainInside → Row
inside_shown l = Int l.room ∷ Int l.card ∷ []

-- with the number of the row
abbrev pub numbered_shown : NumberedInside → Row
numbered_shown l = Int l.id ∷ inside_shown l.plain

abbrev pub numbered_columns : Row → Row
numbered_columns r = column r 0 ∷ column r 1 ∷ column r 2 ∷ []

abbrev pub note_shown : PlainNote → Row
note_shown l = Int l.room ∷ Int l.n ∷ Int l.act ∷ maybe l.card ∷ Int l.first_code ∷ Int l.second_code ∷ Int l.day
    ∷ Int l.second ∷ []

abbrev pub fit_shown : PlainFit → Row
fit_shown l = Int l.room ∷ Int l.fit ∷ Int l.place ∷ Int l.before ∷ []

-- ---- the first columns of a row

abbrev pub first_one : Row → Row
first_one r = column r 0 ∷ []

abbrev pub first_three : Row → Row
first_three r = column r 0 ∷ column r 1 ∷ column r 2 ∷ []

abbrev pub first_four : Row → Row
first_four r = column r 0 ∷ column r 1 ∷ column r 2 ∷ column r 3 ∷ []

abbrev pub first_seven : Row → Row
first_seven r = column r 0 ∷ column r 1 ∷ column r 2 ∷ column r 3 ∷ column r 4 ∷ column r 5 ∷ column r 6 ∷ []

abbrev pub first_eight : Row → Row
first_eight r =
    column r 0 ∷ column r 1 ∷ column r 2 ∷ column r 3 ∷ column r 4 ∷ column r 5 ∷ column r 6 ∷ column r 7 ∷ []

-- ---- the order of the keys, as they are stored

abbrev pub meta_order : PlainMeta → PlainMeta → Ordering
meta_order a b = int_cmp a.id b.id

abbrev pub kind_order : PlainKind → PlainKind → Ordering
kind_order a b = slice_cmp nat_cmp (string_bytes a.kind) (string_bytes b.kind)

abbrev pub room_order : PlainRoom → PlainRoom → Ordering
room_order a b = int_cmp a.room b.room

abbrev pub stay_order : PlainStay → PlainStay → Ordering
stay_order a b = int_cmp a.party b.party

abbrev pub code_order : PlainCode → PlainCode → Ordering
code_order a b = int_cmp a.code b.code

abbrev pub card_order : PlainCard → PlainCard → Ordering
card_order a b = int_cmp a.number b.number

abbrev pub inside_order : PlainInside → PlainInside → Ordering
inside_order a b = ordering_then (int_cmp a.room b.room) (int_cmp a.card b.card)

abbrev pub numbered_order : NumberedInside → NumberedInside → Ordering
numbered_order a b = inside_order a.plain b.plain

abbrev pub note_order : PlainNote → PlainNote → Ordering
note_order a b = ordering_then (int_cmp a.room b.room) (int_cmp a.n b.n)

abbrev pub fit_order : PlainFit → PlainFit → Ordering
fit_order a b = ordering_then (int_cmp a.room b.room) (int_cmp a.fit b.fit)

-- ---- no number is below 0

abbrev pub is_natural : ℤ → Bool
is_natural (pos n) = true
is_natural (negsuc n) = false

abbrev pub may_be_natural : Option ℤ → Bool
may_be_natural None = true
may_be_natural (Some n) = is_natural n

abbrev pub kind_natural : PlainKind → Bool
kind_natural l = true

abbrev pub room_natural : PlainRoom → Bool
room_natural l = is_natural l.room && is_natural l.lock_place && is_natural l.codes && is_natural l.secured
    && may_be_natural l.party && is_natural l.notes

abbrev pub stay_natural : PlainStay → Bool
stay_natural l =
    is_natural l.party && is_natural l.arrive && is_natural l.depart && is_natural l.state && may_be_natural l.room

abbrev pub code_natural : PlainCode → Bool
code_natural l = is_natural l.code && is_natural l.room && is_natural l.place

abbrev pub card_natural : PlainCard → Bool
card_natural l = is_natural l.number && is_natural l.party && is_natural l.old_code && is_natural l.new_code

abbrev pub inside_natural : PlainInside → Bool
inside_natural l = is_natural l.room && is_natural l.card

abbrev pub note_natural : PlainNote → Bool
note_natural l =
    is_natural l.room && is_natural l.n && is_natural l.act && may_be_natural l.card && is_natural l.first_code
    && is_natural l.second_code && is_natural l.day
    && is_natural l.second

abbrev pub fit_natural : PlainFit → Bool
fit_natural l = is_natural l.room && is_natural l.fit && is_natural l.place && is_natural l.before

-- the plain rows are those of the tree, in some order
abbrev pub ArePlainRows : {L : Type 0} → (Row → Row) → (L → Row) → List L → List Row → Type 0
ArePlainRows columns shown plain_rows rows = IsPermutation (map columns rows) (map shown plain_rows)

-- and they are in the order of their keys
abbrev pub AreRowsInOrder : {L : Type 0} → (Row → Row) → (L → Row) → (L → L → Ordering) → List L → List Row → Type 0
AreRowsInOrder columns shown order plain_rows rows =
    ArePlainRows columns shown plain_rows rows × IsSorted order plain_rows
