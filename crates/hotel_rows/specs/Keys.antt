-- Keys of rows, and where they stand.
use Rattle.std.specs.Prelude.{ℕ, ◌≡◌, ◌==◌, ◌&&◌, nat_le, length, Bool, List, [], ◌∷◌, Option, Some, None, option_map}
use Rattle.std.specs.Prelude.{suc, if◌then◌else◌}
use Rattle.std.specs.Ordering.{nat_cmp}
use Rattle.keycard_rules.specs.declared.numbers.TheConstants.{LAST_NUMBER}
use Rattle.hotel_model.specs.SoundRooms.{are_in_order, count_up}
use Rattle.hotel_model.specs.Rows.{NoteKey, FitKey, at_number}
use Rattle.hotel_rows.specs.declared.stored.PlainRoom.{PlainRoom}
use Rattle.hotel_rows.specs.declared.stored.PlainStay.{PlainStay}
use Rattle.hotel_rows.specs.declared.stored.PlainCode.{PlainCode}
use Rattle.hotel_rows.specs.declared.stored.PlainCard.{PlainCard}
use Rattle.hotel_rows.specs.declared.stored.PlainNote.{PlainNote}
use Rattle.hotel_rows.specs.declared.stored.PlainFit.{PlainFit}
use Rattle.hotel_rows.specs.Stored.{number_of}

abbrev pub room_key : PlainRoom → ℕ
room_key plain = number_of plain.room

abbrev pub stay_key : PlainStay → ℕ
stay_key plain = number_of plain.party

abbrev pub code_key : PlainCode → ℕ
code_key plain = number_of plain.code

abbrev pub card_key : PlainCard → ℕ
card_key plain = number_of plain.number

abbrev pub note_key : PlainNote → NoteKey
note_key plain = (number_of plain.room, number_of plain.n)

abbrev pub fit_key : PlainFit → FitKey
fit_key plain = (number_of plain.room, number_of plain.fit)

-- the codes of a link: the old one, and the new one
abbrev pub LinkKey : Type 0
LinkKey = ℕ × ℕ

-- the code that a card brought
abbrev pub new_code_of : PlainCard → ℕ
new_code_of plain = number_of plain.new_code

-- where a key stands first
abbrev pub place_in : List ℕ → ℕ → Option ℕ
place_in [] q = None
place_in (k ∷ ks) q = if k == q then Some 0 else option_map suc (place_in ks q)

-- the map has where each key stands first
abbrev pub IndexesFirst : List (ℕ × ℕ) → List ℕ → Type 0
IndexesFirst places keys = (q : ℕ) → at_number places q ≡ place_in keys q

-- the numbers are 1 and on, in order, at most the last number
abbrev pub are_numbered : List ℕ → Bool
are_numbered keys = are_in_order nat_cmp keys && count_up 1 keys && nat_le (length keys) LAST_NUMBER
