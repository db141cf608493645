-- A start's ledger: the lock's place cuts a room's codes into passed, held and awaited ones.
use Rattle.std.proofs.Common.{ℕ, zero, suc, ◌≡◌, ◌≤◌, ◌<◌, ◌+◌, Bool, true, false, None, List, [], ◌∷◌, ◌++◌, length}
use Rattle.std.proofs.Common.{take, drop, refl, ap, sym, ◌∙◌, subst, arith, nat_le, is_some}
use Rattle.hotel_model.proofs.Names.{RoomRow, Rows, at_number, codes_at, lock_place_of, first_of, start, fits_at}
use Rattle.hotel_model.proofs.Names.{is_room, IsSound, LedgerHolds}
use Rattle.hotel_model.proofs.{Facts.CodeFacts.HasCodes, Facts.CodeFacts.RoomsHaveCodes, Facts.CodeFacts.OthersHaveNone}
use Rattle.hotel_model.proofs.{Facts.CodeFacts.CodesFit, OfTables.RowTests.found_passes}
use Rattle.hotel_model.proofs.{OfTables.Tests.le_from, Starts.StartRules.some_of}
use Rattle.hotel_model.proofs.Starts.StartCodes.{counted, room_is, lock_within, no_codes_at, has_row, has_no_row}
use Rattle.hotel_model.proofs.Starts.StartCodes.{room_there_is}

-- a list cut at one of its places
pub cut_at : (k : ℕ) (xs : List ℕ) → k < length xs → take k xs ++ first_of (drop k xs) ∷ drop (k + 1) xs ≡ xs
cut_at k [] l = absurd (omega arith)
cut_at zero (x ∷ xs) l = refl
cut_at (suc k) (x ∷ xs) l =
    let e : suc k + 1 ≡ suc (k + 1) = omega arith in
    ap (λ m. x ∷ (take k xs ++ first_of (drop k xs) ∷ drop m (x ∷ xs))) e
    ∙ ap (λ zs. x ∷ zs) (cut_at k xs (omega arith))

-- At each room the passed codes, the held one and the awaited ones are its codes.
pub ledger_at_start : (t : Rows) → IsSound t → LedgerHolds (start t)
ledger_at_start t s r e =
    let row = has_row t r e in
    let l = lock_within t s r row.0 row.1 in
    cut_at (lock_place_of t r) (codes_at t r) (subst (λ z. z < length (codes_at t r)) (sym l.0) l.1)

not_empty : (xs : List ℕ) (k : ℕ) → k < length xs → HasCodes xs
not_empty [] k l = absurd (omega arith)
not_empty (x ∷ xs) k l = (x, xs, refl)

-- A room has a code.
pub rooms_have_codes_at_start : (t : Rows) → IsSound t → RoomsHaveCodes (start t)
rooms_have_codes_at_start t s r e =
    let row = has_row t r e in
    not_empty (codes_at t r) row.0.lock_place (lock_within t s r row.0 row.1).1

take_none : (k : ℕ) → take {A = ℕ} k [] ≡ []
take_none zero = refl
take_none (suc k) = refl

drop_none : (k : ℕ) → drop {A = ℕ} k [] ≡ []
drop_none zero = refl
drop_none (suc k) = refl

-- no row of what is no room
pub not_there : (t : Rows) (r : ℕ) → is_room (start t) r ≡ false → at_number t.rooms r ≡ None
not_there t r e = has_no_row t r (sym (room_there_is t r) ∙ e)

-- Where there is no room there is no code.
pub others_have_none_at_start : (t : Rows) → IsSound t → OthersHaveNone (start t)
others_have_none_at_start t s r e =
    let none = no_codes_at t s r (not_there t r e) in (
      none,
      ap (take (lock_place_of t r)) none ∙ take_none (lock_place_of t r),
      ap (drop (lock_place_of t r + 1)) none ∙ drop_none (lock_place_of t r + 1),
    )

-- A room has at most as many codes as there are cards, and those that its fits begin with.
pub codes_fit_at_start : (t : Rows) → IsSound t → CodesFit (start t)
codes_fit_at_start t s r = by (is_some (at_number t.rooms r)) refl
  where
    by : (b : Bool) → is_some (at_number t.rooms r) ≡ b
        → length (codes_at t r) ≤ length t.cards + length (fits_at t.fits r)
    by true q =
        let row = some_of (at_number t.rooms r) q in
        let few = le_from row.0.codes (length t.cards + length (fits_at t.fits row.0.room))
        (found_passes (λ (e : ℕ × RoomRow). nat_le e.1.codes (length t.cards + length (fits_at t.fits e.1.room)))
        t.rooms r row.0 s.room_codes row.1) in
        let same = ap (λ z. length (fits_at t.fits z)) (room_is t s r row.0 row.1) in
        let many = (counted t s r row.0 row.1).many in
        omega arith
    by false q =
        let none = ap (λ (zs : List ℕ). length zs) (no_codes_at t s r (has_no_row t r q)) in
        omega arith
