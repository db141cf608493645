-- A note is found by its room and its number.
use Rattle.std.proofs.Common.{ℕ, zero, suc, ◌≡◌, ◌≤◌, ◌+◌, None, List, [], ◌∷◌, length, drop, ap, sym, ◌∙◌, arith}
use Rattle.hotel_model.proofs.Names.{is_at, lookup, count_up, pair_cmp, History, notes, all_notes, rows_of}
use Rattle.hotel_model.proofs.Names.{note_numbered, Reached}
use Rattle.hotel_model.proofs.{OfTables.NotesListed.notes_are_listed, OfTables.NotesListed.notes_numbered}
use Rattle.hotel_model.proofs.OfTables.AtRoom.{first_in, none_in, found_at, notes_are_picked, numbers_are_picked}

-- The note of a room's number k + 1 is the first after k notes there.
pub note_kept : (h : History) → Reached h → (r k : ℕ)
    → note_numbered (rows_of h) r (k + 1) ≡ first_in (drop k (notes h r))
note_kept h ok r k =
    let m : k + 1 ≡ 1 + k = omega arith in
    ap (λ z. lookup (is_at (pair_cmp (r, z))) (all_notes h)) m
    ∙ found_at (all_notes h) r 1 k
    (sym (ap (λ ns. count_up 1 ns) (numbers_are_picked (all_notes h) r)) ∙ (notes_numbered h ok r).0)
    ∙ ap (λ ns. first_in (drop k ns)) (sym (notes_are_picked (all_notes h) r) ∙ notes_are_listed h ok r)

pub none_past : {X : Type 0} (k : ℕ) (xs : List X) → length xs ≤ k → first_in (drop k xs) ≡ None
none_past k [] n = none_in k
none_past zero (x ∷ xs) n = absurd (omega arith)
none_past (suc k) (x ∷ xs) n = none_past k xs (omega arith)

-- No note has a number above those that were taken.
pub next_not_found : (h : History) → Reached h → (r number : ℕ)
    → length (notes h r) + 1 ≡ number → note_numbered (rows_of h) r number ≡ None
next_not_found h ok r number n = ap (note_numbered (rows_of h) r) (sym n) ∙ note_kept h ok r (length (notes h r))
    ∙ none_past (length (notes h r)) (notes h r) (omega arith)
