-- The cards and stays of a start are numbered from 1 on.
use Rattle.std.proofs.Common.{ℕ, ◌≡◌, Bool, true, Some, length, ◌==◌, ◌&&◌, nat_le}
use Rattle.hotel_model.proofs.Names.{list_all, keys_of, Card, Stay, Rows, at_number, start, count_up, IsSound}
use Rattle.hotel_model.proofs.Facts.CodeFacts.{CardsCount, StaysCount, CardsFit, StaysFit}
use Rattle.hotel_model.proofs.{OfTables.Tests.and_true, OfTables.Tests.eq_from, OfTables.RowTests.found_passes}
use Rattle.hotel_model.proofs.{OfTables.Tests.le_from}

three_true : (a b c : Bool) → (a && b && c) ≡ true → (a ≡ true) × (b ≡ true) × (c ≡ true)
three_true a b c t = let p = and_true (a && b) c t in let q = and_true a b p.0 in (q.0, q.1, p.1)

-- the parts of the rule of cards' numbers
pub cards_numbered_at_start : (t : Rows) → IsSound t → (list_all (λ (e : ℕ × Card). e.1.number == e.0) t.cards ≡ true)
    × (count_up 1 (keys_of t.cards) ≡ true) × (nat_le (length t.cards) 9999999 ≡ true)
cards_numbered_at_start t s = three_true (list_all (λ (e : ℕ × Card). e.1.number == e.0) t.cards)
    (count_up 1 (keys_of t.cards)) (nat_le (length t.cards) 9999999) s.card_number

-- the parts of the rule of stays' numbers
pub stays_numbered_at_start : (t : Rows) → IsSound t → (list_all (λ (e : ℕ × Stay). e.1.party == e.0) t.stays ≡ true)
    × (count_up 1 (keys_of t.stays) ≡ true) × (nat_le (length t.stays) 9999999 ≡ true)
stays_numbered_at_start t s = three_true (list_all (λ (e : ℕ × Stay). e.1.party == e.0) t.stays)
    (count_up 1 (keys_of t.stays)) (nat_le (length t.stays) 9999999) s.stay_number

-- a stay's party is the number at which it is found
pub party_is : (t : Rows) → IsSound t → (p : ℕ) (stay : Stay) → at_number t.stays p ≡ Some stay → stay.party ≡ p
party_is t s p stay e = eq_from stay.party p
    (found_passes (λ (e : ℕ × Stay). e.1.party == e.0) t.stays p stay (stays_numbered_at_start t s).0 e)

pub cards_count_at_start : (t : Rows) → IsSound t → CardsCount (start t)
cards_count_at_start t s = (cards_numbered_at_start t s).1

pub stays_count_at_start : (t : Rows) → IsSound t → StaysCount (start t)
stays_count_at_start t s = (stays_numbered_at_start t s).1

pub cards_fit_at_start : (t : Rows) → IsSound t → CardsFit (start t)
cards_fit_at_start t s = le_from (length t.cards) 9999999 (cards_numbered_at_start t s).2

pub stays_fit_at_start : (t : Rows) → IsSound t → StaysFit (start t)
stays_fit_at_start t s = le_from (length t.stays) 9999999 (stays_numbered_at_start t s).2
