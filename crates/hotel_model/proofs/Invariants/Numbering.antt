-- The cards and the stays are numbered 1, 2 and so on.
use Rattle.std.proofs.Common.{ℕ, ◌≡◌, ◌+◌, Bool, true, false, cond, Option, Some, None, List, [], ◌∷◌, length, refl, ap}
use Rattle.std.proofs.Common.{◌∙◌, arith, ◌==◌}
use Rattle.hotel_model.proofs.Names.{keys_of, Card, Link, Stay, StayState, count_up, at_number, Reserved, Cancelled}
use Rattle.hotel_model.proofs.Names.{Issue, Spare, CheckOut, History, start, ◌▷◌, cards, card_of, with_spare}
use Rattle.hotel_model.proofs.Names.{link_of_party, link_to, stays, in_state, now_is, Reached}
use Rattle.hotel_nights.specs.declared.stay.StayState.TheVariants as state
use Rattle.hotel_model.proofs.{Facts.CodeFacts.CardsCount, Facts.CodeFacts.StaysCount, OfTables.Counting.counts_more}
use Rattle.hotel_model.proofs.{OfTables.Counting.next_is_free, OfTables.Grown.may_follow}
use Rattle.hotel_model.proofs.Starts.StartNumbers.{cards_count_at_start, stays_count_at_start}

keys_by : (b : Bool) (e : ℕ × Stay) (s : Stay) (es later : List (ℕ × Stay))
    → keys_of later ≡ keys_of es → keys_of (cond b ((e.0, s) ∷ es) (e ∷ later)) ≡ e.0 ∷ keys_of es
keys_by true e s es later same = refl
keys_by false e s es later same = ap (λ ks. e.0 ∷ ks) same

-- a change of state keeps the numbers
pub same_keys : (party : ℕ) (to : StayState) (es : List (ℕ × Stay)) → keys_of (in_state party to es) ≡ keys_of es
same_keys party to [] = refl
same_keys party to (e ∷ es) = keys_by (e.0 == party) e (now_is to e.1) es (in_state party to es) (same_keys party to es)

-- and how many there are
pub same_length : (party : ℕ) (to : StayState) (es : List (ℕ × Stay)) → length (in_state party to es) ≡ length es
same_length party to [] = refl
same_length party to (e ∷ es) = by (e.0 == party) (same_length party to es)
  where
    by : (b : Bool) → length (in_state party to es) ≡ length es
        → length (cond b ((e.0, now_is to e.1) ∷ es) (e ∷ in_state party to es)) ≡ length (e ∷ es)
    by true ih = refl
    by false ih = omega arith

counted_still : (party : ℕ) (to : StayState) (es : List (ℕ × Stay))
    → count_up 1 (keys_of es) ≡ true → count_up 1 (keys_of (in_state party to es)) ≡ true
counted_still party to es up = ap (λ ks. count_up 1 ks) (same_keys party to es) ∙ up

pub stays_count : (h : History) → Reached h → StaysCount h
stays_count (start t) ok = stays_count_at_start t ok
stays_count (h ▷ Reserved party guest kind arrive depart) ok =
    (counts_more (stays h) party
    (record { party = party; guest = guest; kind = kind; arrive = arrive; depart = depart; state = state.Booked })
    (stays_count h ok.0) (may_follow h (Reserved party guest kind arrive depart) ok).1).0
stays_count (h ▷ Cancelled party) ok = counted_still party state.Cancelled (stays h) (stays_count h ok.0)
stays_count (h ▷ Issue party room number code) ok =
    counted_still party (state.InHouse room) (stays h) (stays_count h ok.0)
stays_count (h ▷ CheckOut party) ok = counted_still party state.Done (stays h) (stays_count h ok.0)
stays_count (h ▷ _) ok = stays_count h ok.0

spare_counts : (o : Option Link) (number party : ℕ) (all : List (ℕ × Card)) → number ≡ length all + 1
    → count_up 1 (keys_of all) ≡ true → count_up 1 (keys_of (with_spare number party o all)) ≡ true
spare_counts (Some link) number party all n up = (counts_more all number (card_of number party link) up n).0
spare_counts None number party all n up = up

pub cards_count : (h : History) → Reached h → CardsCount h
cards_count (start t) ok = cards_count_at_start t ok
cards_count (h ▷ Issue party room number code) ok =
    (counts_more (cards h) number (card_of number party (link_to h room code)) (cards_count h ok.0)
    (may_follow h (Issue party room number code) ok).5).0
cards_count (h ▷ Spare party number) ok = spare_counts (link_of_party h party) number party (cards h)
    (may_follow h (Spare party number) ok).2 (cards_count h ok.0)
cards_count (h ▷ _) ok = cards_count h ok.0

-- the next card's number is free
pub next_card_free : (h : History) → Reached h → at_number (cards h) (length (cards h) + 1) ≡ None
next_card_free h ok = next_is_free (cards h) (cards_count h ok)

-- and so is the next party's
pub next_party_free : (h : History) → Reached h → at_number (stays h) (length (stays h) + 1) ≡ None
next_party_free h ok = next_is_free (stays h) (stays_count h ok)
