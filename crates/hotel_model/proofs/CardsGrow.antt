-- With one more event the cards that a party was given are those before, and behind them at most one more.
use Rattle.std.proofs.Common.{ℕ, ◌≡◌, ◌≤◌, Bool, true, false, cond, Option, Some, None, List, [], ◌∷◌, ◌++◌, length}
use Rattle.std.proofs.Common.{ap, sym, ◌∙◌, arith, ◌==◌, filter, nat_cmp}
use Rattle.std.proofs.lemmas.{List.append-nil, List.map-append, List.Elements.filter-append}
use Rattle.hotel_model.proofs.Names.{Card, Link, Issue, Spare, History, Reached, cards, card_of, insert_entry}
use Rattle.hotel_model.proofs.Names.{with_spare, link_of_party, link_to, next_card, values_of}
use Rattle.hotel_model.specs.{FurtherLaws.CardsOnlyGrow}
use Rattle.hotel_model.proofs.{OfTables.Grown.may_follow, SoundRows.SoundLinks.card_comes_last}

-- the cards of a party
abbrev its : ℕ → List (ℕ × Card) → List Card
its party es = filter (λ card. card.party == party) (values_of es)

-- these are others, with at most one more behind them
abbrev GrowsTo : List Card → List Card → Type 0
GrowsTo before after = (new : List Card) × (length new ≤ 1) × (after ≡ before ++ new)

stays : (before : List Card) → GrowsTo before before
stays before = ([], omega arith, sym (append-nil before))

one_at_most : (b : Bool) (card : Card) → length (cond b (card ∷ []) []) ≤ 1
one_at_most true card = omega arith
one_at_most false card = omega arith

with_last : (party number : ℕ) (card : Card) (es : List (ℕ × Card))
    → GrowsTo (its party es) (its party (es ++ (number, card) ∷ []))
with_last party number card es = (
  cond (card.party == party) (card ∷ []) [],
  one_at_most (card.party == party) card,
  ap (filter (λ c. c.party == party)) (map-append (λ e. e.1) es ((number, card) ∷ []))
      ∙ filter-append (λ c. c.party == party) (values_of es) (card ∷ []),
)

with_next : (h : History) → Reached h → (party number : ℕ) (card : Card) → number ≡ next_card h
    → GrowsTo (its party (cards h)) (its party (insert_entry nat_cmp (cards h) number card))
with_next h ok party number card n =
    let last = with_last party number card (cards h) in
    (last.0, last.1, ap (its party) (card_comes_last h ok number card n) ∙ last.2)

spared : (o : Option Link) (h : History) → Reached h → (party number p : ℕ) → number ≡ next_card h
    → GrowsTo (its p (cards h)) (its p (with_spare number party o (cards h)))
spared (Some link) h ok party number p n = with_next h ok p number (card_of number party link) n
spared None h ok party number p n = stays (its p (cards h))

pub cards_only_grow : CardsOnlyGrow
cards_only_grow h (Issue party room number code) ok p = with_next h ok.0 p number (card_of number party (link_to h room code))
    (may_follow h (Issue party room number code) ok).5
cards_only_grow h (Spare party number) ok p =
    spared (link_of_party h party) h ok.0 party number p (may_follow h (Spare party number) ok).2
cards_only_grow h _ ok p = stays (its p (cards h))
