-- All cards of a link are one party's: that of the card that brought the link.
use Rattle.std.proofs.Common.{ℕ, ◌≡◌, Bool, true, false, Option, Some, None, List, [], ◌∷◌, ◌++◌, length, inl, inr}
use Rattle.std.proofs.Common.{refl, ap, sym, ◌∙◌, subst, append_assoc, ◌==◌, nat_cmp, is_some}
use Rattle.hotel_model.proofs.Names.{insert_entry, Card, Link, CodeRow, when, is_that, at_number, Issue, Refitted}
use Rattle.hotel_model.proofs.Names.{is_taken, Spare, CheckOut, History, start, ◌▷◌, is_fresh, cards, card_of}
use Rattle.hotel_model.proofs.Names.{with_spare, link_of_party, link_to, newest_link, registered, other_than, next_card}
use Rattle.hotel_model.proofs.Names.{Reached}
use Rattle.hotel_model.proofs.Facts.CodeFacts.{IsLink, HasCard, PartiesHaveCards, CardsOneParty, GuestsHaveCards}
use Rattle.hotel_model.proofs.{OfTables.Tests.eq_from, OfTables.Tests.not_both, OfTables.TableKeys.row_inserted}
use Rattle.hotel_model.proofs.{OfTables.TableKeys.row_kept, OfTables.TableKeys.row_added, OfTables.Grown.may_follow}
use Rattle.hotel_model.proofs.{Invariants.Numbering.next_card_free, Invariants.CodePlaces.codes_have_places}
use Rattle.hotel_model.proofs.{Invariants.CodePlaces.fresh_has_no_row}
use Rattle.hotel_model.proofs.{Invariants.RoomLinks.cards_have_links, Starts.StartLinks.parties_have_cards_at_start}
use Rattle.hotel_model.proofs.{Starts.StartLinks.cards_one_party_at_start}
use Rattle.hotel_model.proofs.Starts.StartGuests.{guests_have_cards_at_start}

-- a card that was there is there when one more is made
pub card_kept : (h : History) (number : ℕ) (new : Card) (n : ℕ) (card : Card) → Reached h → number ≡ next_card h
    → at_number (cards h) n ≡ Some card → at_number (insert_entry nat_cmp (cards h) number new) n ≡ Some card
card_kept h number new n card ok next e =
    row_kept (cards h) number new card n (ap (at_number (cards h)) next ∙ next_card_free h ok) e

pub card_kept_spare : (o : Option Link) (h : History) (party number n : ℕ) (card : Card)
    → Reached h → number ≡ next_card h → at_number (cards h) n ≡ Some card
    → at_number (with_spare number party o (cards h)) n ≡ Some card
card_kept_spare (Some link) h party number n card ok next e =
    card_kept h number (card_of number party link) n card ok next e
card_kept_spare None h party number n card ok next e = e

-- a party's card of a link, among some cards
abbrev pub HasCardAmong : List (ℕ × Card) → ℕ → Link → Type 0
HasCardAmong all party link =
    (n : ℕ) × (card : Card) × (at_number all n ≡ Some card) × (card.link ≡ link) × (card.party ≡ party)

still_has : (h : History) (number : ℕ) (new : Card) (party : ℕ) (link : Link) → Reached h → number ≡ next_card h
    → HasCard h party link → HasCardAmong (insert_entry nat_cmp (cards h) number new) party link
still_has h number new party link ok next c = (c.0, c.1, card_kept h number new c.0 c.1 ok next c.2, c.3, c.4)

still_has_spare : (o : Option Link) (h : History) (p number party : ℕ) (link : Link) → Reached h → number ≡ next_card h
    → HasCard h party link → HasCardAmong (with_spare number p o (cards h)) party link
still_has_spare (Some l) h p number party link ok next c = still_has h number (card_of number p l) party link ok next c
still_has_spare None h p number party link ok next c = c

made_card : (all : List (ℕ × Card)) (number party : ℕ) (link : Link)
    → HasCardAmong (insert_entry nat_cmp all number (card_of number party link)) party link
made_card all number party link =
    (number, card_of number party link, row_added all number (card_of number party link), refl, refl)

given_by : (b : Bool) (h : History) (p number party : ℕ) (new link : Link) (was : Option Link)
    → (b ≡ true → p ≡ party) → Reached h → number ≡ next_card h → (was ≡ Some link → HasCard h party link)
    → when b (λ _. Some new) was ≡ Some link
    → HasCardAmong (insert_entry nat_cmp (cards h) number (card_of number p new)) party link
given_by true h p number party new link was here ok next ih e =
    let same : new ≡ link = cc in
    subst (λ z. HasCardAmong (insert_entry nat_cmp (cards h) number (card_of number p new)) z link) (here refl)
    (subst (λ l. HasCardAmong (insert_entry nat_cmp (cards h) number (card_of number p new)) p l) same
    (made_card (cards h) number p new))
given_by false h p number party new link was here ok next ih e =
    still_has h number (card_of number p new) party link ok next (ih e)

-- A party has a card of the link that it was given last.
pub parties_have_cards : (h : History) → Reached h → PartiesHaveCards h
parties_have_cards (start t) ok party link e = parties_have_cards_at_start t ok party link e
parties_have_cards (h ▷ Issue p room number code) ok party link e =
    given_by (p == party) h p number party (link_to h room code) link (link_of_party h party) (eq_from p party) ok.0
    (may_follow h (Issue p room number code) ok).5 (parties_have_cards h ok.0 party link) e
parties_have_cards (h ▷ Spare p number) ok party link e = still_has_spare (link_of_party h p) h p number party link ok.0
    (may_follow h (Spare p number) ok).2 (parties_have_cards h ok.0 party link e)
parties_have_cards (h ▷ _) ok party link e = parties_have_cards h ok.0 party link e

-- the new code of a link that was made isn't fresh
not_fresh : (h : History) (link : Link) → Reached h → IsLink h link → is_fresh h link.new_code ≡ true → ⊥
not_fresh h link ok l fresh =
    let p = codes_have_places h ok l.0 (l.1.0 ++ link.old_code ∷ []) link.new_code l.1.1
    (l.1.2 ∙ sym (append_assoc l.1.0 (link.old_code ∷ []) (link.new_code ∷ l.1.1))) in
    let w : ◌≡◌ {A = Option CodeRow} None (Some (record { room = l.0; place = length (l.1.0 ++ link.old_code ∷ []) })) =
    sym (fresh_has_no_row h link.new_code fresh) ∙ p in
    cc

-- where a card of a fresh link is made
one_of_fresh : (h : History) (number : ℕ) (new : Card)
    → Reached h → CardsOneParty h → is_fresh h new.link.new_code ≡ true
    → (n m : ℕ) (a b : Card) → at_number (insert_entry nat_cmp (cards h) number new) n ≡ Some a
    → at_number (insert_entry nat_cmp (cards h) number new) m ≡ Some b
    → a.link.new_code ≡ b.link.new_code → a.party ≡ b.party
one_of_fresh h number new ok ih fresh n m a b e f same =
    elim (row_inserted (cards h) number new a n e) [
      | inl p ↦ elim (row_inserted (cards h) number new b m f) [
        | inl q ↦ ap (λ (k : Card). k.party) (sym p.1 ∙ q.1)
        | inr f' ↦ absurd (not_fresh h b.link ok (cards_have_links h ok m b f')
            (ap (is_fresh h) (sym same ∙ ap (λ (k : Card). k.link.new_code) (sym p.1)) ∙ fresh))
      ]
      | inr e' ↦ elim (row_inserted (cards h) number new b m f) [
        | inl q ↦ absurd (not_fresh h a.link ok (cards_have_links h ok n a e')
            (ap (is_fresh h) (same ∙ ap (λ (k : Card). k.link.new_code) (sym q.1)) ∙ fresh))
        | inr f' ↦ ih n m a b e' f' same
      ]
    ]

-- where a card of a party's own link is made
one_of_own : (h : History) (number : ℕ) (new : Card) → CardsOneParty h → HasCard h new.party new.link
    → (n m : ℕ) (a b : Card) → at_number (insert_entry nat_cmp (cards h) number new) n ≡ Some a
    → at_number (insert_entry nat_cmp (cards h) number new) m ≡ Some b
    → a.link.new_code ≡ b.link.new_code → a.party ≡ b.party
one_of_own h number new ih own n m a b e f same =
    let code : own.1.link.new_code ≡ new.link.new_code = ap (λ (l : Link). l.new_code) own.3 in
    elim (row_inserted (cards h) number new a n e) [
      | inl p ↦ elim (row_inserted (cards h) number new b m f) [
        | inl q ↦ ap (λ (k : Card). k.party) (sym p.1 ∙ q.1)
        | inr f' ↦ ap (λ (k : Card). k.party) (sym p.1) ∙ sym own.4
            ∙ ih own.0 m own.1 b own.2 f' (code ∙ ap (λ (k : Card). k.link.new_code) p.1 ∙ same)
      ]
      | inr e' ↦ elim (row_inserted (cards h) number new b m f) [
        | inl q ↦ ih n own.0 a own.1 e' own.2 (same ∙ ap (λ (k : Card). k.link.new_code) (sym q.1) ∙ sym code) ∙ own.4
            ∙ ap (λ (k : Card). k.party) q.1
        | inr f' ↦ ih n m a b e' f' same
      ]
    ]

one_of_spare : (o : Option Link) (h : History) (number party : ℕ)
    → CardsOneParty h → ((link : Link) → o ≡ Some link → HasCard h party link)
    → (n m : ℕ) (a b : Card) → at_number (with_spare number party o (cards h)) n ≡ Some a
    → at_number (with_spare number party o (cards h)) m ≡ Some b → a.link.new_code ≡ b.link.new_code → a.party ≡ b.party
one_of_spare (Some link) h number party ih own n m a b e f same =
    one_of_own h number (card_of number party link) ih (own link refl) n m a b e f same
one_of_spare None h number party ih own n m a b e f same = ih n m a b e f same

-- Cards with the same new code are one party's.
pub cards_one_party : (h : History) → Reached h → CardsOneParty h
cards_one_party (start t) ok n m a b e f same = cards_one_party_at_start t ok n m a b e f same
cards_one_party (h ▷ Issue party room number code) ok n m a b e f same =
    one_of_fresh h number (card_of number party (link_to h room code)) ok.0 (cards_one_party h ok.0)
    (may_follow h (Issue party room number code) ok).6 n m a b e f same
cards_one_party (h ▷ Spare party number) ok n m a b e f same = one_of_spare (link_of_party h party) h number party
    (cards_one_party h ok.0) (parties_have_cards h ok.0 party) n m a b e f same
cards_one_party (h ▷ _) ok n m a b e f same = cards_one_party h ok.0 n m a b e f same

-- a registered party's card of a room's newest link
abbrev pub GuestHasCard : Option Link → List (ℕ × Card) → ℕ → Type 0
GuestHasCard newest all party = (link : Link) × (newest ≡ Some link) × HasCardAmong all party link

stayed : (b : Bool) (party p : ℕ) (was : Option ℕ) → when b (λ _. None) was ≡ Some p → was ≡ Some p
stayed true party p was e = absurd (let w : ◌≡◌ {A = Option ℕ} None (Some p) = e in cc)
stayed false party p was e = e

came_by : (b : Bool) (h : History) (party room number code r p : ℕ) (was : Option ℕ) → Reached h → (b ≡ true → room ≡ r)
    → number ≡ next_card h → (was ≡ Some p → (link : Link) × (newest_link h r ≡ Some link) × HasCard h p link)
    → when b (λ _. Some party) was ≡ Some p → GuestHasCard (when b (λ _. Some (link_to h room code))
    (newest_link h r)) (insert_entry nat_cmp (cards h) number (card_of number party (link_to h room code))) p
came_by true h party room number code r p was ok here next ih e =
    let same : party ≡ p = cc in (
      link_to h room code,
      refl,
      subst (λ z. HasCardAmong (insert_entry nat_cmp (cards h) number (card_of number party (link_to h room code))) z
          (link_to h room code)) same (made_card (cards h) number party (link_to h room code)),
    )
came_by false h party room number code r p was ok here next ih e =
    let g = ih e in
    (g.0, g.1, still_has h number (card_of number party (link_to h room code)) p g.0 ok next g.2)

-- a room where nobody is registered is none where somebody is
pub not_taken_here : (h : History) (room r p : ℕ)
    → is_taken h room ≡ false → registered h r ≡ Some p → (room == r) ≡ false
not_taken_here h room r p f e = by (room == r) refl
  where
    by : (b : Bool) → (room == r) ≡ b → (room == r) ≡ false
    by true t = not_both (is_taken h room) (ap (λ z. is_taken h z) (eq_from room r t) ∙ ap is_some e) f
    by false t = t

-- A registered party has a card of its room's newest link.
pub guests_have_cards : (h : History) → Reached h → GuestsHaveCards h
guests_have_cards (start t) ok r p e = guests_have_cards_at_start t ok r p e
guests_have_cards (h ▷ Issue party room number code) ok r p e =
    came_by (room == r) h party room number code r p (other_than party (registered h r)) ok.0 (eq_from room r)
    (may_follow h (Issue party room number code) ok).5
    (λ n. guests_have_cards h ok.0 r p (stayed (is_that (registered h r) party) party p (registered h r) n)) e
guests_have_cards (h ▷ CheckOut party) ok r p e =
    guests_have_cards h ok.0 r p (stayed (is_that (registered h r) party) party p (registered h r) e)
guests_have_cards (h ▷ Refitted room fit code) ok r p e =
    let g = guests_have_cards h ok.0 r p e in (
      g.0,
      ap (λ b. when b (λ (l : Option Link). None) (newest_link h r))
          (not_taken_here h room r p (may_follow h (Refitted room fit code) ok).1 e) ∙ g.1,
      g.2,
    )
guests_have_cards (h ▷ Spare party number) ok r p e =
    let g = guests_have_cards h ok.0 r p e in (
      g.0,
      g.1,
      still_has_spare (link_of_party h party) h party number p g.0 ok.0 (may_follow h (Spare party number) ok).2 g.2,
    )
guests_have_cards (h ▷ _) ok r p e = guests_have_cards h ok.0 r p e
