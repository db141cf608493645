-- Links as the rows tell them: where they stand, and which is a room's newest and a party's last.
use Rattle.std.proofs.Common.{ℕ, ◌≡◌, Bool, true, false, cond, Option, Some, None, List, [], ◌∷◌, ◌++◌, length, refl}
use Rattle.std.proofs.Common.{ap, sym, ◌∙◌, append_assoc, arith, length-append, ◌-◌, ◌==◌, if◌then◌else◌, nat_cmp}
use Rattle.hotel_model.proofs.Names.{insert_entry, Card, Link, CodeRow, when, said_of, at_number, begins_fit}
use Rattle.hotel_model.proofs.Names.{newest_link_at, last_link_of, or_else, link_of_last_card, Issue, Spare, History}
use Rattle.hotel_model.proofs.Names.{start, ◌▷◌, issued, all_issued, cards, card_of, with_spare, link_of_party, link_to}
use Rattle.hotel_model.proofs.Names.{newest_link, rows_of, next_card, same_link, Reached, code_is, stands_at}
use Rattle.hotel_model.proofs.Names.{are_neighbours, is_newest}
use Rattle.hotel_model.proofs.{Facts.CodeFacts.IsLinkOf, OfTables.Tests.eq_from, OfTables.Tests.eq_self}
use Rattle.hotel_model.proofs.{OfTables.Tests.not_both, OfTables.Grown.may_follow}
use Rattle.hotel_model.proofs.{OfTables.Counting.comes_last, Invariants.Numbering.cards_count}
use Rattle.hotel_model.proofs.{Invariants.CodePlaces.codes_have_places}
use Rattle.hotel_model.proofs.{Invariants.NewestLinks.newest_by_rows, Starts.StartRules.link_is, OfTables.RowTests.both}
use Rattle.hotel_model.proofs.{SoundRows.SoundRoomRows.eq_tested}
use Rattle.hotel_model.proofs.OfTables.CodesByPlace.{codes_are_placed}

pub said_some : {X : Type 0} (o : Option X) (x : X) (test : X → Bool)
    → o ≡ Some x → test x ≡ true → said_of o false test ≡ true
said_some o x test e t = ap (λ z. said_of z false test) e ∙ t

-- the row of a link's new code
pub new_at : (h : History) → Reached h → (r : ℕ) (link : Link) → (l : IsLinkOf (issued h r) link)
    → at_number (all_issued h) link.new_code ≡ Some (record { room = r; place = length (l.0 ++ link.old_code ∷ []) })
new_at h ok r link l = codes_have_places h ok r (l.0 ++ link.old_code ∷ []) link.new_code l.1
    (l.2 ∙ sym (append_assoc l.0 (link.old_code ∷ []) (link.new_code ∷ l.1)))

-- A link of a room stands there in the rows.
pub link_stands : (h : History) → Reached h → (r : ℕ) (link : Link)
    → IsLinkOf (issued h r) link → stands_at (rows_of h) r link ≡ true
link_stands h ok r link l =
    let old : CodeRow = record { room = r; place = length l.0 } in
    let new : CodeRow = record { room = r; place = length (l.0 ++ link.old_code ∷ []) } in
    said_some (at_number (all_issued h) link.old_code) old (λ x. code_is (rows_of h) link.new_code (are_neighbours r x))
    (codes_have_places h ok r l.0 link.old_code (link.new_code ∷ l.1) l.2)
    (said_some (at_number (all_issued h) link.new_code) new (are_neighbours r old) (new_at h ok r link l)
    (both _ _ (both _ _ (eq_self r) (eq_self r)) (eq_tested _ _ (length-append l.0 (link.old_code ∷ [])))))

-- The newest link of a room is the one that the rows tell.
pub newest_told : (h : History) → Reached h → (r : ℕ) → newest_link_at (rows_of h) r ≡ newest_link h r
newest_told h ok r =
    ap (λ (codes : List ℕ). if begins_fit (rows_of h) r (length codes - 1) then None
    else last_link_of codes) (codes_are_placed h ok r).1 ∙ sym (newest_by_rows h ok r)

pub same_self : (link : Link) → same_link link link ≡ true
same_self link = both _ _ (eq_self link.old_code) (eq_self link.new_code)

-- A room's newest link is the newest of the rows.
pub newest_tested : (h : History) → Reached h → (r : ℕ) (link : Link)
    → newest_link h r ≡ Some link → is_newest (rows_of h) r link ≡ true
newest_tested h ok r link e = said_some (newest_link_at (rows_of h) r) link (λ newest. same_link newest link)
    (newest_told h ok r ∙ e) (same_self link)

newest_by : (h : History) → Reached h → (r : ℕ) (link : Link) (o : Option Link) → newest_link_at (rows_of h) r ≡ o
    → said_of o false (λ newest. same_link newest link) ≡ true → newest_link h r ≡ Some link
newest_by h ok r link (Some newest) e t = sym (newest_told h ok r) ∙ e ∙ ap (λ z. Some z) (link_is newest link t)
newest_by h ok r link None e t = not_both false t refl

-- and the other way
pub tested_newest : (h : History) → Reached h → (r : ℕ) (link : Link)
    → is_newest (rows_of h) r link ≡ true → newest_link h r ≡ Some link
tested_newest h ok r link t = newest_by h ok r link (newest_link_at (rows_of h) r) refl t

-- The next card comes last.
pub card_comes_last : (h : History) → Reached h → (number : ℕ) (card : Card)
    → number ≡ next_card h → insert_entry nat_cmp (cards h) number card ≡ cards h ++ (number, card) ∷ []
card_comes_last h ok number card n = comes_last 1 (cards h) number card (cards_count h ok) (omega arith)

last_by : (b : Bool) (link : Link) (later mine : Option Link)
    → or_else (cond b (Some link) later) mine ≡ cond b (Some link) (or_else later mine)
last_by true link later mine = refl
last_by false link later mine = refl

last_alone : (b : Bool) (link : Link) → or_else None (cond b (Some link) None) ≡ cond b (Some link) None
last_alone b link = refl

-- the link of a party's last card, with one card more
last_more : (es : List (ℕ × Card)) (number : ℕ) (card : Card) (p : ℕ)
    → link_of_last_card (es ++ (number, card) ∷ []) p ≡ cond (card.party == p) (Some card.link) (link_of_last_card es p)
last_more [] number card p = last_alone (card.party == p) card.link
last_more (e ∷ es) number card p =
    ap (λ later. or_else later (if e.1.party == p then Some e.1.link else None)) (last_more es number card p)
    ∙ last_by (card.party == p) card.link (link_of_last_card es p) (if e.1.party == p then Some e.1.link else None)

given_by : (b : Bool) (link : Link) (last of_party : Option Link)
    → last ≡ of_party → cond b (Some link) last ≡ when b (λ _. Some link) of_party
given_by true link last of_party e = refl
given_by false link last of_party e = e

issue_last : (h : History) (party number : ℕ) (link : Link) (p : ℕ)
    → Reached h → number ≡ next_card h → link_of_last_card (cards h) p ≡ link_of_party h p
    → link_of_last_card (insert_entry nat_cmp (cards h) number (card_of number party link)) p
    ≡ when (party == p) (λ _. Some link) (link_of_party h p)
issue_last h party number link p ok n ih =
    ap (λ es. link_of_last_card es p) (card_comes_last h ok number (card_of number party link) n)
    ∙ last_more (cards h) number (card_of number party link) p
    ∙ given_by (party == p) link (link_of_last_card (cards h) p) (link_of_party h p) ih

own_again : (b : Bool) (link : Link) (of_party : Option Link)
    → (b ≡ true → of_party ≡ Some link) → when b (λ _. Some link) of_party ≡ of_party
own_again true link of_party f = sym (f refl)
own_again false link of_party f = refl

spare_last : (o : Option Link) (h : History) (party number p : ℕ)
    → Reached h → number ≡ next_card h → link_of_party h party ≡ o → link_of_last_card (cards h) p ≡ link_of_party h p
    → link_of_last_card (with_spare number party o (cards h)) p ≡ link_of_party h p
spare_last (Some link) h party number p ok n e ih =
    issue_last h party number link p ok n ih
    ∙ own_again (party == p) link (link_of_party h p) (λ t. ap (link_of_party h) (sym (eq_from party p t)) ∙ e)
spare_last None h party number p ok n e ih = ih

-- The link of a party's last card is the one that it was given last.
pub last_cards : (h : History) → Reached h → (p : ℕ) → link_of_last_card (cards h) p ≡ link_of_party h p
last_cards (start t) ok p = refl
last_cards (h ▷ Issue party room number code) ok p = issue_last h party number (link_to h room code) p ok.0
    (may_follow h (Issue party room number code) ok).5 (last_cards h ok.0 p)
last_cards (h ▷ Spare party number) ok p = spare_last (link_of_party h party) h party number p ok.0
    (may_follow h (Spare party number) ok).2 refl (last_cards h ok.0 p)
last_cards (h ▷ _) ok p = last_cards h ok.0 p
