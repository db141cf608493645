-- The links of sound rows: a card's codes are neighbours at a room, and a link is one party's.
use Rattle.std.proofs.Common.{ℕ, ◌≡◌, ◌+◌, ◌-◌, Bool, true, false, cond, Option, Some, None, List, [], ◌∷◌, ◌++◌}
use Rattle.std.proofs.Common.{length, refl, ap, sym, ◌∙◌, subst, arith, append_assoc, length-append, ◌==◌, ◌&&◌, ◌||◌}
use Rattle.std.proofs.Common.{not, nat_cmp}
use Rattle.hotel_model.proofs.Names.{list_all, keys_of, Card, Link, CodeRow, said_of, last_of, Rows, at_number}
use Rattle.hotel_model.proofs.Names.{codes_at, last_link_of, newest_link_at, begins_fit, link_of_last_card, or_else}
use Rattle.hotel_model.proofs.Names.{start, same_link, stands_at, is_newest, IsSound}
use Rattle.hotel_model.proofs.Facts.CodeFacts.{IsLinkOf, CardsHaveLinks, PartiesHaveLinks, PartiesHaveCards}
use Rattle.hotel_model.proofs.Facts.CodeFacts.{CardsOneParty, NewestAreLast}
use Rattle.hotel_model.proofs.{OfTables.KeysInOrder.InOrder, OfTables.CodeLists.cut_alike, OfTables.CodeLists.last_more}
use Rattle.hotel_model.proofs.{OfTables.Tests.eq_from, OfTables.Tests.eq_self, OfTables.Tests.and_true}
use Rattle.hotel_model.proofs.{OfTables.Tests.or_second, OfTables.TableKeys.is_at_self}
use Rattle.hotel_model.proofs.{OfTables.RowTests.found_passes, Starts.StartRules.said_true, Starts.StartRules.link_is}
use Rattle.hotel_model.proofs.{Starts.StartOrder.found_later, Starts.StartSplits.SplitsAt}
use Rattle.hotel_model.proofs.Starts.StartCodes.{orders, row_is_place, place_is_row}

neighbours : (xs : List ℕ) (a b p q : ℕ) → SplitsAt xs a p → SplitsAt xs b q → q ≡ p + 1
    → (before : List ℕ) × (later : List ℕ) × (xs ≡ before ++ a ∷ b ∷ later)
neighbours xs a b p q s t e =
    let l = length-append s.0 (a ∷ []) in
    let m : length s.0 ≡ p = s.3 in
    let n : length t.0 ≡ q = t.3 in
    let c = cut_alike (s.0 ++ a ∷ []) t.0 s.1 (b ∷ t.1) (omega arith) (append_assoc s.0 (a ∷ []) s.1 ∙ sym s.2 ∙ t.2) in
    (s.0, t.1, s.2 ∙ ap (λ zs. s.0 ++ a ∷ zs) c.1)

-- a link that stands at a room is two neighbours of its codes
pub stands_is : (t : Rows) → IsSound t → (room : ℕ) (link : Link)
    → stands_at t room link ≡ true → IsLinkOf (codes_at t room) link
stands_is t s room link e =
    let old = said_true (at_number t.codes link.old_code) (λ old. said_of (at_number t.codes link.new_code) false
    (λ new. (old.room == room) && (new.room == room) && (new.place == old.place + 1))) e in
    let new = said_true (at_number t.codes link.new_code)
    (λ new. (old.0.room == room) && (new.room == room) && (new.place == old.0.place + 1)) old.2 in
    let p = and_true ((old.0.room == room) && (new.0.room == room)) (new.0.place == old.0.place + 1) new.2 in
    let q = and_true (old.0.room == room) (new.0.room == room) p.0 in
    neighbours (codes_at t room) link.old_code link.new_code old.0.place new.0.place
    (subst (λ z. SplitsAt (codes_at t z) link.old_code old.0.place) (eq_from old.0.room room q.0)
    (row_is_place t s link.old_code old.0 old.1))
    (subst (λ z. SplitsAt (codes_at t z) link.new_code new.0.place) (eq_from new.0.room room q.1)
    (row_is_place t s link.new_code new.0 new.1))
    (eq_from new.0.place (old.0.place + 1) p.1)

-- The codes of each card are neighbours at a room.
pub cards_have_links_at_start : (t : Rows) → IsSound t → CardsHaveLinks (start t)
cards_have_links_at_start t s n card e =
    let a = found_passes (λ (e : ℕ × Card). said_of (at_number t.codes e.1.link.new_code) false
    (λ new. stands_at t new.room e.1.link)) t.cards n card s.card_link e in
    let new = said_true (at_number t.codes card.link.new_code) (λ new. stands_at t new.room card.link) a in
    (new.0.room, stands_is t s new.0.room card.link new.2)

-- a card of a party, with a link
abbrev HasCardIn : List (ℕ × Card) → ℕ → Link → Type 0
HasCardIn all party link =
    (n : ℕ) × (card : Card) × (at_number all n ≡ Some card) × (card.link ≡ link) × (card.party ≡ party)

last_by : (o : Option Link) (b : Bool) (e : ℕ × Card) (es : List (ℕ × Card)) (party : ℕ) (link : Link)
    → (b ≡ true → e.1.party ≡ party) → (o ≡ Some link → HasCardIn (e ∷ es) party link)
    → or_else o (cond b (Some e.1.link) None) ≡ Some link → HasCardIn (e ∷ es) party link
last_by (Some l) b e es party link here ih f = ih f
last_by None true e es party link here ih f =
    let first : at_number (e ∷ es) e.0 ≡ Some e.1 = ap (λ t. cond t (Some e.1) (at_number es e.0)) (is_at_self e.0) in
    let w : e.1.link ≡ link = cc in
    (e.0, e.1, first, w, here refl)
last_by None false e es party link here ih f = absurd (let w : ◌≡◌ {A = Option Link} None (Some link) = f in cc)

last_is_card : (es : List (ℕ × Card)) (party : ℕ) (link : Link)
    → InOrder nat_cmp (keys_of es) → link_of_last_card es party ≡ Some link → HasCardIn es party link
last_is_card [] party link s f = absurd (let w : ◌≡◌ {A = Option Link} None (Some link) = f in cc)
last_is_card (e ∷ es) party link s f =
    last_by (link_of_last_card es party) (e.1.party == party) e es party link (eq_from e.1.party party)
    (λ g. let c = last_is_card es party link s.1 g in (c.0, c.1, found_later e es c.0 c.1 s.0 c.2, c.3, c.4)) f

-- A party has a card of the link of its last one.
pub parties_have_cards_at_start : (t : Rows) → IsSound t → PartiesHaveCards (start t)
parties_have_cards_at_start t s party link e = last_is_card t.cards party link (orders t s).cards e

-- This link is one.
pub parties_have_links_at_start : (t : Rows) → IsSound t → PartiesHaveLinks (start t)
parties_have_links_at_start t s party link e =
    let c = last_is_card t.cards party link (orders t s).cards e in
    let l = cards_have_links_at_start t s c.0 c.1 c.2 in
    (l.0, subst (λ z. IsLinkOf (codes_at t l.0) z) c.3 l.1)

last_two : (xs : List ℕ) (link : Link)
    → last_link_of xs ≡ Some link → (prefix : List ℕ) × (xs ≡ prefix ++ link.old_code ∷ link.new_code ∷ [])
last_two [] link e = absurd (let w : ◌≡◌ {A = Option Link} None (Some link) = e in cc)
last_two (c ∷ []) link e = absurd (let w : ◌≡◌ {A = Option Link} None (Some link) = e in cc)
last_two (c ∷ d ∷ []) link e =
    let w : (let k : Link = record { old_code = c; new_code = d } in k) ≡ link = cc in
    let none : List ℕ = [] in
    (none, ap (λ (k : Link). k.old_code ∷ k.new_code ∷ []) w)
last_two (c ∷ d ∷ x ∷ xs) link e = let l = last_two (d ∷ x ∷ xs) link e in (c ∷ l.0, ap (λ zs. c ∷ zs) l.1)

-- a link that is there where no fit begins
pub unless_begun : (b : Bool) (last : Option Link) (link : Link) → cond b None last ≡ Some link → last ≡ Some link
unless_begun true last link e = absurd (let w : ◌≡◌ {A = Option Link} None (Some link) = e in cc)
unless_begun false last link e = e

-- The newest link of a room is its last two codes.
pub newest_are_last_at_start : (t : Rows) → IsSound t → NewestAreLast (start t)
newest_are_last_at_start t s r link e = last_two (codes_at t r) link
    (unless_begun (begins_fit t r (length (codes_at t r) - 1)) (last_link_of (codes_at t r)) link e)

link_self : (link : Link) → same_link link link ≡ true
link_self link = ap (λ z. z && (link.new_code == link.new_code)) (eq_self link.old_code) ∙ eq_self link.new_code

-- links with one new code have one old code
same_old : (t : Rows) → IsSound t → (r q : ℕ) (a b : Link)
    → IsLinkOf (codes_at t r) a → IsLinkOf (codes_at t q) b → a.new_code ≡ b.new_code → a ≡ b
same_old t s r q a b l m n =
    let e = l.2 ∙ sym (append_assoc l.0 (a.old_code ∷ []) (a.new_code ∷ l.1)) in
    let f = m.2 ∙ sym (append_assoc m.0 (b.old_code ∷ []) (b.new_code ∷ m.1)) in
    let x = place_is_row t s r (l.0 ++ a.old_code ∷ []) a.new_code l.1 e in
    let y = place_is_row t s q (m.0 ++ b.old_code ∷ []) b.new_code m.1 f in
    let w : Some (let k : CodeRow = record { room = r; place = length (l.0 ++ a.old_code ∷ []) } in
    k) ≡ Some (record { room = q; place = length (m.0 ++ b.old_code ∷ []) }) = sym x ∙ ap (at_number t.codes) n ∙ y in
    let rooms : r ≡ q = ap (λ o. elim o [ Some x ↦ x.room | None ↦ 0 ]) w in
    let lengths : length (l.0 ++ a.old_code ∷ []) ≡ length (m.0 ++ b.old_code ∷ []) =
    ap (λ o. elim o [ Some x ↦ x.place | None ↦ 0 ]) w in
    let c = (cut_alike (l.0 ++ a.old_code ∷ []) (m.0 ++ b.old_code ∷ []) (a.new_code ∷ l.1) (b.new_code ∷ m.1) lengths
    (sym e ∙ ap (codes_at t) rooms ∙ f)).0 in
    let old : a.old_code ≡ b.old_code = sym (last_more l.0 a.old_code) ∙ ap last_of c ∙ last_more m.0 b.old_code in
    ap (λ z. let k : Link = record { old_code = z; new_code = a.new_code } in k) old ∙ ap
    (λ z. let k : Link = record { old_code = b.old_code; new_code = z } in k) n

-- Cards that bring the same new code are one party's.
pub cards_one_party_at_start : (t : Rows) → IsSound t → CardsOneParty (start t)
cards_one_party_at_start t s n m a b e f same =
    let l = cards_have_links_at_start t s n a e in
    let k = cards_have_links_at_start t s m b f in
    let link : a.link ≡ b.link = same_old t s l.0 k.0 a.link b.link l.1 k.1 same in
    let p = found_passes (λ (x : ℕ × Card). list_all (λ (y : ℕ × Card). not (same_link x.1.link y.1.link)
    || (x.1.party == y.1.party)) t.cards) t.cards n a s.card_one_party e in
    let q =
    found_passes (λ (y : ℕ × Card). not (same_link a.link y.1.link) || (a.party == y.1.party)) t.cards m b p f in
    eq_from a.party b.party (or_second (not (same_link a.link b.link)) (a.party == b.party)
    (ap not (ap (same_link a.link) (sym link) ∙ link_self a.link)) q)

-- the newest link, as the rules say it
pub newest_by_rule : (t : Rows) (room : ℕ) (link : Link)
    → is_newest t room link ≡ true → newest_link_at t room ≡ Some link
newest_by_rule t room link e =
    let n = said_true (newest_link_at t room) (λ newest. same_link newest link) e in
    n.1 ∙ ap (λ z. Some z) (link_is n.0 link n.2)
