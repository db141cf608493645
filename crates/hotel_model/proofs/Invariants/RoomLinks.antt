-- Links of cards are neighbours among a room's codes.
use Rattle.std.proofs.Common.{ℕ, ◌≡◌, Bool, true, false, Option, Some, None, List, [], ◌∷◌, ◌++◌, inl, inr, refl, ap}
use Rattle.std.proofs.Common.{sym, ◌∙◌, subst, append_assoc, ◌==◌, nat_cmp}
use Rattle.hotel_model.proofs.Names.{insert_entry, Card, Link, when, and_last, last_of, at_number, Install, Issue}
use Rattle.hotel_model.proofs.Names.{Refitted, Spare, History, start, ◌▷◌, issued, current, cards, card_of, with_spare}
use Rattle.hotel_model.proofs.Names.{link_of_party, link_to, newest_link, is_room, Reached}
use Rattle.hotel_model.proofs.Facts.CodeFacts.{IsLinkOf, IsLink, CardsHaveLinks, PartiesHaveLinks, NewestAreLast}
use Rattle.hotel_model.proofs.Facts.CodeFacts.{HasCodes}
use Rattle.hotel_model.proofs.{OfTables.Tests.eq_from, OfTables.Tests.eq_self, OfTables.TableKeys.row_inserted}
use Rattle.hotel_model.proofs.{OfTables.CodeLists.last_split, Invariants.HomeRooms.comes_to_room}
use Rattle.hotel_model.proofs.{OfTables.Grown.may_follow}
use Rattle.hotel_model.proofs.Invariants.RoomCodes.{rooms_have_codes, others_have_none}
use Rattle.hotel_model.proofs.Starts.StartLinks.{cards_have_links_at_start, parties_have_links_at_start}
use Rattle.hotel_model.proofs.Starts.StartLinks.{newest_are_last_at_start}

-- neighbours stay neighbours
still_at : (b : Bool) (new : ℕ) (codes : List ℕ) (link : Link)
    → IsLinkOf codes link → IsLinkOf (when b (and_last new) codes) link
still_at true new codes link l = (
  l.0,
  l.1 ++ new ∷ [],
  ap (λ zs. zs ++ new ∷ []) l.2 ∙ append_assoc l.0 (link.old_code ∷ link.new_code ∷ l.1) (new ∷ []),
)
still_at false new codes link l = l

-- a link stays one when a code is issued
still_link : (h : History) (room new : ℕ) (link : Link)
    → IsLink h link → (r : ℕ) × IsLinkOf (when (room == r) (and_last new) (issued h r)) link
still_link h room new link l = (l.0, still_at (room == l.0) new (issued h l.0) link l.1)

-- the codes of a room that is there end with its current one
pub ends_with_current : (h : History) (room : ℕ)
    → HasCodes (issued h room) → (prefix : List ℕ) × (issued h room ≡ prefix ++ current h room ∷ [])
ends_with_current h room f =
    let l = last_split f.0 f.1 in (l.0, f.2 ∙ l.1 ∙ ap (λ zs. l.0 ++ last_of zs ∷ []) (sym f.2))

-- the last two codes of a room whose new code was just issued
pub new_last_two : (h : History) (room new : ℕ)
    → HasCodes (issued h room) → (prefix : List ℕ) × (issued h room ++ new ∷ [] ≡ prefix ++ current h room ∷ new ∷ [])
new_last_two h room new f =
    let l = ends_with_current h room f in
    (l.0, ap (λ zs. zs ++ new ∷ []) l.1 ∙ append_assoc l.0 (current h room ∷ []) (new ∷ []))

-- the link to a code is one after it was issued
made_link : (h : History) (room new : ℕ)
    → HasCodes (issued h room) → (r : ℕ) × IsLinkOf (when (room == r) (and_last new) (issued h r)) (link_to h room new)
made_link h room new f =
    let l = new_last_two h room new f in
    (room, (l.0, [], ap (λ b. when b (and_last new) (issued h room)) (eq_self room) ∙ l.1))

given_by : (b : Bool) (h : History) (room new : ℕ) (was : Option Link) (link : Link) → HasCodes (issued h room)
    → (was ≡ Some link → IsLink h link) → when b (λ _. Some (link_to h room new)) was ≡ Some link
    → (r : ℕ) × IsLinkOf (when (room == r) (and_last new) (issued h r)) link
given_by true h room new was link f ih e =
    let same : link_to h room new ≡ link = cc in
    subst (λ l. (r : ℕ) × IsLinkOf (when (room == r) (and_last new) (issued h r)) l) same (made_link h room new f)
given_by false h room new was link f ih e = still_link h room new link (ih e)

-- The link that a party was given last is one.
pub parties_have_links : (h : History) → Reached h → PartiesHaveLinks h
parties_have_links (start t) ok party link e = parties_have_links_at_start t ok party link e
parties_have_links (h ▷ Install room kind code) ok party link e =
    still_link h room code link (parties_have_links h ok.0 party link e)
parties_have_links (h ▷ Issue p room number code) ok party link e =
    given_by (p == party) h room code (link_of_party h party) link
    (rooms_have_codes h ok.0 room (comes_to_room h p room ok.0 (may_follow h (Issue p room number code) ok).0))
    (parties_have_links h ok.0 party link) e
parties_have_links (h ▷ Refitted room fit code) ok party link e =
    still_link h room code link (parties_have_links h ok.0 party link e)
parties_have_links (h ▷ _) ok party link e = parties_have_links h ok.0 party link e

carded : (h : History) (party room number new n : ℕ) (card : Card) → HasCodes (issued h room) → CardsHaveLinks h
    → at_number (insert_entry nat_cmp (cards h) number (card_of number party (link_to h room new))) n ≡ Some card
    → (r : ℕ) × IsLinkOf (when (room == r) (and_last new) (issued h r)) card.link
carded h party room number new n card f ih e =
    elim (row_inserted (cards h) number (card_of number party (link_to h room new)) card n e) [
      | inl p ↦
          let same : link_to h room new ≡ card.link = ap (λ (k : Card). k.link) p.1 in
          subst (λ l. (r : ℕ) × IsLinkOf (when (room == r) (and_last new) (issued h r)) l) same (made_link h room new f)
      | inr e' ↦ still_link h room new card.link (ih n card e')
    ]

spared : (o : Option Link) (h : History) (party number n : ℕ) (card : Card)
    → ((link : Link) → o ≡ Some link → IsLink h link) → CardsHaveLinks h
    → at_number (with_spare number party o (cards h)) n ≡ Some card → IsLink h card.link
spared (Some link) h party number n card had ih e =
    elim (row_inserted (cards h) number (card_of number party link) card n e) [
      | inl p ↦ subst (IsLink h) (ap (λ (k : Card). k.link) p.1) (had link refl)
      | inr e' ↦ ih n card e'
    ]
spared None h party number n card had ih e = ih n card e

-- The link of each card is one.
pub cards_have_links : (h : History) → Reached h → CardsHaveLinks h
cards_have_links (start t) ok n card e = cards_have_links_at_start t ok n card e
cards_have_links (h ▷ Install room kind code) ok n card e =
    still_link h room code card.link (cards_have_links h ok.0 n card e)
cards_have_links (h ▷ Issue party room number code) ok n card e =
    carded h party room number code n card (rooms_have_codes h ok.0 room
    (comes_to_room h party room ok.0 (may_follow h (Issue party room number code) ok).0)) (cards_have_links h ok.0) e
cards_have_links (h ▷ Spare party number) ok n card e =
    spared (link_of_party h party) h party number n card (parties_have_links h ok.0 party) (cards_have_links h ok.0) e
cards_have_links (h ▷ Refitted room fit code) ok n card e =
    still_link h room code card.link (cards_have_links h ok.0 n card e)
cards_have_links (h ▷ _) ok n card e = cards_have_links h ok.0 n card e

nothing_here : (prefix : List ℕ) (link : Link) → [] ≡ prefix ++ link.old_code ∷ link.new_code ∷ [] → ⊥
nothing_here [] link e = cc
nothing_here (x ∷ xs) link e = cc

newest_by : (b : Bool) (h : History) (room new r : ℕ) (link : Link) → (b ≡ true → room ≡ r) → HasCodes (issued h room)
    → NewestAreLast h → when b (λ _. Some (link_to h room new)) (newest_link h r) ≡ Some link
    → (prefix : List ℕ) × (when b (and_last new) (issued h r) ≡ prefix ++ link.old_code ∷ link.new_code ∷ [])
newest_by true h room new r link here f ih e =
    let same : link_to h room new ≡ link = cc in
    let l = new_last_two h room new f in (
      l.0,
      ap (λ z. issued h z ++ new ∷ []) (sym (here refl)) ∙ l.1
          ∙ ap (λ (k : Link). l.0 ++ k.old_code ∷ k.new_code ∷ []) same,
    )
newest_by false h room new r link here f ih e = ih r link e

installed_by : (b : Bool) (h : History) (room new r : ℕ) (link : Link)
    → (b ≡ true → issued h r ≡ []) → ((prefix : List ℕ) × (issued h r ≡ prefix ++ link.old_code ∷ link.new_code ∷ []))
    → (prefix : List ℕ) × (when b (and_last new) (issued h r) ≡ prefix ++ link.old_code ∷ link.new_code ∷ [])
installed_by true h room new r link none l = absurd (nothing_here l.0 link (sym (none refl) ∙ l.1))
installed_by false h room new r link none l = l

refitted_by : (b : Bool) (new : ℕ) (was : Option Link) (codes : List ℕ) (link : Link)
    → (was ≡ Some link → (prefix : List ℕ) × (codes ≡ prefix ++ link.old_code ∷ link.new_code ∷ []))
    → when b (λ _. None) was ≡ Some link
    → (prefix : List ℕ) × (when b (and_last new) codes ≡ prefix ++ link.old_code ∷ link.new_code ∷ [])
refitted_by true new was codes link ih e = absurd (let w : ◌≡◌ {A = Option Link} None (Some link) = e in cc)
refitted_by false new was codes link ih e = ih e

-- The newest link of a room is its last two codes.
pub newest_are_last : (h : History) → Reached h → NewestAreLast h
newest_are_last (start t) ok r link e = newest_are_last_at_start t ok r link e
newest_are_last (h ▷ Install room kind code) ok r link e =
    installed_by (room == r) h room code r link
    (λ t. (others_have_none h ok.0 r
    (ap (is_room h) (sym (eq_from room r t)) ∙ (may_follow h (Install room kind code) ok).1)).0)
    (newest_are_last h ok.0 r link e)
newest_are_last (h ▷ Issue party room number code) ok r link e =
    newest_by (room == r) h room code r link (eq_from room r) (rooms_have_codes h ok.0 room
    (comes_to_room h party room ok.0 (may_follow h (Issue party room number code) ok).0)) (newest_are_last h ok.0) e
newest_are_last (h ▷ Refitted room fit code) ok r link e =
    refitted_by (room == r) code (newest_link h r) (issued h r) link (newest_are_last h ok.0 r link) e
newest_are_last (h ▷ _) ok r link e = newest_are_last h ok.0 r link e
