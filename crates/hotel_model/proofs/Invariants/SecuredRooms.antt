-- Who is inside a secured room.
use Rattle.std.proofs.Common.{ℕ, ◌≡◌, Bool, true, false, Option, None, Some, List, [], ◌∷◌, ◌++◌, ◌⊎◌, inl, inr, refl}
use Rattle.std.proofs.Common.{ap, sym, ◌∙◌, subst, append_assoc, ◌==◌, ◌&&◌, ◌||◌, ◌+◌, length, nat_cmp}
use Rattle.hotel_model.proofs.Names.{insert_entry, Card, Link, when, and_last, is_one_of, after, without, last_of}
use Rattle.hotel_model.proofs.Names.{at_number, Moment, Install, Issue, Refitted, Spare, Entered, Left, Recoded}
use Rattle.hotel_model.proofs.Names.{History, start, ◌▷◌, issued, current, cards, card_of, link_to, newest_link}
use Rattle.hotel_model.proofs.Names.{link_of_party, held, passed, awaited, turns, insiders, inside, those_in}
use Rattle.hotel_model.proofs.Names.{those_elsewhere, secured, are_none, rooms, is_room, Reached, SafeRoom}
use Rattle.hotel_model.proofs.{Facts.Follow.MayFollow, Facts.CodeFacts.SecuredRoomsFit}
use Rattle.hotel_model.proofs.OfTables.Tests.{eq_from, eq_self, and_true, either_way, not_both}
use Rattle.hotel_model.proofs.{OfTables.TableKeys.key_inserted, OfTables.CodeLists.last_more, OfTables.Grown.may_follow}
use Rattle.hotel_model.proofs.{Invariants.RoomCodes.rooms_have_codes}
use Rattle.hotel_model.proofs.{Invariants.CodePlaces.same_place, Invariants.RoomLinks.ends_with_current}
use Rattle.hotel_model.proofs.{Invariants.RoomLinks.newest_are_last}
use Rattle.hotel_model.proofs.Invariants.LedgerOrder.{ledger_holds, link_seen, card_seen}
use Rattle.hotel_model.proofs.{Invariants.OpenLocks.opened_by, Invariants.OpenLocks.link_of_room}
use Rattle.hotel_model.proofs.{Invariants.CodesFound.entered_in_order, Invariants.NewestLinks.newest_of_card}
use Rattle.hotel_model.proofs.Invariants.InsideRooms.{came_in, left_out, elsewhere_in, nobody_in, one_of_these}
use Rattle.hotel_model.proofs.Invariants.CardParties.{card_kept, card_kept_spare, cards_one_party, guests_have_cards}
use Rattle.hotel_model.proofs.Starts.StartSecured.{secured_rooms_fit_at_start, secured_have_newest_at_start}

-- The room is there and its lock awaits no code, and each card inside has its newest link.
abbrev pub IsUpToDate : History → ℕ → Type 0
IsUpToDate h r = (is_room h r ≡ true) × (awaited h r ≡ [])
    × ((number : ℕ) → is_one_of number (inside h r) ≡ true
    → (card : Card) × (at_number (cards h) number ≡ Some card) × (newest_link h r ≡ Some card.link))

was_secured : (b c : Bool) → when b (λ _. false) c ≡ true → (b ≡ false) × (c ≡ true)
was_secured true c e = not_both false e refl
was_secured false c e = (refl, e)

-- a room is secured by an entry, or was so
pub secured_by : (b c : Bool) → when b (λ _. true) c ≡ true → (b ≡ true) ⊎ (c ≡ true)
secured_by true c e = inl refl
secured_by false c e = inr e

or_there : (a b : Bool) → b ≡ true → (a || b) ≡ true
or_there true b e = refl
or_there false b e = e

-- the link is that of the room's last two codes, if nothing is awaited
newest_if_none : (h : History) → Reached h → (room number : ℕ) (link : Link) (fit count : ℕ) (at : Moment)
    → MayFollow h (Entered room fit count number link at) → awaited h room ≡ [] → newest_link h room ≡ Some link
newest_if_none h ok room number link fit count at needs none =
    let same = ledger_holds h ok room needs.1 in
    let l = link_of_room h ok room link needs.1 (link_seen h number link ok needs.2 needs.3) needs.4 in
    let c = card_seen h number link needs.2 needs.3 in
    elim (opened_by (held h room) link needs.4) [
      | inl q ↦
          let e : issued h room ≡ passed h room ++ link.new_code ∷ awaited h room =
          sym same ∙ ap (λ z. passed h room ++ z ∷ awaited h room) q in
          let f = l.2 ∙ sym (append_assoc l.0 (link.old_code ∷ []) (link.new_code ∷ l.1)) in
          let p = (same_place h ok room room link.new_code (passed h room) (awaited h room)
          (l.0 ++ link.old_code ∷ []) l.1 e f).2 in
          newest_of_card h ok room l.0 number c.0 link c.1 c.2
          (l.2 ∙ ap (λ zs. l.0 ++ link.old_code ∷ link.new_code ∷ zs) (sym p ∙ none))
      | inr q ↦
          let e : issued h room ≡ passed h room ++ link.old_code ∷ awaited h room =
          sym same ∙ ap (λ z. passed h room ++ z ∷ awaited h room) q in
          let p = (same_place h ok room room link.old_code (passed h room) (awaited h room) l.0
          (link.new_code ∷ l.1) e l.2).2 in
          absurd (let w : ◌≡◌ {A = List ℕ} [] (link.new_code ∷ l.1) = sym none ∙ p in cc)
    ]

-- so it is if its new code is the current one
newest_if_current : (h : History) → Reached h → (room number : ℕ) (link : Link) (fit count : ℕ) (at : Moment)
    → MayFollow h (Entered room fit count number link at) → link.new_code ≡ current h room
    → newest_link h room ≡ Some link
newest_if_current h ok room number link fit count at needs cur =
    let l = link_of_room h ok room link needs.1 (link_seen h number link ok needs.2 needs.3) needs.4 in
    let f = l.2 ∙ sym (append_assoc l.0 (link.old_code ∷ []) (link.new_code ∷ l.1)) in
    let c = ends_with_current h room (rooms_have_codes h ok room needs.1) in
    let p = (same_place h ok room room link.new_code (l.0 ++ link.old_code ∷ []) l.1 c.0 [] f
    (c.1 ∙ ap (λ z. c.0 ++ z ∷ []) (sym cur))).2 in
    let seen = card_seen h number link needs.2 needs.3 in
    newest_of_card h ok room l.0 number seen.0 link seen.1 seen.2
    (l.2 ∙ ap (λ zs. l.0 ++ link.old_code ∷ link.new_code ∷ zs) p)

-- an entry by the newest link leaves nothing awaited
none_awaited : (h : History) → Reached h → (room fit count number : ℕ) (link : Link) (at : Moment)
    → MayFollow h (Entered room fit count number link at)
    → (prefix : List ℕ) → issued h room ≡ prefix ++ link.new_code ∷ []
    → awaited (h ▷ Entered room fit count number link at) room ≡ []
none_awaited h ok room fit count number link at needs prefix e =
    let h' : History = h ▷ Entered room fit count number link at in
    (same_place h ok room room link.new_code (passed h' room)
    (awaited h' room) prefix [] (entered_in_order h ok room fit count number link at needs) e).2

-- the newest link's new code is the room's last
ends_with_new : (h : History) → Reached h → (r : ℕ) (link : Link)
    → newest_link h r ≡ Some link → (prefix : List ℕ) × (issued h r ≡ prefix ++ link.new_code ∷ [])
ends_with_new h ok r link e =
    let l = newest_are_last h ok r link e in
    (l.0 ++ link.old_code ∷ [], l.1 ∙ sym (append_assoc l.0 (link.old_code ∷ []) (link.new_code ∷ [])))

-- an entry by the newest link
entered_so : (h : History) → Reached h → (room fit count number : ℕ) (link : Link) (at : Moment)
    → MayFollow h (Entered room fit count number link at) → newest_link h room ≡ Some link
    → ((n : ℕ) → is_one_of n (inside h room) ≡ true → (card : Card) × (at_number (cards h) n ≡ Some card)
    × (newest_link h room ≡ Some card.link)) → IsUpToDate (h ▷ Entered room fit count number link at) room
entered_so h ok room fit count number link at needs newest those =
    let last = ends_with_new h ok room link newest in (
      needs.1,
      none_awaited h ok room fit count number link at needs last.0 last.1,
      λ n t. elim (came_in (insiders h) room number room n t) [
        | inl p ↦
            let c = card_seen h number link needs.2 needs.3 in
            (c.0, ap (at_number (cards h)) (sym p.1) ∙ c.1, newest ∙ ap (λ z. Some z) (sym c.2))
        | inr q ↦ those n q
      ],
    )

-- an entry at the room
entered_here : (h : History) → Reached h → (room fit count number : ℕ) (link : Link) (at : Moment)
    → MayFollow h (Entered room fit count number link at) → (secured h room ≡ true → IsUpToDate h room)
    → secured (h ▷ Entered room fit count number link at) room ≡ true
    → IsUpToDate (h ▷ Entered room fit count number link at) room
entered_here h ok room fit count number link at needs ih e =
    elim (secured_by ((room == room) && (link.new_code == current h room) && are_none (inside h room))
    (secured h room) e) [
      | inl t ↦
          let p = and_true (link.new_code == current h room) (are_none (inside h room))
          (sym (ap (λ b. b && (link.new_code == current h room) && are_none (inside h room)) (eq_self room)) ∙ t) in
          entered_so h ok room fit count number link at needs
          (newest_if_current h ok room number link fit count at needs (eq_from link.new_code (current h room) p.0))
          (λ n q. not_both (is_one_of n (inside h room)) q (nobody_in (inside h room) n p.1))
      | inr s ↦
          let was = ih s in
          entered_so h ok room fit count number link at needs
          (newest_if_none h ok room number link fit count at needs was.1) was.2
    ]

-- an entry at another room
entered_elsewhere : (h : History) (room fit count number : ℕ) (link : Link) (at : Moment) (r : ℕ)
    → (room == r) ≡ false → (secured h r ≡ true → IsUpToDate h r)
    → secured (h ▷ Entered room fit count number link at) r ≡ true
    → IsUpToDate (h ▷ Entered room fit count number link at) r
entered_elsewhere h room fit count number link at r f ih e =
    let was = ih (sym (ap (λ b. when (b && (link.new_code == current h room) && are_none (inside h room))
    (λ _. true) (secured h r)) f) ∙ e) in (
      was.0,
      ap (λ b. when (b && turns h room link) (without link.new_code) (awaited h r)) f ∙ was.1,
      λ n t. elim (came_in (insiders h) room number r n t) [
        | inl p ↦ not_both (room == r) (ap (λ z. z == r) p.0 ∙ eq_self r) f
        | inr q ↦ was.2 n q
      ],
    )

none_after : (b : Bool) (to : ℕ) (codes : List ℕ) → codes ≡ [] → when b (after to) codes ≡ []
none_after true to codes e = ap (after to) e
none_after false to codes e = e

-- a new code at a room
issued_so : (b : Bool) (h : History) (party room number code r : ℕ) → Reached h → number ≡ length (cards h) + 1
    → when b (λ _. false) (secured h r) ≡ true → (secured h r ≡ true → IsUpToDate h r)
    → (is_room h r ≡ true) × (when b (and_last code) (awaited h r) ≡ [])
    × ((n : ℕ) → is_one_of n (inside h r) ≡ true → (card : Card)
    × (at_number (insert_entry nat_cmp (cards h) number (card_of number party (link_to h room code))) n ≡ Some card)
    × (when b (λ _. Some (link_to h room code)) (newest_link h r) ≡ Some card.link))
issued_so true h party room number code r ok next e ih = not_both false e refl
issued_so false h party room number code r ok next e ih =
    let was = ih e in (
      was.0,
      was.1,
      λ n t. let c = was.2 n t in
          (c.0, card_kept h number (card_of number party (link_to h room code)) n c.0 ok next c.1, c.2),
    )

-- a new lock at a room
refitted_so : (b : Bool) (h : History) (room r : ℕ)
    → when b (λ _. false) (secured h r) ≡ true → (secured h r ≡ true → IsUpToDate h r)
    → (is_room h r ≡ true) × (when b (λ (codes : List ℕ). []) (awaited h r) ≡ [])
    × ((n : ℕ) → is_one_of n (those_in (those_elsewhere room (insiders h)) r) ≡ true → (card : Card)
    × (at_number (cards h) n ≡ Some card) × (when b (λ (l : Option Link). None) (newest_link h r) ≡ Some card.link))
refitted_so true h room r e ih = not_both false e refl
refitted_so false h room r e ih =
    let was = ih e in (was.0, was.1, λ n t. was.2 n (elsewhere_in (insiders h) room r n t))

-- A secured room awaits no code, and each card inside has its newest link.
pub secured_rooms_fit : (h : History) → Reached h → SecuredRoomsFit h
secured_rooms_fit (start t) ok r e = secured_rooms_fit_at_start t ok r e
secured_rooms_fit (h ▷ Install room kind code) ok r e =
    let was = secured_rooms_fit h ok.0 r (was_secured (room == r) (secured h r) e).1 in
    (key_inserted (rooms h) room kind r ∙ or_there (room == r) (is_room h r) was.0, was.1, was.2)
secured_rooms_fit (h ▷ Issue party room number code) ok r e =
    issued_so (room == r) h party room number code r ok.0
    (may_follow h (Issue party room number code) ok).5 e (secured_rooms_fit h ok.0 r)
secured_rooms_fit (h ▷ Refitted room fit code) ok r e = refitted_so (room == r) h room r e (secured_rooms_fit h ok.0 r)
secured_rooms_fit (h ▷ Spare party number) ok r e =
    let was = secured_rooms_fit h ok.0 r e in (
      was.0,
      was.1,
      λ n t. let c = was.2 n t in (
        c.0,
        card_kept_spare (link_of_party h party) h party number n c.0 ok.0 (may_follow h (Spare party number) ok).2 c.1,
        c.2,
      ),
    )
secured_rooms_fit (h ▷ Entered room fit count number link at) ok r e =
    let needs = may_follow h (Entered room fit count number link at) ok in
    let h' : History = h ▷ Entered room fit count number link at in
    elim (either_way (room == r)) [
      | inl t ↦
          subst (λ z. (secured h z ≡ true → IsUpToDate h z) → secured h' z ≡ true → IsUpToDate h' z) (eq_from room r t)
          (entered_here h ok.0 room fit count number link at needs) (secured_rooms_fit h ok.0 r) e
      | inr f ↦ entered_elsewhere h room fit count number link at r f (secured_rooms_fit h ok.0 r) e
    ]
secured_rooms_fit (h ▷ Left room fit count number link at) ok r e =
    let was = secured_rooms_fit h ok.0 r e in
    (was.0, was.1, λ n t. was.2 n (left_out (insiders h) (room, number) r n t))
secured_rooms_fit (h ▷ Recoded room fit count from to at) ok r e =
    let was = secured_rooms_fit h ok.0 r e in
    (was.0, none_after (room == r) to (awaited h r) was.1, was.2)
secured_rooms_fit (h ▷ _) ok r e = secured_rooms_fit h ok.0 r e

-- A secured room has a newest link.
pub secured_have_newest : (h : History) → Reached h → (r : ℕ)
    → secured h r ≡ true → (link : Link) × (newest_link h r ≡ Some link)
secured_have_newest (start t) ok r e = secured_have_newest_at_start t ok r e
secured_have_newest (h ▷ Install room kind code) ok r e =
    secured_have_newest h ok.0 r (was_secured (room == r) (secured h r) e).1
secured_have_newest (h ▷ Issue party room number code) ok r e =
    let was = was_secured (room == r) (secured h r) e in
    let link = secured_have_newest h ok.0 r was.1 in
    (link.0, ap (λ b. when b (λ _. Some (link_to h room code)) (newest_link h r)) was.0 ∙ link.1)
secured_have_newest (h ▷ Refitted room fit code) ok r e =
    let was = was_secured (room == r) (secured h r) e in
    let link = secured_have_newest h ok.0 r was.1 in
    (link.0, ap (λ b. when b (λ (l : Option Link). None) (newest_link h r)) was.0 ∙ link.1)
secured_have_newest (h ▷ Entered room fit count number link at) ok r e =
    elim (secured_by ((room == r) && (link.new_code == current h room) && are_none (inside h room)) (secured h r) e) [
      | inl t ↦
          let p = and_true (room == r) (link.new_code == current h room) (and_true _ (are_none (inside h room)) t).0 in
          let newest = newest_if_current h ok.0 room number link fit count at
          (may_follow h (Entered room fit count number link at) ok) (eq_from link.new_code (current h room) p.1) in
          (link, ap (newest_link h) (sym (eq_from room r p.0)) ∙ newest)
      | inr s ↦ secured_have_newest h ok.0 r s
    ]
secured_have_newest (h ▷ _) ok r e = secured_have_newest h ok.0 r e

-- In a secured room with a registered party the lock holds the current code, and each card inside has the newest link
-- and is that party's.
pub safe_room : (h : History) → Reached h → SafeRoom h
safe_room h ok r party s g =
    let was = secured_rooms_fit h ok r s in
    let guest = guests_have_cards h ok r party g in (
      sym (ap last_of (sym (ledger_holds h ok r was.0) ∙ ap (λ zs. passed h r ++ held h r ∷ zs) was.1)
          ∙ last_more (passed h r) (held h r)),
      λ number c.
          let k = was.2 number (one_of_these (inside h r) number c) in
          let same : Some k.0.link ≡ Some guest.0 = sym k.2 ∙ guest.1 in
          let link : k.0.link ≡ guest.0 = cc in
          let new : k.0.link.new_code ≡ guest.2.1.link.new_code =
          ap (λ (z : Link). z.new_code) (link ∙ sym guest.2.3) in
          (k.0, k.1, k.2, cards_one_party h ok number guest.2.0 k.0 guest.2.1 k.1 guest.2.2 new ∙ guest.2.4),
    )
