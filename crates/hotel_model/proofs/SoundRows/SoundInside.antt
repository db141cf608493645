-- What is inside a room is a card of this room that the lock has seen.
use Rattle.std.proofs.Common.{ℕ, ◌≡◌, ◌≢◌, ◌<◌, ◌≤◌, ◌+◌, [], refl, true, false, Option, Some, List, [], ◌∷◌, ◌++◌}
use Rattle.std.proofs.Common.{length, inl, inr, ap, sym, ◌∙◌, subst, append_assoc, arith, length-append, ◌==◌}
use Rattle.hotel_model.proofs.Names.{Card, Link, when, and_last, is_one_of, pair_cmp, at_number, Event, Moment, Install}
use Rattle.hotel_model.proofs.Names.{Refitted, Entered, Left, list_any, said_of, FitRow, fit_row, fits, fits_at}
use Rattle.hotel_model.proofs.Names.{last_fit, last_fit_place, begins_fit, has_entered, notes, all_issued, those_in}
use Rattle.hotel_model.proofs.Names.{those_elsewhere, History, start, ◌▷◌, issued, cards, passed, awaited, insiders}
use Rattle.hotel_model.proofs.Names.{inside, secured, room_row, rows_of, is_room, Reached, room_is, card_is}
use Rattle.hotel_model.proofs.Names.{fits_inside, insides_fit}
use Rattle.hotel_model.proofs.{Facts.Follow.MayFollow, Facts.CodeFacts.IsLinkOf, OfTables.Grown.may_follow}
use Rattle.hotel_model.proofs.{OfTables.Pairs.pair_cmp_total, OfTables.Insiders.inside_is}
use Rattle.hotel_model.proofs.{Invariants.InsideRooms.came_in, Invariants.InsideRooms.left_out}
use Rattle.hotel_model.proofs.{Invariants.InsideRooms.elsewhere_in, Invariants.InsideRooms.none_inside}
use Rattle.hotel_model.proofs.{Invariants.CodePlaces.same_place, Invariants.CodesFound.entered_in_order}
use Rattle.hotel_model.proofs.{Invariants.HomeRooms.new_is_apart, Invariants.LedgerOrder.card_seen}
use Rattle.hotel_model.proofs.{Invariants.LedgerOrder.link_seen, Invariants.OpenLocks.link_of_room}
use Rattle.hotel_model.proofs.{OfTables.RoomNumbers.room_there}
use Rattle.hotel_model.proofs.{Invariants.SecuredRooms.secured_rooms_fit, OfTables.RowTests.both}
use Rattle.hotel_model.proofs.{OfTables.RowTests.where_so, OfTables.RowTests.all_there}
use Rattle.hotel_model.proofs.OfTables.Tests.{le_tested, lt_tested, eq_from, eq_self, not_both, or_false, either_way}
use Rattle.hotel_model.proofs.{Invariants.FitsOf.passed_grow, Invariants.FitsOf.fits_of, Invariants.FitsOf.last_place}
use Rattle.hotel_model.proofs.{Invariants.FitLinks.links_begin_none, Invariants.FitsKept.fits_installed}
use Rattle.hotel_model.proofs.{Invariants.FitsKept.fits_refitted}
use Rattle.hotel_model.proofs.SoundRows.SoundLinks.{said_some, new_at, link_stands, newest_tested}
use Rattle.hotel_model.proofs.{Invariants.HomeRooms.room_goes_on, Invariants.Kept.card_goes_on}
use Rattle.hotel_model.proofs.{Invariants.Kept.link_goes_on, Starts.StartInside.insiders_seen_at_start}

-- the link's codes are neighbours at the room, and its lock came to the new one
abbrev pub HasSeen : History → ℕ → Link → Type 0
HasSeen h r link = (prefix : List ℕ) × (later : List ℕ) × (issued h r ≡ prefix ++ link.old_code ∷ link.new_code ∷ later)
    × (length prefix + 1 ≤ length (passed h r)) × (last_fit_place (rows_of h) r ≤ length prefix)

-- A card inside a room is there, and the room's lock has seen its link.
abbrev pub InsidersSeen : History → Type 0
InsidersSeen h = (r n : ℕ) → is_one_of n (inside h r) ≡ true
    → (is_room h r ≡ true) × (card : Card) × (at_number (cards h) n ≡ Some card) × HasSeen h r card.link

-- the event is no refit of the room
abbrev NotRefitted : Event → ℕ → Type 0
NotRefitted (Refitted room fit code) r = (room == r) ≡ false
NotRefitted _ r = Unit {0}

last_goes_on : (h : History) (event : Event) (r : ℕ) → Reached (h ▷ event) → is_room h r ≡ true → NotRefitted event r
    → last_fit_place (rows_of (h ▷ event)) r ≡ last_fit_place (rows_of h) r
last_goes_on h (Install room kind code) r ok there n =
    ap (λ fs. said_of (last_fit fs) 0 (λ (f : FitRow). f.place))
    (fits_installed h room code kind r ok ∙ ap (λ b. when b (and_last (fit_row room 1 0 0)) (fits_at (fits h) r))
    (new_is_apart h room r (may_follow h (Install room kind code) ok).1 there))
last_goes_on h (Refitted room fit code) r ok there n =
    ap (λ fs. said_of (last_fit fs) 0 (λ (f : FitRow). f.place))
    (fits_refitted h room fit code r ok ∙ ap (λ b. when b
    (and_last (fit_row room fit (length (issued h room)) (length (notes h room)))) (fits_at (fits h) r)) n)
last_goes_on h _ r ok there n = refl

-- the lock goes on having seen a link
seen_goes_on : (h : History) (event : Event) (r : ℕ) (link : Link)
    → Reached (h ▷ event) → is_room h r ≡ true → NotRefitted event r → HasSeen h r link → HasSeen (h ▷ event) r link
seen_goes_on h event r link ok there n s =
    let l = link_goes_on h event r s.0 s.1 link.old_code link.new_code s.2 in
    let grow = passed_grow h event r in
    let few = s.3 in
    let low = s.4 in
    let same = last_goes_on h event r ok there n in
    (s.0, l.0, l.1, omega arith, omega arith)

-- who was inside is a card that the lock has seen
still_seen : (h : History) (event : Event) (r n : ℕ)
    → Reached (h ▷ event) → NotRefitted event r → InsidersSeen h → is_one_of n (inside h r) ≡ true
    → (is_room (h ▷ event) r ≡ true) × (card : Card) × (at_number (cards (h ▷ event)) n ≡ Some card)
    × HasSeen (h ▷ event) r card.link
still_seen h event r n ok not ih t =
    let c = ih r n t in
    (room_goes_on h event r c.0, c.1, card_goes_on h event n c.1 ok c.2, seen_goes_on h event r c.1.link ok c.0 not c.3)

-- the last fit begins at no place where none does
not_place : (fs : List FitRow) (f : FitRow) (place : ℕ)
    → last_fit fs ≡ Some f → list_any (λ (x : FitRow). x.place == place) fs ≡ false → f.place ≢ place
not_place [] f place e n = cc
not_place (a ∷ []) f place e n =
    let same : a.place ≡ f.place = ap (λ o. said_of o 0 (λ (x : FitRow). x.place)) e in
    let apart : (a.place == place) ≡ false = (or_false (a.place == place) false n).0 in
    λ q. not_both (a.place == place) (ap (λ z. z == place) (same ∙ q) ∙ eq_self place) apart
not_place (a ∷ b ∷ fs) f place e n = not_place (b ∷ fs) f place e
    (or_false (a.place == place) (list_any (λ (x : FitRow). x.place == place) (b ∷ fs)) n).1

-- after an entry the lock has seen the card's link
entry_seen : (h : History) → Reached h → (room fit count number : ℕ) (link : Link) (at : Moment)
    → MayFollow h (Entered room fit count number link at)
    → HasSeen (h ▷ Entered room fit count number link at) room link
entry_seen h ok room fit count number link at needs =
    let h' : History = h ▷ Entered room fit count number link at in
    let l = link_of_room h ok room link needs.1 (link_seen h number link ok needs.2 needs.3) needs.4 in
    let f = l.2 ∙ sym (append_assoc l.0 (link.old_code ∷ []) (link.new_code ∷ l.1)) in
    let p = (same_place h ok room room link.new_code (passed h' room) (awaited h' room) (l.0 ++ link.old_code ∷ []) l.1
    (entered_in_order h ok room fit count number link at needs) f).1 in
    let n : length (passed h' room) ≡ length (l.0 ++ link.old_code ∷ []) = ap (λ (zs : List ℕ). length zs) p in
    let fits_there = fits_of h ok room needs.1 in
    let c = card_seen h number link needs.2 needs.3 in
    let low = fits_there.last.4 in
    let grow = passed_grow h (Entered room fit count number link at) room in
    let last : last_fit_place (rows_of h') room ≡ fits_there.last.0.place = last_place h ok room needs.1 in
    let none : begins_fit (rows_of h) room (length (l.0 ++ link.old_code ∷ [])) ≡ false =
    links_begin_none h ok number c.0 (record { room = room; place = length (l.0 ++ link.old_code ∷ []) }) c.1
    (ap (λ (k : Link). at_number (all_issued h) k.new_code) c.2 ∙ new_at h ok room link l) in
    let differs =
    not_place (fits_at (fits h) room) fits_there.last.0 (length (l.0 ++ link.old_code ∷ [])) fits_there.last.1 none in (
      l.0,
      l.1,
      l.2,
      omega (arith, n, length-append l.0 (link.old_code ∷ [])),
      omega (arith, n, grow, low, last, differs, length-append l.0 (link.old_code ∷ [])),
    )

pub insiders_seen : (h : History) → Reached h → InsidersSeen h
insiders_seen (start t) ok r n e = insiders_seen_at_start t ok r n e
insiders_seen (h ▷ Entered room fit count number link at) ok r n e =
    let event : Event = Entered room fit count number link at in
    elim (came_in (insiders h) room number r n e) [
      | inl p ↦
          let needs = may_follow h event ok in
          let c = card_seen h number link needs.2 needs.3 in
          let seen : HasSeen (h ▷ event) r link =
          subst (λ z. HasSeen (h ▷ event) z link) p.0 (entry_seen h ok.0 room fit count number link at needs) in (
            subst (λ z. is_room h z ≡ true) p.0 needs.1,
            c.0,
            ap (at_number (cards h)) (sym p.1) ∙ c.1,
            subst (HasSeen (h ▷ event) r) (sym c.2) seen,
          )
      | inr q ↦ still_seen h event r n ok tt (insiders_seen h ok.0) q
    ]
insiders_seen (h ▷ Left room fit count number link at) ok r n e =
    still_seen h (Left room fit count number link at) r n ok tt (insiders_seen h ok.0)
    (left_out (insiders h) (room, number) r n e)
insiders_seen (h ▷ Refitted room fit code) ok r n e =
    elim (either_way (room == r)) [
      | inl t ↦ not_both (is_one_of n []) (ap (λ (ns : List ℕ). is_one_of n ns) (sym (none_inside (insiders h) room)
          ∙ ap (λ z. those_in (those_elsewhere room (insiders h)) z) (eq_from room r t)) ∙ e) refl
      | inr f ↦ still_seen h (Refitted room fit code) r n ok f (insiders_seen h ok.0)
          (elsewhere_in (insiders h) room r n e)
    ]
insiders_seen (h ▷ event) ok r n e = still_seen h event r n ok tt (insiders_seen h ok.0) e

-- a number has one card
pub one_card : (o : Option Card) (a b : Card) → o ≡ Some a → o ≡ Some b → a ≡ b
one_card o a b e f = let w : Some a ≡ Some b = sym e ∙ f in cc

inside_fits : (h : History) → Reached h → (r n : ℕ) → is_one_of n (inside h r) ≡ true
    → room_is (rows_of h) r (λ row. card_is (rows_of h) n (fits_inside (rows_of h) r row)) ≡ true
inside_fits h ok r n t =
    let c = insiders_seen h ok r n t in
    let room = room_there h r c.0 in
    let row = room_row h r room.0 in
    let l : IsLinkOf (issued h r) c.1.link = (c.3.0, c.3.1, c.3.2) in
    let place : length (c.3.0 ++ c.1.link.old_code ∷ []) ≤ length (passed h r) = let few = c.3.3 in
    omega (arith, length-append c.3.0 (c.1.link.old_code ∷ [])) in
    let past : last_fit_place (rows_of h) r < length (c.3.0 ++ c.1.link.old_code ∷ []) = let low = c.3.4 in
    omega (arith, length-append c.3.0 (c.1.link.old_code ∷ [])) in
    said_some (at_number (rows_of h).rooms r) row (λ x. card_is (rows_of h) n (fits_inside (rows_of h) r x)) room.2
    (said_some (at_number (cards h) n) c.1 (fits_inside (rows_of h) r row) c.2
    (both _ _ (both _ _ (link_stands h ok r c.1.link l) (said_some _ _ (has_entered (rows_of h) r row)
    (new_at h ok r c.1.link l) (both _ _ (lt_tested _ _ past) (le_tested _ _ place))))
    (where_so (secured h r) _
    (λ s. let k = (secured_rooms_fit h ok r s).2 n t in newest_tested h ok r c.1.link
    (k.2 ∙ ap (λ (x : Card). Some x.link) (one_card (at_number (cards h) n) k.0 c.1 k.1 c.2))))))

-- What is inside a room fits it.
pub all_inside_fit : (h : History) → Reached h → insides_fit (rows_of h) ≡ true
all_inside_fit h ok =
    all_there pair_cmp pair_cmp_total (λ (e : ℕ × ℕ). room_is (rows_of h) e.0
    (λ row. card_is (rows_of h) e.1 (fits_inside (rows_of h) e.0 row))) (insiders h)
    (λ k t. inside_fits h ok k.0 k.1 (inside_is h k.0 k.1 ∙ t))
