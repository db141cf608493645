-- Cards: their numbers, parties and links.
use Rattle.std.proofs.Common.{ℕ, ◌≡◌, Bool, true, false, cond, Option, Some, None, List, [], ◌∷◌, length, refl, ap, sym}
use Rattle.std.proofs.Common.{◌∙◌, ◌==◌, ◌||◌, ◌&&◌, not, is_some, nat_cmp}
use Rattle.hotel_model.proofs.Names.{is_at, insert_entry, keys_of, when, and_last, FitRow, fit_row, fits, fits_at}
use Rattle.hotel_model.proofs.Names.{begins_fit, fits_without_links, notes, issued, all_issued, list_any, nat_cmp_total}
use Rattle.hotel_model.proofs.Names.{Card, Link, Stay, StayState, CodeRow, said_of, is_one_of, at_number}
use Rattle.hotel_model.proofs.Names.{link_of_last_card, Event, Install, Reserved, Cancelled, Issue, Refitted, Spare}
use Rattle.hotel_model.proofs.Names.{CheckOut, History, ◌▷◌, cards, card_of, with_spare, link_of_party, link_to}
use Rattle.hotel_model.proofs.Names.{registered, stays, in_state, rows_of, room_of_state, room_of, next_card, same_link}
use Rattle.hotel_model.proofs.Names.{Reached, each_card, card_numbers, card_parties_there, links_are_neighbours}
use Rattle.hotel_model.proofs.Names.{links_of_one_party, neighbours_are_links, is_newest, owns_newest, newest_of_party}
use Rattle.hotel_model.proofs.Names.{has_newest, last_cards_newest, stands_at}
use Rattle.hotel_nights.specs.declared.stay.StayState.TheVariants as state
use Rattle.hotel_model.proofs.{OfTables.Tests.eq_self, OfTables.Tests.eq_from, OfTables.KeysInOrder.InOrder}
use Rattle.hotel_model.proofs.{Starts.StartOrder.found_later, OfTables.TableKeys.is_at_self}
use Rattle.hotel_model.proofs.{OfTables.TableKeys.at_inserted, OfTables.TableKeys.is_key, OfTables.Grown.may_follow}
use Rattle.hotel_model.proofs.{Invariants.RoomCodes.others_have_none}
use Rattle.hotel_model.proofs.{Invariants.RoomLinks.cards_have_links, Invariants.Numbering.same_keys}
use Rattle.hotel_model.proofs.{Invariants.Numbering.cards_count, Invariants.NumbersLeft.cards_fit}
use Rattle.hotel_model.proofs.{Invariants.InHouse.has_stay, Invariants.InHouse.registered_in_house}
use Rattle.hotel_model.proofs.{Starts.StartRules.link_is}
use Rattle.hotel_model.proofs.Invariants.LiftHomes as homes
use Rattle.hotel_model.proofs.Invariants.CardParties.{cards_one_party, guests_have_cards}
use Rattle.hotel_model.proofs.OfTables.RowTests.{both, or_first, or_later, where_so, any_before, any_last, any_more}
use Rattle.hotel_model.proofs.OfTables.RowTests.{all_found}
use Rattle.hotel_model.proofs.{SoundRows.RowsPass.cards_pass, SoundRows.RowsPass.codes_pass}
use Rattle.hotel_model.proofs.{SoundRows.SoundKeys.cards_in_order, SoundRows.SoundKeys.codes_in_order}
use Rattle.hotel_model.proofs.{Invariants.FitsKept.fits_installed, Invariants.FitsKept.fits_refitted}
use Rattle.hotel_model.proofs.{Invariants.FitLinks.links_begin_none, SoundRows.SoundKeys.stays_in_order}
use Rattle.hotel_model.proofs.{OfTables.Tests.le_tested, SoundRows.SoundRoomRows.each_room_is}
use Rattle.hotel_model.proofs.{SoundRows.SoundRoomRows.eq_tested, SoundRows.SoundStays.stay_has_number}
use Rattle.hotel_model.proofs.SoundRows.SoundLinks.{said_some, new_at, link_stands, newest_tested, tested_newest}
use Rattle.hotel_model.proofs.SoundRows.SoundLinks.{card_comes_last, last_cards}
use Rattle.hotel_model.proofs.Starts.StartNumbers.{cards_numbered_at_start}

-- a rule of all cards holds where it holds of each that a look-up finds
pub each_card_is : (h : History) → Reached h → (rule : Card → Bool)
    → ((n : ℕ) (card : Card) → at_number (cards h) n ≡ Some card → rule card ≡ true) → each_card (rows_of h) rule ≡ true
each_card_is h ok rule f =
    all_found nat_cmp nat_cmp_total (λ (e : ℕ × Card). rule e.1) (cards h) (cards_in_order h ok) f

-- Cards are numbered from 1 on.
pub cards_numbered : (h : History) → Reached h → card_numbers (rows_of h) ≡ true
cards_numbered h ok =
    both _ _
    (both _ _
    (cards_pass (λ h e. e.1.number == e.0) (λ h event e ok t. t) (λ s ok. (cards_numbered_at_start s ok).0)
    (λ h party room number code ok. eq_self number) (λ h party number link ok e. eq_self number) h ok)
    (cards_count h ok))
    (le_tested _ _ (cards_fit h ok))

still_some : {X : Type 0} (b : Bool) (v : X) (o : Option X) → is_some o ≡ true → is_some (cond b (Some v) o) ≡ true
still_some true v o e = refl
still_some false v o e = e

state_some : (party : ℕ) (s : StayState) (es : List (ℕ × Stay)) (p : ℕ)
    → is_some (at_number es p) ≡ true → is_some (at_number (in_state party s es) p) ≡ true
state_some party s es p e =
    sym (is_key (in_state party s es) p) ∙ ap (is_one_of p) (same_keys party s es) ∙ is_key es p ∙ e

-- a stay that is there stays
pub stay_goes_on : (h : History) (event : Event) (p : ℕ)
    → is_some (at_number (stays h) p) ≡ true → is_some (at_number (stays (h ▷ event)) p) ≡ true
stay_goes_on h (Reserved party guest kind arrive depart) p e =
    ap is_some (at_inserted (stays h) party _ p) ∙ still_some (is_at (nat_cmp p) party) _ (at_number (stays h) p) e
stay_goes_on h (Cancelled party) p e = state_some party state.Cancelled (stays h) p e
stay_goes_on h (Issue party room number code) p e = state_some party (state.InHouse room) (stays h) p e
stay_goes_on h (CheckOut party) p e = state_some party state.Done (stays h) p e
stay_goes_on h _ p e = e

-- Each card's party has a stay.
pub card_parties : (h : History) → Reached h → card_parties_there (rows_of h) ≡ true
card_parties h ok =
    cards_pass (λ h e. is_some (at_number (stays h) e.1.party))
    (λ h event e ok. stay_goes_on h event e.1.party) (λ s ok. ok.card_party)
    (λ h party room number code ok. state_some party (state.InHouse room) (stays h) party
    (has_stay h party (may_follow h (Issue party room number code) ok).1))
    (λ h party number link ok e. has_stay h party (may_follow h (Spare party number) ok).0) h ok

-- A card's two codes are neighbours at one room.
pub card_links : (h : History) → Reached h → links_are_neighbours (rows_of h) ≡ true
card_links h ok =
    each_card_is h ok _
    (λ n card e.
    let l = cards_have_links h ok n card e in
    said_some _ _ (λ (new : CodeRow). stands_at (rows_of h) new.room card.link) (new_at h ok l.0 card.link l.1)
    (link_stands h ok l.0 card.link l.1))

-- Cards of one link have one party.
pub card_owners : (h : History) → Reached h → links_of_one_party (rows_of h) ≡ true
card_owners h ok =
    each_card_is h ok _
    (λ n card e. each_card_is h ok _
    (λ m other f. where_so (same_link card.link other.link) _
    (λ t. eq_tested card.party other.party
    (cards_one_party h ok n m card other e f (ap (λ (l : Link). l.new_code) (link_is card.link other.link t))))))

-- a card of this new code is there
abbrev pub brings : ℕ → ℕ × Card → Bool
brings code e = e.1.link.new_code == code

added_brings : (h : History) (number : ℕ) (card : Card) (code : ℕ)
    → Reached h → number ≡ next_card h → list_any (brings code) (cards h) ≡ true
    → list_any (brings code) (insert_entry nat_cmp (cards h) number card) ≡ true
added_brings h number card code ok n t = ap (list_any (brings code)) (card_comes_last h ok number card n)
    ∙ any_before (brings code) (cards h) ((number, card) ∷ []) t

spare_brings : (o : Option Link) (h : History) (party number code : ℕ) → Reached h → number ≡ next_card h
    → list_any (brings code) (cards h) ≡ true → list_any (brings code) (with_spare number party o (cards h)) ≡ true
spare_brings (Some link) h party number code ok n t = added_brings h number (card_of number party link) code ok n t
spare_brings None h party number code ok n t = t

goes_on_brought : (h : History) (event : Event) (code : ℕ)
    → Reached (h ▷ event) → list_any (brings code) (cards h) ≡ true → list_any (brings code) (cards (h ▷ event)) ≡ true
goes_on_brought h (Issue party room number new) code ok t = added_brings h number
    (card_of number party (link_to h room new)) code ok.0 (may_follow h (Issue party room number new) ok).5 t
goes_on_brought h (Spare party number) code ok t =
    spare_brings (link_of_party h party) h party number code ok.0 (may_follow h (Spare party number) ok).2 t
goes_on_brought h _ code ok t = t

new_brings : (h : History) (party room number code : ℕ) → Reached h → number ≡ next_card h
    → list_any (brings code) (insert_entry nat_cmp (cards h) number (card_of number party (link_to h room code))) ≡ true
new_brings h party room number code ok n =
    ap (list_any (brings code)) (card_comes_last h ok number (card_of number party (link_to h room code)) n)
    ∙ any_last (brings code) (cards h) (number, card_of number party (link_to h room code)) (eq_self code)

-- a code is the first of its room, or a fit begins with it, or a card brings it
abbrev pub is_first_or_brought : History → ℕ × CodeRow → Bool
is_first_or_brought h e =
    (e.1.place == 0) || begins_fit (rows_of h) e.1.room e.1.place || list_any (brings e.0) (cards h)

goes_on_begun : (h : History) (event : Event) (r place : ℕ)
    → Reached (h ▷ event) → begins_fit (rows_of h) r place ≡ true → begins_fit (rows_of (h ▷ event)) r place ≡ true
goes_on_begun h (Install room kind code) r place ok t =
    ap (λ fs. list_any (λ (x : FitRow). x.place == place) fs) (fits_installed h room code kind r ok)
    ∙ any_more (room == r) (λ x. x.place == place) (fits_at (fits h) r) (fit_row room 1 0 0) t
goes_on_begun h (Refitted room fit code) r place ok t =
    ap (λ fs. list_any (λ (x : FitRow). x.place == place) fs) (fits_refitted h room fit code r ok)
    ∙ any_more (room == r) (λ x. x.place == place) (fits_at (fits h) r)
    (fit_row room fit (length (issued h room)) (length (notes h room))) t
goes_on_begun h _ r place ok t = t

goes_on_first : (a b c d e : Bool) → (b ≡ true → d ≡ true) → (c ≡ true → e ≡ true)
    → (a || b || c) ≡ true → (a || d || e) ≡ true
goes_on_first true b c d e f g t = refl
goes_on_first false true c d e f g t = or_first d e (f refl)
goes_on_first false false c d e f g t = or_later d e (g t)

-- the code of a refit begins one
refit_begins : (h : History) (room fit code : ℕ) → Reached (h ▷ Refitted room fit code)
    → begins_fit (rows_of (h ▷ Refitted room fit code)) room (length (issued h room)) ≡ true
refit_begins h room fit code ok =
    let row = fit_row room fit (length (issued h room)) (length (notes h room)) in
    let t : FitRow → Bool = λ x. x.place == length (issued h room) in
    ap (λ fs. list_any t fs) (fits_refitted h room fit code room ok
    ∙ ap (λ b. when b (and_last row) (fits_at (fits h) room)) (eq_self room))
    ∙ any_last t (fits_at (fits h) room) row (eq_self (length (issued h room)))

-- Each code but the first of its room and those that fits begin with is the new code of a card.
pub codes_are_brought : (h : History) → Reached h → neighbours_are_links (rows_of h) ≡ true
codes_are_brought h ok =
    codes_pass is_first_or_brought (λ h event e ok. goes_on_first (e.1.place == 0) _ _ _ _
    (goes_on_begun h event e.1.room e.1.place ok) (goes_on_brought h event e.0 ok)) (λ s ok. ok.card_neighbours)
    (λ h room code kind ok. or_first _ _ (or_first _ _ (ap (λ (zs : List ℕ). length zs == 0)
    (others_have_none h ok.0 room (may_follow h (Install room kind code) ok).1).0)))
    (λ h party room number code ok. or_later _ _
    (new_brings h party room number code ok.0 (may_follow h (Issue party room number code) ok).5))
    (λ h room fit code ok. or_first _ _ (or_later _ _ (refit_begins h room fit code ok))) h ok

-- a card that brings the code
bringing : (code : ℕ) (es : List (ℕ × Card)) → InOrder nat_cmp (keys_of es) → list_any (brings code) es ≡ true
    → (n : ℕ) × (card : Card) × (at_number es n ≡ Some card) × (card.link.new_code ≡ code)
bringing code [] s h = cc
bringing code (e ∷ es) s h = by (brings code e) refl h (bringing code es s.1)
  where
    by : (b : Bool) → brings code e ≡ b → (b || list_any (brings code) es) ≡ true → (list_any (brings code) es ≡ true
        → (n : ℕ) × (card : Card) × (at_number es n ≡ Some card) × (card.link.new_code ≡ code))
        → (n : ℕ) × (card : Card) × (at_number (e ∷ es) n ≡ Some card) × (card.link.new_code ≡ code)
    by true t g ih =
        (e.0, e.1, ap (λ b. cond b (Some e.1) (at_number es e.0)) (is_at_self e.0), eq_from e.1.link.new_code code t)
    by false t g ih = let c = ih g in (c.0, c.1, found_later e es c.0 c.1 s.0 c.2, c.3)

not_brought : (b c : Bool) → (c ≡ true → b ≡ false) → not (b && c) ≡ true
not_brought true true f = ap not (f refl)
not_brought true false f = refl
not_brought false c f = refl

-- No code that a fit begins with is the new code of a card.
pub fits_unlinked : (h : History) → Reached h → fits_without_links (rows_of h) ≡ true
fits_unlinked h ok =
    all_found nat_cmp nat_cmp_total (λ (e : ℕ × CodeRow). not
    (begins_fit (rows_of h) e.1.room e.1.place && list_any (brings e.0) (cards h))) (all_issued h) (codes_in_order h ok)
    (λ code row e. not_brought (begins_fit (rows_of h) row.room row.place) (list_any (brings code) (cards h))
    (λ t. let c = bringing code (cards h) (cards_in_order h ok) t in
    links_begin_none h ok c.0 c.1 row c.2 (ap (at_number (all_issued h)) c.3 ∙ e)))

owner_tested : (h : History) → Reached h → (r : ℕ) (o : Option ℕ)
    → registered h r ≡ o → said_of o true (owns_newest (rows_of h) r) ≡ true
owner_tested h ok r None e = refl
owner_tested h ok r (Some party) e =
    let g = guests_have_cards h ok r party e in
    each_card_is h ok _
    (λ n card f. where_so (is_newest (rows_of h) r card.link) _
    (λ t.
    let same : Some card.link ≡ Some g.0 = sym (tested_newest h ok r card.link t) ∙ g.1 in
    let link : card.link ≡ g.0 = cc in
    let new : card.link.new_code ≡ g.2.1.link.new_code = ap (λ (l : Link). l.new_code) (link ∙ sym g.2.3) in
    eq_tested card.party party (cards_one_party h ok n g.2.0 card g.2.1 f g.2.2 new ∙ g.2.4)))

-- Cards of a room's newest link are the registered party's.
pub newest_owned : (h : History) → Reached h → newest_of_party (rows_of h) ≡ true
newest_owned h ok = each_room_is h ok _ (λ r kind e. owner_tested h ok r (registered h r) refl)

last_tested : (h : History) → Reached h → (p : ℕ) (stay : Stay) → at_number (stays h) p ≡ Some stay → (o : Option ℕ)
    → room_of_state stay.state ≡ o → said_of o true (has_newest (rows_of h) stay.party) ≡ true
last_tested h ok p stay e None home = refl
last_tested h ok p stay e (Some r) home =
    let at_home : room_of h p ≡ Some r = ap (λ o. said_of o None (λ (x : Stay). room_of_state x.state)) e ∙ home in
    let here = (registered_in_house h ok r p).1 at_home in
    let g = guests_have_cards h ok r p here in
    said_some (link_of_last_card (cards h) stay.party) g.0 (is_newest (rows_of h) r)
    (ap (link_of_last_card (cards h)) (stay_has_number h ok p stay e) ∙ last_cards h ok p
    ∙ sym (homes.has_newest h ok r p here) ∙ g.1) (newest_tested h ok r g.0 g.1)

-- The last card of a party in house has the newest link of its room.
pub last_are_newest : (h : History) → Reached h → last_cards_newest (rows_of h) ≡ true
last_are_newest h ok =
    all_found nat_cmp nat_cmp_total (λ (e : ℕ × Stay). said_of (room_of_state e.1.state) true
    (has_newest (rows_of h) e.1.party)) (stays h) (stays_in_order h ok)
    (λ p stay e. last_tested h ok p stay e (room_of_state stay.state) refl)
