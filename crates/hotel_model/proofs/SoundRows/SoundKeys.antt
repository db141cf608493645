-- Each table of a history's rows is in the order of its keys, and no key stands twice.
use Rattle.std.proofs.Common.{ℕ, ◌≡◌, true, List, [], ◌∷◌, Option, Some, None, refl, ap, sym, ◌∙◌, subst, map, nat_cmp}
use Rattle.std.proofs.Common.{length, ◌+◌}
use Rattle.hotel_model.proofs.Names.{slice_cmp, keys_of, insert_entry, nat_list_cmp_total, Card, Link, Note, Stay}
use Rattle.hotel_model.proofs.Names.{StayState, pair_cmp, Kind, Install, Reserved, Cancelled, Issue, Refitted, Spare}
use Rattle.hotel_model.proofs.Names.{CheckOut, note_of, History, start, ◌▷◌, all_issued, cards, card_of, with_spare}
use Rattle.hotel_model.proofs.Names.{link_of_party, link_to, insiders, kinds, rooms, stays, in_state, all_notes}
use Rattle.hotel_model.proofs.Names.{and_note, notes, fits, room_row, rows_of, Reached, are_in_order, keys_in_order}
use Rattle.hotel_nights.specs.declared.stay.StayState.TheVariants as state
use Rattle.hotel_model.proofs.OfTables.KeysInOrder.{InOrder, in_order_inserted, keys_inserted, in_order_tested}
use Rattle.hotel_model.proofs.{OfTables.Insiders.insiders_in_order, OfTables.Pairs.pair_cmp_total}
use Rattle.hotel_model.proofs.{Invariants.Numbering.same_keys, OfTables.RowTests.both}
use Rattle.hotel_model.proofs.{OfTables.SameTables.in_order_with, Starts.StartCodes.orders}
use Rattle.hotel_model.proofs.{Starts.StartCodes.same_room_keys}

-- a table's keys stand in order
abbrev pub AreInOrder : {X : Type 0} → List (ℕ × X) → Type 0
AreInOrder es = InOrder nat_cmp (keys_of es)

pub kinds_in_order : (h : History) → Reached h → InOrder (slice_cmp nat_cmp) (kinds h)
kinds_in_order (start t) ok = (orders t ok).kinds
kinds_in_order (h ▷ Kind kind) ok =
    in_order_inserted (slice_cmp nat_cmp) nat_list_cmp_total kind (kinds h) (kinds_in_order h ok.0)
kinds_in_order (h ▷ _) ok = kinds_in_order h ok.0

pub rooms_in_order : (h : History) → Reached h → AreInOrder (rooms h)
rooms_in_order (start t) ok = subst (InOrder nat_cmp) (sym (same_room_keys t.rooms)) (orders t ok).rooms
rooms_in_order (h ▷ Install room kind code) ok = in_order_with (rooms h) room kind (rooms_in_order h ok.0)
rooms_in_order (h ▷ _) ok = rooms_in_order h ok.0

pub codes_in_order : (h : History) → Reached h → AreInOrder (all_issued h)
codes_in_order (start t) ok = (orders t ok).codes
codes_in_order (h ▷ Install room kind code) ok = in_order_with (all_issued h) code _ (codes_in_order h ok.0)
codes_in_order (h ▷ Issue party room number code) ok = in_order_with (all_issued h) code _ (codes_in_order h ok.0)
codes_in_order (h ▷ Refitted room fit code) ok = in_order_with (all_issued h) code _ (codes_in_order h ok.0)
codes_in_order (h ▷ _) ok = codes_in_order h ok.0

still_in_order : (party : ℕ) (s : StayState) (es : List (ℕ × Stay)) → AreInOrder es → AreInOrder (in_state party s es)
still_in_order party s es i = subst (InOrder nat_cmp) (sym (same_keys party s es)) i

pub stays_in_order : (h : History) → Reached h → AreInOrder (stays h)
stays_in_order (start t) ok = (orders t ok).stays
stays_in_order (h ▷ Reserved party guest kind arrive depart) ok =
    in_order_with (stays h) party _ (stays_in_order h ok.0)
stays_in_order (h ▷ Cancelled party) ok = still_in_order party state.Cancelled (stays h) (stays_in_order h ok.0)
stays_in_order (h ▷ Issue party room number code) ok =
    still_in_order party (state.InHouse room) (stays h) (stays_in_order h ok.0)
stays_in_order (h ▷ CheckOut party) ok = still_in_order party state.Done (stays h) (stays_in_order h ok.0)
stays_in_order (h ▷ _) ok = stays_in_order h ok.0

spare_in_order : (o : Option Link) (number party : ℕ) (all : List (ℕ × Card))
    → AreInOrder all → AreInOrder (with_spare number party o all)
spare_in_order (Some link) number party all i = in_order_with all number (card_of number party link) i
spare_in_order None number party all i = i

pub cards_in_order : (h : History) → Reached h → AreInOrder (cards h)
cards_in_order (start t) ok = (orders t ok).cards
cards_in_order (h ▷ Issue party room number code) ok =
    in_order_with (cards h) number (card_of number party (link_to h room code)) (cards_in_order h ok.0)
cards_in_order (h ▷ Spare party number) ok =
    spare_in_order (link_of_party h party) number party (cards h) (cards_in_order h ok.0)
cards_in_order (h ▷ _) ok = cards_in_order h ok.0

paired_in_order : {X : Type 0} (k : ℕ × ℕ) (x : X) (all : List ((ℕ × ℕ) × X))
    → InOrder pair_cmp (keys_of all) → InOrder pair_cmp (keys_of (insert_entry pair_cmp all k x))
paired_in_order k x all i = subst (InOrder pair_cmp) (sym (keys_inserted pair_cmp k x all))
    (in_order_inserted pair_cmp pair_cmp_total k (keys_of all) i)

noted_in_order : (h : History) (o : Option Note) (all : List ((ℕ × ℕ) × Note))
    → InOrder pair_cmp (keys_of all) → InOrder pair_cmp (keys_of (and_note h o all))
noted_in_order h (Some note) all i = paired_in_order (note.room, length (notes h note.room) + 1) note all i
noted_in_order h None all i = i

pub fits_in_order : (h : History) → Reached h → InOrder pair_cmp (keys_of (fits h))
fits_in_order (start t) ok = (orders t ok).fits
fits_in_order (h ▷ Install room kind code) ok = paired_in_order (room, 1) _ (fits h) (fits_in_order h ok.0)
fits_in_order (h ▷ Refitted room fit code) ok = paired_in_order (room, fit) _ (fits h) (fits_in_order h ok.0)
fits_in_order (h ▷ _) ok = fits_in_order h ok.0

pub notes_in_order : (h : History) → Reached h → InOrder pair_cmp (keys_of (all_notes h))
notes_in_order (start t) ok = (orders t ok).notes
notes_in_order (h ▷ event) ok = noted_in_order h (note_of event) (all_notes h) (notes_in_order h ok.0)

-- the numbers of a table whose rows were computed
pub keys_mapped : {X Y : Type 0} (f : ℕ → X → Y) (es : List (ℕ × X))
    → keys_of (map (λ e. (e.0, f e.0 e.1)) es) ≡ keys_of es
keys_mapped f [] = refl
keys_mapped f (e ∷ es) = ap (λ ks. e.0 ∷ ks) (keys_mapped f es)

-- Each table of the rows is in the order of its keys.
pub rows_in_order : (h : History) → Reached h → keys_in_order (rows_of h) ≡ true
rows_in_order h ok =
    both _ _ (both _ _ (both _ _ (both _ _ (both _ _ (both _ _ (both _ _
    (in_order_tested (slice_cmp nat_cmp) (kinds h) (kinds_in_order h ok))
    (ap (are_in_order nat_cmp) (keys_mapped (room_row h) (rooms h))
    ∙ in_order_tested nat_cmp (keys_of (rooms h)) (rooms_in_order h ok)))
    (in_order_tested nat_cmp (keys_of (all_issued h)) (codes_in_order h ok)))
    (in_order_tested nat_cmp (keys_of (stays h)) (stays_in_order h ok)))
    (in_order_tested nat_cmp (keys_of (cards h)) (cards_in_order h ok)))
    (in_order_tested pair_cmp (insiders h) (insiders_in_order h ok)))
    (in_order_tested pair_cmp (keys_of (all_notes h)) (notes_in_order h ok)))
    (in_order_tested pair_cmp (keys_of (fits h)) (fits_in_order h ok))
