-- The listing of a list over rows is that over a history for which they stand.
use Rattle.std.proofs.Common.{◌≡◌, ℕ, List, Bool, true, false, sym, ap, ◌∙◌, refl, Some, inl, inr, is_some}
use Rattle.hotel_books.proofs.Names.{Rows, rows_of, History, is_room, Reached, StandsFor, room_at, chain_on}
use Rattle.hotel_books.proofs.Names.{notes, notes_at}
use Rattle.std.proofs.lemmas.Bool.{cases_Bool}
use Rattle.hotel_model.proofs.{Lifted.ListRows.lists_lift, OfTables.RoomNumbers.room_there}
use Rattle.hotel_model.proofs.{OfTables.RoomNumbers.room_not_there}
use Rattle.hotel_model.specs.Lists.{chain}
use Rattle.hotel_lock.specs.NoteLine.{audit_header, note_line}
use Rattle.hotel_lists.specs.RowLines.{arrivals_header, in_house_header, chain_header, left_behind_header}
use Rattle.hotel_lists.specs.RowLines.{day_header, status_header, inside_header, free_header, locks_header}
use Rattle.hotel_lists.specs.RowLines.{arrival_line, house_line, chain_line, behind_line}
use Rattle.hotel_lists.specs.RowLines.{day_line, status_line, inside_line, free_line, lock_line}
use Rattle.hotel_lists.specs.Listings.{listing, of_room}
use Rattle.hotel_asks.specs.declared.asked.ListAsk.{ListAsk}
use Rattle.hotel_asks.specs.{Listings.listing_on, Listings.listing_over}
use Rattle.hotel_asks.specs.declared.asked.ListAsk.TheVariants.{Arrivals, InHouse, ChainOf, LeftBehind, AuditOf}
use Rattle.hotel_asks.specs.declared.asked.ListAsk.TheVariants.{BusinessDay, RoomStatus, Inside, Bookings, Availability}
use Rattle.hotel_asks.specs.declared.asked.ListAsk.TheVariants.{CardsGiven, CardOf, Locks}

room_lifts : {R : Type 0} (h : History) (room : ℕ) (header : List ℕ) (line : R → List ℕ) (on_rows on_history : List R)
    → (is_room h room ≡ true → on_rows ≡ on_history)
    → of_room (is_some (room_at (rows_of h) room)) (listing header line on_rows)
    ≡ of_room (is_room h room) (listing header line on_history)
room_lifts {R} h room header line on_rows on_history same = elim (cases_Bool (is_room h room)) [
  | inl t ↦
      let found : is_some (room_at (rows_of h) room) ≡ true = ap is_some (room_there h room t).2 in
      ap (λ (b : Bool). of_room b (listing header line on_rows)) found
      ∙ ap (λ (l : List R). of_room true (listing header line l)) (same t)
      ∙ ap (λ (b : Bool). of_room b (listing header line on_history)) (sym t)
  | inr f ↦
      let found : is_some (room_at (rows_of h) room) ≡ false = ap is_some (room_not_there h room f) in
      ap (λ (b : Bool). of_room b (listing header line on_rows)) found
      ∙ ap (λ (b : Bool). of_room b (listing header line on_history)) (sym f)
]

listing_lifts : (h : History) (its_list : ListAsk)
    → Reached h → listing_on (rows_of h) its_list ≡ listing_over h its_list
listing_lifts h (Arrivals day) ok =
    ap (λ rows. Some (listing arrivals_header arrival_line rows)) ((lists_lift h ok).of_arrivals day)
listing_lifts h InHouse ok = ap (λ rows. Some (listing in_house_header house_line rows)) (lists_lift h ok).of_house
listing_lifts h (ChainOf room) ok = room_lifts h room chain_header chain_line (chain_on (rows_of h) room) (chain h room)
    ((lists_lift h ok).of_chain room)
listing_lifts h LeftBehind ok =
    ap (λ rows. Some (listing left_behind_header behind_line rows)) (lists_lift h ok).of_left_behind
listing_lifts h (AuditOf room) ok = room_lifts h room audit_header note_line (notes_at (rows_of h).notes room)
    (notes h room) (λ t. (lists_lift h ok).of_audit room)
listing_lifts h BusinessDay ok = ap (λ rows. Some (listing day_header day_line rows)) (lists_lift h ok).of_business_day
listing_lifts h RoomStatus ok =
    ap (λ rows. Some (listing status_header status_line rows)) (lists_lift h ok).of_room_status
listing_lifts h Inside ok = ap (λ rows. Some (listing inside_header inside_line rows)) (lists_lift h ok).of_cards_inside
listing_lifts h Bookings ok =
    ap (λ rows. Some (listing arrivals_header arrival_line rows)) (lists_lift h ok).of_bookings
listing_lifts h (Availability day nights) ok =
    ap (λ rows. Some (listing free_header free_line rows)) ((lists_lift h ok).of_availability day nights)
listing_lifts h (CardsGiven party) ok = refl
listing_lifts h (CardOf number) ok = refl
listing_lifts h Locks ok = ap (λ rows. Some (listing locks_header lock_line rows)) (lists_lift h ok).of_locks

pub listing_stands : (h : History) (rows : Rows) (its_list : ListAsk)
    → StandsFor h rows → listing_on rows its_list ≡ listing_over h its_list
listing_stands h rows its_list stands =
    ap (λ (r : Rows). listing_on r its_list) stands.1 ∙ listing_lifts h its_list stands.0
