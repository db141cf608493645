-- The listing of each list that can be asked for.
use Rattle.std.specs.Prelude.{Option, Some}
use Rattle.hotel_model.specs.{Rows.Rows, History.History, Cases.is_room, Notes.notes}
use Rattle.hotel_model.specs.Lists.{arrivals, in_house, chain, left_behind, business_day, room_status, cards_inside}
use Rattle.hotel_model.specs.Lists.{bookings, availability, cards_given}
use Rattle.hotel_lists.specs.Listings.{Listing, listing, of_room, arrivals_listing, in_house_listing, chain_listing}
use Rattle.hotel_lists.specs.Listings.{left_behind_listing, audit_listing, business_day_listing, room_status_listing}
use Rattle.hotel_lists.specs.Listings.{inside_listing, bookings_listing, availability_listing, card_listing}
use Rattle.hotel_lists.specs.{RowLines.given_header, RowLines.given_line}
use Rattle.hotel_model.specs.Refinement.ListsOnRows.{cards_given_on}
use Rattle.hotel_lists.specs.Listings.{locks_listing}
use Rattle.hotel_model.specs.Lists.{card_rows, locks}
use Rattle.hotel_lock.specs.NoteLine.{audit_header, note_line}
use Rattle.hotel_lists.specs.RowLines.{arrivals_header, in_house_header, chain_header, left_behind_header}
use Rattle.hotel_lists.specs.RowLines.{day_header, status_header, inside_header, free_header, card_header, locks_header}
use Rattle.hotel_lists.specs.RowLines.{arrival_line, house_line, chain_line, behind_line}
use Rattle.hotel_lists.specs.RowLines.{day_line, status_line, inside_line, free_line, card_line, lock_line}
use Rattle.hotel_asks.specs.declared.asked.ListAsk.{ListAsk}
use Rattle.hotel_asks.specs.declared.asked.ListAsk.TheVariants.{Arrivals, InHouse, ChainOf, LeftBehind, AuditOf}
use Rattle.hotel_asks.specs.declared.asked.ListAsk.TheVariants.{BusinessDay, RoomStatus, Inside, Bookings, Availability}
use Rattle.hotel_asks.specs.declared.asked.ListAsk.TheVariants.{CardsGiven, CardOf, Locks}

-- The listing of a list over a history.
abbrev pub listing_over : History → ListAsk → Option Listing
listing_over h (Arrivals day) = Some (listing arrivals_header arrival_line (arrivals h day))
listing_over h InHouse = Some (listing in_house_header house_line (in_house h))
listing_over h (ChainOf room) = of_room (is_room h room) (listing chain_header chain_line (chain h room))
listing_over h LeftBehind = Some (listing left_behind_header behind_line (left_behind h))
listing_over h (AuditOf room) = of_room (is_room h room) (listing audit_header note_line (notes h room))
listing_over h BusinessDay = Some (listing day_header day_line (business_day h))
listing_over h RoomStatus = Some (listing status_header status_line (room_status h))
listing_over h Inside = Some (listing inside_header inside_line (cards_inside h))
listing_over h Bookings = Some (listing arrivals_header arrival_line (bookings h))
listing_over h (Availability day nights) = Some (listing free_header free_line (availability h day nights))
listing_over h (CardsGiven party) = Some (listing given_header given_line (cards_given h party))
listing_over h (CardOf number) = Some (listing card_header card_line (card_rows h number))
listing_over h Locks = Some (listing locks_header lock_line (locks h))

-- The same over the rows of the books.
abbrev pub listing_on : Rows → ListAsk → Option Listing
listing_on rows (Arrivals day) = arrivals_listing rows day
listing_on rows InHouse = in_house_listing rows
listing_on rows (ChainOf room) = chain_listing rows room
listing_on rows LeftBehind = left_behind_listing rows
listing_on rows (AuditOf room) = audit_listing rows room
listing_on rows BusinessDay = business_day_listing rows
listing_on rows RoomStatus = room_status_listing rows
listing_on rows Inside = inside_listing rows
listing_on rows Bookings = bookings_listing rows
listing_on rows (Availability day nights) = availability_listing rows day nights
listing_on rows (CardsGiven party) = Some (listing given_header given_line (cards_given_on rows party))
listing_on rows (CardOf number) = card_listing rows number
listing_on rows Locks = locks_listing rows
