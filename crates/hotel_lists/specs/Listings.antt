-- What a list has, its header and its lines, or nothing where its room isn't there; and how it was written.
use Rattle.std.specs.Prelude.{◌≡◌, ◌≢◌, ◌⊎◌, ℕ, Bool, true, false, List, [], ◌++◌, map, Option, Some, None, is_some}
use Rattle.std.specs.Prelude.{Result, Ok, Err}
use Rattle.std.specs.List.{concat}
use Rattle.std.specs.Io.KnownBytes.{Appends}
use Rattle.keycard_rules.specs.{declared.kept.Kept.Ghosts as KeptOf}
use Rattle.hotel_model.specs.{Rows.Rows, Rows.notes_at, Refinement.Lookups.room_at}
use Rattle.hotel_model.specs.Refinement.ListsOnRows.{arrivals_on, in_house_on, chain_on, left_behind_on}
use Rattle.hotel_model.specs.Refinement.ListsOnRows.{business_day_on, room_status_on, cards_inside_on, bookings_on}
use Rattle.hotel_model.specs.Refinement.ListsOnRows.{availability_on}
use Rattle.hotel_streams.specs.Bytes.{AppendsPrefix}
use Rattle.hotel_lock.specs.NoteLine.{audit_header, note_line}
use Rattle.hotel_lists.specs.declared.fault.ListFault.{ListFault}
use Rattle.hotel_lists.specs.RowLines.{LooksAt}
use Rattle.hotel_lists.specs.RowLines.{arrivals_header, in_house_header, chain_header, left_behind_header}
use Rattle.hotel_lists.specs.RowLines.{day_header, status_header, inside_header, free_header}
use Rattle.hotel_lists.specs.RowLines.{arrival_line, house_line, chain_line, behind_line}
use Rattle.hotel_lists.specs.RowLines.{day_line, status_line, inside_line, free_line, card_line, lock_line}
use Rattle.hotel_lists.specs.{RowLines.card_header, RowLines.locks_header}
use Rattle.hotel_model.specs.Refinement.ListsOnRows.{card_rows_on, locks_on}
use Rattle.hotel_lists.specs.declared.fault.ListFault.TheVariants as fault

-- A list's header and its lines.
pub record Listing : Type 0 where
  pub header : List ℕ
  pub lines : List (List ℕ)

-- The listing with this header and a line for each row.
abbrev pub listing : {R : Type 0} → List ℕ → (R → List ℕ) → List R → Listing
listing header line rows = record { header = header; lines = map line rows }

-- The listing of a room, which is there or not.
abbrev pub of_room : Bool → Listing → Option Listing
of_room true its_listing = Some its_listing
of_room false its_listing = None

-- The listing of each list, of these rows.
abbrev pub arrivals_listing : Rows → ℕ → Option Listing
arrivals_listing rows day = Some (listing arrivals_header arrival_line (arrivals_on rows day))

abbrev pub in_house_listing : Rows → Option Listing
in_house_listing rows = Some (listing in_house_header house_line (in_house_on rows))

abbrev pub chain_listing : Rows → ℕ → Option Listing
chain_listing rows room =
    of_room (is_some (room_at rows room)) (listing chain_header chain_line (chain_on rows room))

abbrev pub left_behind_listing : Rows → Option Listing
left_behind_listing rows = Some (listing left_behind_header behind_line (left_behind_on rows))

abbrev pub audit_listing : Rows → ℕ → Option Listing
audit_listing rows room =
    of_room (is_some (room_at rows room)) (listing audit_header note_line (notes_at rows.notes room))

abbrev pub business_day_listing : Rows → Option Listing
business_day_listing rows = Some (listing day_header day_line (business_day_on rows))

abbrev pub room_status_listing : Rows → Option Listing
room_status_listing rows = Some (listing status_header status_line (room_status_on rows))

abbrev pub inside_listing : Rows → Option Listing
inside_listing rows = Some (listing inside_header inside_line (cards_inside_on rows))

abbrev pub bookings_listing : Rows → Option Listing
bookings_listing rows = Some (listing arrivals_header arrival_line (bookings_on rows))

abbrev pub availability_listing : Rows → ℕ → ℕ → Option Listing
availability_listing rows day nights = Some (listing free_header free_line (availability_on rows day nights))

abbrev pub card_listing : Rows → ℕ → Option Listing
card_listing rows number = Some (listing card_header card_line (card_rows_on rows number))

abbrev pub locks_listing : Rows → Option Listing
locks_listing rows = Some (listing locks_header lock_line (locks_on rows))

-- A list in full: its header and its lines; where its room isn't there, what is said then.
abbrev pub in_full : List ℕ → Option Listing → List ℕ
in_full no_room None = no_room
in_full no_room (Some listing) = listing.header ++ concat listing.lines

-- The header of a list and some whole lines from the first on; or nothing.
abbrev pub IsListPrefix : Option Listing → List ℕ → Type 0
IsListPrefix None text = text ≡ []
IsListPrefix (Some listing) text = (text ≡ []) ⊎ ((taken : List (List ℕ)) × (rest : List (List ℕ))
    × (listing.lines ≡ taken ++ rest) × (text ≡ listing.header ++ concat taken))

-- What a writer took of a list that ended so, where this is said if its room isn't there: all; a prefix after a write
-- of it failed, if there was anything to write; whole lines where memory or the store failed.
abbrev pub ListEnds : List ℕ → Option Listing → Option (List ℕ) → Option (List ℕ) → Result (Unit {0}) ListFault → Type 0
ListEnds no_room listing old new (Ok done) = (is_some listing ≡ true) × Appends old new (in_full no_room listing)
ListEnds no_room listing old new (Err fault.NoRoom) =
    (is_some listing ≡ false) × Appends old new (in_full no_room listing)
ListEnds no_room listing old new (Err fault.Write) =
    (is_some listing ≡ false → no_room ≢ []) × AppendsPrefix old new (in_full no_room listing)
ListEnds no_room listing old new (Err fault.Memory) =
    (prefix : List ℕ) × IsListPrefix listing prefix × Appends old new prefix
ListEnds no_room listing old new (Err fault.Store) =
    (prefix : List ℕ) × IsListPrefix listing prefix × Appends old new prefix

-- A list of a room was written of books from old to new: what the writer had taken before it, and what it has behind
-- it.
pub record WritesRoomList {B : Type 0} (K : KeptOf B) (its_listing : Option Listing) (old new : B)
    (had has : Option (List ℕ)) (result : Result (Unit {0}) ListFault) : Type 0 where
  pub text : K.is_honest new → ListEnds [] its_listing had has result
  pub books : LooksAt K old new result

-- The same of a list that needs no room.
pub record WritesList {B : Type 0} (K : KeptOf B) (its_listing : Option Listing) (old new : B)
    (had has : Option (List ℕ)) (result : Result (Unit {0}) ListFault) : Type 0 where
  pub written : WritesRoomList K its_listing old new had has result
  pub no_room : result ≡ Err fault.NoRoom → ⊥
