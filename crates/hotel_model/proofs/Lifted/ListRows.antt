-- The rows of the lists, on the rows of a history and on the history itself.
use Rattle.std.proofs.Common.{ℕ, zero, suc, ◌≡◌, ◌≤◌, ◌<◌, ◌+◌, ◌-◌, true, false, Option, Some, None, List, []}
use Rattle.std.proofs.Common.{◌∷◌, ◌++◌, length, map, refl, ap, sym, ◌∙◌, arith, append_assoc, append-nil}
use Rattle.std.proofs.Common.{length-append}
use Rattle.std.proofs.Common.{◌==◌, ◌||◌, filter_map, option_map, nat_lt, nat_le, if◌then◌else◌}
use Rattle.hotel_model.proofs.Names.{range_with_len, cons_option, keys_of, values_of, nat_tests, filter_map-append}
use Rattle.hotel_model.proofs.Names.{RoomRow, is_one_of, said_of, at_number, History, room_row, rows_of, issued}
use Rattle.hotel_model.proofs.Names.{current, held, passed, awaited, registered, rooms, stays, is_room, Reached, housed}
use Rattle.hotel_model.proofs.Names.{house_row_on, in_house_on, state_at, chain_row_on, chain_on, awaited_on}
use Rattle.hotel_model.proofs.Names.{behind_row_on, left_behind_on, day, kinds, nights}
use Rattle.hotel_model.specs.{declared.list_rows.BehindRow.BehindRow, declared.list_rows.CodeState.CodeState}
use Rattle.hotel_model.specs.{Refinement.ListsLift.ListsLift}
use Rattle.hotel_model.specs.declared.list_rows.CodeState.TheVariants.{Passed, Held, Awaited}
use Rattle.hotel_model.specs.Lists.{house_row, house_row_of, in_house, in_places, chain, behind_row, left_behind}
use Rattle.hotel_model.specs.Lists.{status_row, room_status, are_ahead, free_row, availability}
use Rattle.hotel_model.specs.Refinement.ListsOnRows.{status_row_on, room_status_on, free_row_on, availability_on}
use Rattle.hotel_model.specs.{declared.list_rows.FreeRow.FreeRow, Words.greatest}
use Rattle.hotel_model.proofs.{OfTables.RowTests.or_later, OfTables.Tests.eq_self, OfTables.RoomNumbers.room_there}
use Rattle.hotel_model.proofs.{Lifted.LocksListed.locks_same}
use Rattle.hotel_model.proofs.{Invariants.LedgerOrder.ledger_holds, OfTables.CodeSearch.codes_are_found}
use Rattle.hotel_model.proofs.{Invariants.CodesFound.held_found, Invariants.CodesFound.current_found}
use Rattle.hotel_model.proofs.{OfTables.NotesListed.notes_are_listed, Invariants.KindCounts.rooms_counted}

-- rows that are made of the rooms' rows, and of the rooms' numbers
room_by_room : {R : Type 0} (h : History) (f : RoomRow → Option R) (k : ℕ → Option R) (es : List (ℕ × List ℕ))
    → ((r : ℕ) (kind : List ℕ) → is_one_of r (keys_of es) ≡ true → f (room_row h r kind) ≡ k r)
    → filter_map f (values_of (map (λ e. (e.0, room_row h e.0 e.1)) es)) ≡ filter_map k (keys_of es)
room_by_room h f k [] same = refl
room_by_room h f k (e ∷ es) same =
    ap (λ o. cons_option o (filter_map f (values_of (map (λ e. (e.0, room_row h e.0 e.1)) es))))
    (same e.0 e.1 (ap (λ b. b || is_one_of e.0 (keys_of es)) (eq_self e.0)))
    ∙ ap (cons_option (k e.0))
    (room_by_room h f k es (λ r kind t. same r kind (or_later (e.0 == r) (is_one_of r (keys_of es)) t)))

made_of : {A B : Type 0} (f : A → B) (o : Option A) → option_map f o ≡ said_of o None (λ a. Some (f a))
made_of f (Some a) = refl
made_of f None = refl

house_by : (h : History) (r : ℕ) (kind : List ℕ) (o : Option ℕ)
    → said_of o None (λ party. option_map (housed (room_row h r kind)) (at_number (stays h) party))
    ≡ said_of o None (λ party. said_of (at_number (stays h) party) None (λ stay. Some (house_row_of h r stay)))
house_by h r kind (Some party) = made_of (housed (room_row h r kind)) (at_number (stays h) party)
house_by h r kind None = refl

-- the rooms in which a party is registered
pub in_house_same : (h : History) → in_house_on (rows_of h) ≡ in_house h
in_house_same h =
    room_by_room h (house_row_on (rows_of h)) (house_row h) (rooms h) (λ r kind t. house_by h r kind (registered h r))

-- how many codes are awaited
awaited_many : (h : History) → Reached h → (r : ℕ) (kind : List ℕ)
    → is_room h r ≡ true → awaited_on (room_row h r kind) ≡ length (awaited h r)
awaited_many h ok r kind there =
    let n : length (issued h r) ≡ length (passed h r) + (length (awaited h r) + 1) =
    ap (λ (cs : List ℕ). length cs) (sym (ledger_holds h ok r there))
    ∙ length-append (passed h r) (held h r ∷ awaited h r) ∙ omega arith in
    omega (arith, n)

behind_same : (h : History) → Reached h → (r : ℕ) (kind : List ℕ)
    → is_room h r ≡ true → behind_row_on (rows_of h) (room_row h r kind) ≡ behind_row h r
behind_same h ok r kind there =
    rw (held_found h ok r there, current_found h ok r there)
    (ap (λ n. if nat_le 2 n then (let row : BehindRow = record {
      room = r;
      held = held h r;
      current = current h r;
      awaited = n;
    } in Some row) else None) (awaited_many h ok r kind there))

-- the rooms that are left behind
pub left_behind_same : (h : History) → Reached h → left_behind_on (rows_of h) ≡ left_behind h
left_behind_same h ok =
    room_by_room h (behind_row_on (rows_of h)) (behind_row h) (rooms h) (λ r kind t. behind_same h ok r kind t)

-- the codes at some places of a room, which are in one state
at_places : (h : History) → Reached h → (r : ℕ) (kind : List ℕ) (before codes later : List ℕ) (state : CodeState)
    → issued h r ≡ before ++ (codes ++ later)
    → ((place : ℕ) → length before ≤ place → place < length before + length codes
    → state_at (length (passed h r)) place ≡ state)
    → filter_map (chain_row_on (rows_of h) (room_row h r kind)) (range_with_len (length before) (length codes))
    ≡ in_places (length before) state codes
at_places h ok r kind before [] later state e s = refl
at_places h ok r kind before (c ∷ codes) later state e s =
    let f = chain_row_on (rows_of h) (room_row h r kind) in
    let found = codes_are_found h ok r before c (codes ++ later) e in
    let one : f (length before) ≡ Some (record { place = length before; code = c; state = state }) =
    rw (found, s (length before) (omega arith) (omega arith)) refl in
    let more : length (before ++ c ∷ []) ≡ length before + 1 = length-append before (c ∷ []) in
    let later_ones =
    at_places h ok r kind (before ++ c ∷ []) codes later state (e ∙ sym (append_assoc before (c ∷ []) (codes ++ later)))
    (λ place m n. s place (omega (arith, more)) (omega (arith, more))) in
    ap (λ o. cons_option o (filter_map f (range_with_len (length before + 1) (length codes)))) one
    ∙ ap (λ rows. record { place = length before; code = c; state = state } ∷ rows) (rw more at later_ones)

range_parts : (a m n b : ℕ) → a + m ≡ b → range_with_len a (m + n) ≡ range_with_len a m ++ range_with_len b n
range_parts a zero n b e =
    let z : zero + n ≡ n = omega arith in
    let same : a ≡ b = omega (arith, e) in
    ap (range_with_len a) z ∙ ap (λ k. range_with_len k n) same
range_parts a (suc m) n b e =
    let z : suc m + n ≡ suc (m + n) = omega arith in
    ap (range_with_len a) z ∙ ap (λ ns. a ∷ ns) (range_parts (a + 1) m n b (omega (arith, e)))

passed_place : (lock place : ℕ) → place < lock → state_at lock place ≡ Passed
passed_place lock place n =
    let t : nat_lt place lock ≡ true = grind (arith, nat_tests) in
    ap (λ b. if b then Passed else if place == lock then Held else Awaited) t

held_place : (lock place : ℕ) → lock ≤ place → place < lock + 1 → state_at lock place ≡ Held
held_place lock place m n =
    let t : nat_lt place lock ≡ false = grind (arith, nat_tests) in
    let u : (place == lock) ≡ true = grind (arith, nat_tests) in
    ap (λ b. if b then Passed else if place == lock then Held else Awaited) t ∙ ap (λ b. if b then Held else Awaited) u

awaited_place : (lock place : ℕ) → lock + 1 ≤ place → state_at lock place ≡ Awaited
awaited_place lock place n =
    let t : nat_lt place lock ≡ false = grind (arith, nat_tests) in
    let u : (place == lock) ≡ false = grind (arith, nat_tests) in
    ap (λ b. if b then Passed else if place == lock then Held else Awaited) t ∙ ap (λ b. if b then Held else Awaited) u

-- the codes of a room
pub chain_same : (h : History) → Reached h → (r : ℕ) → is_room h r ≡ true → chain_on (rows_of h) r ≡ chain h r
chain_same h ok r there =
    let found = room_there h r there in
    let rows = rows_of h in
    let row = room_row h r found.0 in
    let f = chain_row_on rows row in
    let before = passed h r in
    let one = held h r ∷ [] in
    let later = awaited h r in
    let a = length before in
    let b = length later in
    let whole : before ++ (one ++ later) ≡ issued h r = ledger_holds h ok r there in
    let longer : length (before ++ one) ≡ a + 1 = length-append before one in
    let many : length (issued h r) ≡ a + (1 + b) =
    ap (λ (cs : List ℕ). length cs) (sym whole) ∙ length-append before (one ++ later) ∙ omega arith in
    let first = at_places h ok r found.0 [] before (one ++ later) Passed (sym whole)
    (λ place m n. passed_place a place (omega (arith, n))) in
    let second =
    at_places h ok r found.0 before one later Held (sym whole) (λ place m n. held_place a place m (omega (arith, n))) in
    let rest : issued h r ≡ (before ++ one) ++ (later ++ []) =
    sym whole ∙ sym (append_assoc before one later) ∙ ap (λ cs. (before ++ one) ++ cs) (sym (append-nil later)) in
    let third = at_places h ok r found.0 (before ++ one) later [] Awaited rest
    (λ place m n. awaited_place a place (omega (arith, m, longer))) in
    let parts : range_with_len 0 (a + (1 + b))
    ≡ range_with_len 0 a ++ (range_with_len a 1 ++ range_with_len (a + 1) b) =
    range_parts 0 a (1 + b) a (omega arith) ∙ ap (λ ns. range_with_len 0 a ++ ns) (range_parts a 1 b (a + 1) refl) in
    ap (λ o. said_of o [] (λ row. filter_map (chain_row_on rows row) (range_with_len 0 row.codes))) found.2
    ∙ ap (λ n. filter_map f (range_with_len 0 n)) many ∙ ap (filter_map f) parts
    ∙ filter_map-append f (range_with_len 0 a) (range_with_len a 1 ++ range_with_len (a + 1) b)
    ∙ ap (λ rs. filter_map f (range_with_len 0 a) ++ rs)
    (filter_map-append f (range_with_len a 1) (range_with_len (a + 1) b))
    ∙ ap (λ rs. rs ++ (filter_map f (range_with_len a 1) ++ filter_map f (range_with_len (a + 1) b))) first
    ∙ ap (λ rs. in_places 0 Passed before ++ (rs ++ filter_map f (range_with_len (a + 1) b))) second
    ∙ ap (λ rs. in_places 0 Passed before ++ (in_places a Held one ++ rs)) (rw longer at third)
    ∙ sym (append_assoc (in_places 0 Passed before) (in_places a Held one) (in_places (a + 1) Awaited later))

-- how each room stands
status_by : (h : History) → Reached h → (es : List (ℕ × List ℕ))
    → ((r : ℕ) → is_one_of r (keys_of es) ≡ true → is_room h r ≡ true)
    → map status_row_on (values_of (map (λ e. (e.0, room_row h e.0 e.1)) es)) ≡ map (λ e. status_row h e.0 e.1) es
status_by h ok [] there = refl
status_by h ok (e ∷ es) there =
    let here : is_room h e.0 ≡ true = there e.0 (ap (λ b. b || is_one_of e.0 (keys_of es)) (eq_self e.0)) in
    (λ i. record (status_row h e.0 e.1) { awaited = awaited_many h ok e.0 e.1 here i }
    ∷ status_by h ok es (λ r t. there r (or_later (e.0 == r) (is_one_of r (keys_of es)) t)) i)

pub status_same : (h : History) → Reached h → room_status_on (rows_of h) ≡ room_status h
status_same h ok = status_by h ok (rooms h) (λ r t. t)

-- what is free of each kind
free_row_same : (h : History) (d n : ℕ) (kind : List ℕ) → free_row_on (rows_of h) d n kind ≡ free_row h d n kind
free_row_same h d n kind = ap (λ rooms_there. let r : FreeRow = record {
  kind = kind;
  rooms = rooms_there;
  free = if are_ahead (day h) d n then rooms_there - greatest (nights h kind) d n else 0;
} in r) (rooms_counted h kind)

free_by_kind : (h : History) (d n : ℕ) (ks : List (List ℕ))
    → map (free_row_on (rows_of h) d n) ks ≡ map (free_row h d n) ks
free_by_kind h d n [] = refl
free_by_kind h d n (k ∷ ks) = (λ i. free_row_same h d n k i ∷ free_by_kind h d n ks i)

pub availability_same : (h : History) (d n : ℕ) → availability_on (rows_of h) d n ≡ availability h d n
availability_same h d n = free_by_kind h d n (kinds h)

-- The lists on the rows of a history are those of the history.
pub lists_lift : (h : History) → Reached h → ListsLift h
lists_lift h ok = record {
  of_arrivals = λ day. refl;
  of_house = in_house_same h;
  of_chain = chain_same h ok;
  of_left_behind = left_behind_same h ok;
  of_audit = notes_are_listed h ok;
  of_business_day = refl;
  of_room_status = status_same h ok;
  of_cards_inside = refl;
  of_bookings = refl;
  of_availability = availability_same h;
  of_cards_given = λ party. refl;
  of_card = λ number. refl;
  of_locks = locks_same h ok;
}
