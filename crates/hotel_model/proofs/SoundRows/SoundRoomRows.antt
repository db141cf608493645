-- Rooms: their numbers, locks, counts of codes and notes, and which are secured.
use Rattle.std.proofs.Common.{ℕ, ◌≡◌, ◌≤◌, ◌<◌, ◌-◌, not, cond, sym, Option, None, Bool, true, false, Some, List, []}
use Rattle.std.proofs.Common.{◌∷◌, ◌++◌, length, refl, ap, ◌∙◌, arith, length-append, ◌==◌, ◌&&◌, nat_le, nat_cmp}
use Rattle.hotel_model.proofs.Names.{nat_cmp_total, nat_tests, Link, begins_fit, last_link_of, RoomRow, at_number}
use Rattle.hotel_model.proofs.Names.{Install, History, issued, passed, awaited, held, secured, rooms, room_row, rows_of}
use Rattle.hotel_model.proofs.Names.{is_room, Reached, each_room, room_numbers, lock_places, codes_few, note_counts}
use Rattle.hotel_model.proofs.Names.{secured_hold_last}
use Rattle.hotel_model.proofs.{OfTables.Numbered.found_there, Invariants.EventRanges.last_in_range}
use Rattle.hotel_model.proofs.{Invariants.NumbersLeft.codes_fit}
use Rattle.hotel_model.proofs.{Invariants.LedgerOrder.ledger_holds, OfTables.Tests.eq_self}
use Rattle.hotel_model.proofs.Invariants.SecuredRooms.{secured_rooms_fit, secured_have_newest}
use Rattle.hotel_model.proofs.{OfTables.RowTests.both, OfTables.RowTests.where_so, OfTables.RowTests.all_mapped}
use Rattle.hotel_model.proofs.{OfTables.RowTests.all_found, SoundRows.RowsPass.rooms_pass}
use Rattle.hotel_model.proofs.{SoundRows.SoundKeys.rooms_in_order, OfTables.Tests.le_tested, OfTables.Tests.lt_tested}
use Rattle.hotel_model.proofs.{Starts.StartRows.rooms_numbered_at_start, Invariants.FitsOf.few_notes}
use Rattle.hotel_model.proofs.{Invariants.RoomLinks.newest_are_last, Invariants.NewestLinks.newest_by_rows}

-- a rule of all rooms holds where it holds of each room's row
pub each_room_is : (h : History) → Reached h → (rule : RoomRow → Bool)
    → ((r : ℕ) (kind : List ℕ) → at_number (rooms h) r ≡ Some kind → rule (room_row h r kind) ≡ true)
    → each_room (rows_of h) rule ≡ true
each_room_is h ok rule f =
    all_mapped (λ (e : ℕ × RoomRow). rule e.1) (λ e. (e.0, room_row h e.0 e.1)) (rooms h)
    ∙ all_found nat_cmp nat_cmp_total (λ e. rule (room_row h e.0 e.1)) (rooms h) (rooms_in_order h ok) f

-- a room of the table is there
pub listed_there : (h : History) (r : ℕ) (kind : List ℕ) → at_number (rooms h) r ≡ Some kind → is_room h r ≡ true
listed_there h r kind e = found_there (rooms h) r kind e

-- Each room has its number, from 1 to 9999.
pub rooms_numbered : (h : History) → Reached h → room_numbers (rows_of h) ≡ true
rooms_numbered h ok =
    all_mapped _ (λ e. (e.0, room_row h e.0 e.1)) (rooms h)
    ∙ rooms_pass (λ h e. (e.0 == e.0) && nat_le 1 e.0 && nat_le e.0 9999) (λ h event e ok t. t)
    (λ s ok. all_mapped _ (λ e. (e.0, e.1.kind)) s.rooms ∙ rooms_numbered_at_start s ok)
    (λ h room code kind ok. let n = (last_in_range h (Install room kind code) ok).0 in
    both _ _ (both _ _ (eq_self room) (le_tested 1 room n.0)) (le_tested room 9999 n.1)) h ok

within_by : (ps : List ℕ) (code : ℕ) (later codes : List ℕ) → ps ++ code ∷ later ≡ codes → length ps < length codes
within_by ps code later codes e =
    let n = ap (λ (zs : List ℕ). length zs) e in omega (arith, n, length-append ps (code ∷ later))

-- The lock's place is one of the room's codes.
pub locks_placed : (h : History) → Reached h → lock_places (rows_of h) ≡ true
locks_placed h ok =
    each_room_is h ok _
    (λ r kind e. lt_tested (length (passed h r)) (length (issued h r))
    (within_by (passed h r) (held h r) (awaited h r) (issued h r) (ledger_holds h ok r (listed_there h r kind e))))

-- A room has at most as many codes as there are cards, and those that its fits begin with.
pub few_codes : (h : History) → Reached h → codes_few (rows_of h) ≡ true
few_codes h ok = each_room_is h ok _ (λ r kind e. le_tested _ _ (codes_fit h ok r))

-- A room has at most 99 times 9,999,999 notes.
pub notes_numbered : (h : History) → Reached h → note_counts (rows_of h) ≡ true
notes_numbered h ok = each_room_is h ok _ (λ r kind e. le_tested _ _ (few_notes h ok r (listed_there h r kind e)))

-- where a link is said, none is barred
not_barred : (b : Bool) (o : Option Link) (link : Link) → cond b None o ≡ Some link → b ≡ false
not_barred true o link e = absurd (let w : ◌≡◌ {A = Option Link} None (Some link) = e in cc)
not_barred false o link e = refl

-- A secured room has two codes or more, and no fit begins with the last one.
secured_two : (h : History) → Reached h → (r : ℕ)
    → secured h r ≡ true → (2 ≤ length (issued h r)) × (begins_fit (rows_of h) r (length (issued h r) - 1) ≡ false)
secured_two h ok r e =
    let newest = secured_have_newest h ok r e in
    let l = newest_are_last h ok r newest.0 newest.1 in
    let n = ap (λ (zs : List ℕ). length zs) l.1 in (
      omega (arith, n, length-append l.0 (newest.0.old_code ∷ newest.0.new_code ∷ [])),
      not_barred (begins_fit (rows_of h) r (length (issued h r) - 1)) (last_link_of (issued h r)) newest.0
          (sym (newest_by_rows h ok r) ∙ newest.1),
    )

holds_last : (ps : List ℕ) (code : ℕ) (later codes : List ℕ)
    → ps ++ code ∷ later ≡ codes → later ≡ [] → length ps ≡ length codes - 1
holds_last ps code later codes e none =
    let n = ap (λ (zs : List ℕ). length zs) e in
    let m = ap (λ (zs : List ℕ). length zs) none in
    omega (arith, n, m, length-append ps (code ∷ later))

pub eq_tested : (a b : ℕ) → a ≡ b → (a == b) ≡ true
eq_tested a b e = grind (arith, nat_tests)

-- A secured room's lock holds its last code, which isn't its first.
pub secured_locks : (h : History) → Reached h → secured_hold_last (rows_of h) ≡ true
secured_locks h ok =
    each_room_is h ok _
    (λ r kind e. where_so (secured h r) _
    (λ s. let fit = secured_rooms_fit h ok r s in
    both _ _ (both _ _ (eq_tested _ _ (holds_last (passed h r) (held h r) (awaited h r) (issued h r)
    (ledger_holds h ok r fit.0) fit.1)) (le_tested 2 _ (secured_two h ok r s).0)) (ap not (secured_two h ok r s).1)))
