-- Codes: their range, their rooms and their places.
use Rattle.std.proofs.Common.{ℕ, ◌≡◌, ◌^◌, true, Some, List, length, ap, sym, ◌∙◌, is_some, nat_lt, nat_cmp}
use Rattle.hotel_model.proofs.Names.{nat_cmp_total, CodeRow, at_number, Install, Issue, Refitted, History, all_issued}
use Rattle.hotel_model.proofs.Names.{rows_of, Reached, is_room, codes_in_range, code_rooms_there, places_once}
use Rattle.hotel_model.proofs.{Invariants.EventRanges.last_in_range, Invariants.CodePlaces.places_have_codes}
use Rattle.hotel_model.proofs.{Invariants.OpenLocks.there_by_codes, Invariants.OpenLocks.not_empty}
use Rattle.hotel_model.proofs.{RowsAfter.HasRows.room_has_row, OfTables.RowTests.both, OfTables.RowTests.all_mapped}
use Rattle.hotel_model.proofs.{OfTables.RowTests.all_found, SoundRows.RowsPass.codes_pass}
use Rattle.hotel_model.proofs.{SoundRows.SoundKeys.codes_in_order, OfTables.Tests.lt_tested}
use Rattle.hotel_model.proofs.{SoundRows.SoundRoomRows.each_room_is, SoundRows.SoundRoomRows.eq_tested}
use Rattle.hotel_model.proofs.OfTables.CodesByPlace.{codes_are_placed, codes_are_listed}

-- Each code has 48 bits.
pub codes_fit : (h : History) → Reached h → codes_in_range (rows_of h) ≡ true
codes_fit h ok =
    all_mapped (λ code. nat_lt code (2 ^ 48)) (λ (e : ℕ × CodeRow). e.0) (all_issued h)
    ∙ codes_pass (λ h e. nat_lt e.0 (2 ^ 48)) (λ h event e ok t. t)
    (λ s ok. sym (all_mapped (λ code. nat_lt code (2 ^ 48)) (λ (e : ℕ × CodeRow). e.0) s.codes) ∙ ok.code_range)
    (λ h room code kind ok. lt_tested code (2 ^ 48) (last_in_range h (Install room kind code) ok).1)
    (λ h party room number code ok. lt_tested code (2 ^ 48) (last_in_range h (Issue party room number code) ok))
    (λ h room fit code ok. lt_tested code (2 ^ 48) (last_in_range h (Refitted room fit code) ok)) h ok

-- the room of a code in the table is there
pub code_room_there : (h : History) → Reached h → (code : ℕ) (row : CodeRow)
    → at_number (all_issued h) code ≡ Some row → is_room h row.room ≡ true
code_room_there h ok code row e =
    let p = places_have_codes h ok code row e in
    there_by_codes h ok row.room (λ n. not_empty p.0 code p.1 (sym p.2 ∙ n))

-- The room of each code is there.
pub code_rooms : (h : History) → Reached h → code_rooms_there (rows_of h) ≡ true
code_rooms h ok =
    all_found nat_cmp nat_cmp_total (λ (e : ℕ × CodeRow). is_some (at_number (rows_of h).rooms e.1.room))
    (all_issued h) (codes_in_order h ok)
    (λ code row e. room_has_row h row.room (code_room_there h ok code row e))

-- Each room's codes stand at the places 0 and on, each once, as many as its row says.
pub codes_once : (h : History) → Reached h → places_once (rows_of h) ≡ true
codes_once h ok =
    each_room_is h ok _
    (λ r kind e.
    let p = codes_are_placed h ok r in
    both _ _ (both _ _ p.0 (eq_tested _ _ (ap (λ (zs : List ℕ). length zs) p.1)))
    (eq_tested _ _ (codes_are_listed h ok r)))
