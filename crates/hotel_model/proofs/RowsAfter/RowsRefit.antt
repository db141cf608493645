-- The rows after a lock was replaced.
use Rattle.std.proofs.Common.{ℕ, ◌≡◌, ◌+◌, ◌++◌, ◌∷◌, [], true, false, List, ap, sym, ◌∙◌, length, nat_cmp}
use Rattle.hotel_model.proofs.Names.{insert_entry, pair_cmp, said_of, RoomRow, when, and_last, Refitted, History, ◌▷◌}
use Rattle.hotel_model.proofs.Names.{held, passed, awaited, issued, all_issued, secured, notes, present_fit}
use Rattle.hotel_model.proofs.Names.{notes_before, fits, fit_row, rooms, room_row, rows_of, is_room, Reached}
use Rattle.hotel_model.proofs.Names.{room_changed, codes_of, notes_in}
use Rattle.hotel_model.proofs.{Facts.Follow.FollowsBy, RowsAfter.RowsRooms.one_changed, RowsAfter.RowsRooms.length_more}
use Rattle.hotel_model.proofs.{RowsAfter.RowsIssue.codes_said, OfTables.RoomNumbers.rooms_once}
use Rattle.hotel_model.proofs.{OfTables.RoomNumbers.room_there}
use Rattle.hotel_model.proofs.{Invariants.LedgerOrder.ledger_holds, OfTables.Tests.eq_self}

-- the row of a room with a new lock
abbrev pub refitted_row : ℕ → RoomRow → RoomRow
refitted_row fit row =
    record row { lock_place = row.codes; codes = row.codes + 1; secured = false; fit = fit; before = row.notes }

notes_said : (h : History) (room : ℕ) → is_room h room ≡ true → notes_in (rows_of h) room ≡ length (notes h room)
notes_said h room e = ap (λ o. said_of o 0 (λ row. row.notes)) (room_there h room e).2

row_refitted : (h : History) (room fit code : ℕ) (k : List ℕ) → Reached h → is_room h room ≡ true
    → room_row (h ▷ Refitted room fit code) room k ≡ refitted_row fit (room_row h room k)
row_refitted h room fit code k ok there =
    ap (λ b. record (room_row h room k) {
      lock_place = length (when b (λ codes. codes ++ held h room ∷ awaited h room) (passed h room));
      codes = length (when b (and_last code) (issued h room));
      secured = when b (λ _. false) (secured h room);
      fit = when b (λ _. fit) (present_fit h room);
      before = when b (λ _. length (notes h room)) (notes_before h room);
    }) (eq_self room)
    ∙ ap (λ (zs : List ℕ). record (room_row h room k) {
      lock_place = length zs;
      codes = length (issued h room ++ code ∷ []);
      secured = false;
      fit = fit;
      before = length (notes h room);
    }) (ledger_holds h ok room there)
    ∙ ap (λ n. record (room_row h room k) {
      lock_place = length (issued h room);
      codes = n;
      secured = false;
      fit = fit;
      before = length (notes h room);
    }) (length_more (issued h room) code)

-- a lock is replaced
pub refit_follows : (h : History) (room fit code : ℕ)
    → Reached h → is_room h room ≡ true → FollowsBy h (Refitted room fit code)
refit_follows h room fit code ok there =
    let h' : History = h ▷ Refitted room fit code in
    let rs = room_changed room (refitted_row fit) (rows_of h).rooms in
    ap (λ rs. record (rows_of h') { rooms = rs })
    (one_changed (room_row h') (room_row h) (refitted_row fit) room
    (λ r k t. ap (λ b. record (room_row h r k) {
      lock_place = length (when b (λ codes. codes ++ held h room ∷ awaited h room) (passed h r));
      codes = length (when b (and_last code) (issued h r));
      secured = when b (λ _. false) (secured h r);
      fit = when b (λ _. fit) (present_fit h r);
      before = when b (λ _. length (notes h room)) (notes_before h r);
    }) t)
    (λ k. row_refitted h room fit code k ok there)
    (rooms h) (rooms_once h ok))
    ∙ ap (λ place. record (rows_of h') {
      rooms = rs;
      codes = insert_entry nat_cmp (all_issued h) code (record { room = room; place = place });
      fits = insert_entry pair_cmp (fits h) (room, fit) (fit_row room fit place (length (notes h room)));
    }) (sym (codes_said h room there))
    ∙ ap (λ n. record (rows_of h') {
      rooms = rs;
      codes = insert_entry nat_cmp (all_issued h) code (record { room = room; place = codes_of (rows_of h) room });
      fits = insert_entry pair_cmp (fits h) (room, fit) (fit_row room fit (codes_of (rows_of h) room) n);
    }) (sym (notes_said h room there))
