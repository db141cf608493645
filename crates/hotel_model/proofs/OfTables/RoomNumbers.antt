-- The numbers of rooms: none stands twice, and what a look-up of a room finds.
use Rattle.std.proofs.Common.{ℕ, ◌≡◌, true, false, Some, None, List, [], ◌∷◌, ap, ◌∙◌, ◌==◌, option_map, nat_cmp}
use Rattle.std.proofs.Common.{Ordering, Less, Equal, Greater}
use Rattle.hotel_model.proofs.Names.{match_ordering, insert_entry, keys_of, is_one_of, at_number, Install, History}
use Rattle.hotel_model.proofs.Names.{start, ◌▷◌, rooms, room_row, rows_of, Reached, is_room}
use Rattle.hotel_model.proofs.{Facts.Follow.ApartFrom, Facts.Follow.RoomsOnce, RowsAfter.RowsRooms.eq_flip}
use Rattle.hotel_model.proofs.{OfTables.Numbered.at_mapped, OfTables.Grown.may_follow}
use Rattle.hotel_model.proofs.{OfTables.Tests.or_false, OfTables.TableKeys.row_of_key, OfTables.TableKeys.no_key}
use Rattle.hotel_model.proofs.{Starts.StartRows.rooms_once_at_start}

pub apart_from : (n : ℕ) (es : List (ℕ × List ℕ)) → is_one_of n (keys_of es) ≡ false → ApartFrom n es
apart_from n [] h = tt
apart_from n (e ∷ es) h = let p = or_false (e.0 == n) (is_one_of n (keys_of es)) h in (p.0, apart_from n es p.1)

apart_inserted_by : (o : Ordering) (n k : ℕ) (v : List ℕ) (e : ℕ × List ℕ) (es : List (ℕ × List ℕ))
    → (k == n) ≡ false → ApartFrom n (e ∷ es) → ApartFrom n (insert_entry nat_cmp es k v)
    → ApartFrom n (match_ordering o ((k, v) ∷ e ∷ es) ((e.0, v) ∷ es) (e ∷ insert_entry nat_cmp es k v))
apart_inserted_by Less n k v e es t a ih = (t, a)
apart_inserted_by Equal n k v e es t a ih = (a.0, a.1)
apart_inserted_by Greater n k v e es t a ih = (a.0, ih)

apart_inserted : (n k : ℕ) (v : List ℕ) (es : List (ℕ × List ℕ))
    → (k == n) ≡ false → ApartFrom n es → ApartFrom n (insert_entry nat_cmp es k v)
apart_inserted n k v [] t a = (t, tt)
apart_inserted n k v (e ∷ es) t a = apart_inserted_by (nat_cmp k e.0) n k v e es t a (apart_inserted n k v es t a.1)

once_inserted_by : (o : Ordering) (k : ℕ) (v : List ℕ) (e : ℕ × List ℕ) (es : List (ℕ × List ℕ))
    → RoomsOnce (e ∷ es) → ApartFrom k (e ∷ es) → RoomsOnce (insert_entry nat_cmp es k v)
    → RoomsOnce (match_ordering o ((k, v) ∷ e ∷ es) ((e.0, v) ∷ es) (e ∷ insert_entry nat_cmp es k v))
once_inserted_by Less k v e es n a ih = (a, n)
once_inserted_by Equal k v e es n a ih = (n.0, n.1)
once_inserted_by Greater k v e es n a ih = (apart_inserted e.0 k v es (eq_flip e.0 k a.0) n.0, ih)

once_inserted : (k : ℕ) (v : List ℕ) (es : List (ℕ × List ℕ))
    → RoomsOnce es → ApartFrom k es → RoomsOnce (insert_entry nat_cmp es k v)
once_inserted k v [] n a = (tt, tt)
once_inserted k v (e ∷ es) n a = once_inserted_by (nat_cmp k e.0) k v e es n a (once_inserted k v es n.1 a.1)

-- No room's number stands twice.
pub rooms_once : (h : History) → Reached h → RoomsOnce (rooms h)
rooms_once (start t) ok = rooms_once_at_start t ok
rooms_once (h ▷ Install room kind code) ok =
    once_inserted room kind (rooms h) (rooms_once h ok.0)
    (apart_from room (rooms h) (may_follow h (Install room kind code) ok).1)
rooms_once (h ▷ _) ok = rooms_once h ok.0

-- A look-up of a room finds its row, where there is such a room.
pub room_found : (h : History) (r : ℕ)
    → at_number (rows_of h).rooms r ≡ option_map (λ kind. room_row h r kind) (at_number (rooms h) r)
room_found h r = at_mapped (room_row h) (rooms h) r

-- the row of a room that is there
pub room_there : (h : History) (r : ℕ) → is_room h r ≡ true
    → (kind : List ℕ) × (at_number (rooms h) r ≡ Some kind) × (at_number (rows_of h).rooms r ≡ Some (room_row h r kind))
room_there h r e =
    let p = row_of_key (rooms h) r e in (p.0, p.1, room_found h r ∙ ap (option_map (λ kind. room_row h r kind)) p.1)

-- no row of a room that isn't there
pub room_not_there : (h : History) (r : ℕ) → is_room h r ≡ false → at_number (rows_of h).rooms r ≡ None
room_not_there h r e = room_found h r ∙ ap (option_map (λ kind. room_row h r kind)) (no_key (rooms h) r e)
