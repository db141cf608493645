-- The rows after a room was added, and the row of a room to which a party came.
use Rattle.std.proofs.Common.{ℕ, ◌≡◌, ◌+◌, Bool, true, false, Option, Some, List, [], ◌∷◌, refl, ap, ◌∙◌, length}
use Rattle.std.proofs.Common.{◌==◌, nat_cmp, Ordering, Less, Equal, Greater}
use Rattle.hotel_model.proofs.Names.{match_ordering, insert_entry, exact_unsigned, RoomRow, when, and_last, said_of}
use Rattle.hotel_model.proofs.Names.{Install, History, ◌▷◌, issued, all_issued, secured, present_fit, fits, fit_row}
use Rattle.hotel_model.proofs.Names.{pair_cmp, rooms, room_row, rows_of, is_room, Reached, codes_of, new_row}
use Rattle.hotel_model.proofs.{Facts.Follow.FollowsBy, Facts.Follow.ApartFrom, OfTables.Numbered.true_is_not_false}
use Rattle.hotel_model.proofs.RowsAfter.RowsRooms.{eq_flip, rows_by, others}
use Rattle.hotel_model.proofs.OfTables.RoomNumbers.{apart_from, room_there}
use Rattle.hotel_model.proofs.{Invariants.NoRooms.nothing_issued, Invariants.NoRooms.nothing_passed}
use Rattle.hotel_model.proofs.{Invariants.NoRooms.nothing_noted, Invariants.NotesOfFits.nothing_before}
use Rattle.hotel_model.proofs.{Invariants.HomeRooms.nobody_registered}
use Rattle.hotel_model.proofs.OfTables.Tests.{eq_self}

new_room_by : (o : Ordering) (f g : ℕ → List ℕ → RoomRow) (room : ℕ) (kind : List ℕ)
    (e : ℕ × List ℕ) (es : List (ℕ × List ℕ))
    → nat_cmp room e.0 ≡ o → (e.0 == room) ≡ false → f e.0 e.1 ≡ g e.0 e.1 → rows_by f es ≡ rows_by g es
    → rows_by f (insert_entry nat_cmp es room kind) ≡ insert_entry nat_cmp (rows_by g es) room (f room kind)
    → rows_by f (match_ordering o ((room, kind) ∷ e ∷ es) ((e.0, kind) ∷ es) (e ∷ insert_entry nat_cmp es room kind))
    ≡ match_ordering o ((room, f room kind) ∷ (e.0, g e.0 e.1) ∷ rows_by g es) ((e.0, f room kind) ∷ rows_by g es)
    ((e.0, g e.0 e.1) ∷ insert_entry nat_cmp (rows_by g es) room (f room kind))
new_room_by Less f g room kind e es c n here rest ih =
    ap (λ row. (room, f room kind) ∷ (e.0, row) ∷ rows_by f es) here
    ∙ ap (λ zs. (room, f room kind) ∷ (e.0, g e.0 e.1) ∷ zs) rest
new_room_by Equal f g room kind e es c n here rest ih =
    absurd (true_is_not_false (ap (λ z. e.0 == z) (exact_unsigned room e.0 c) ∙ eq_self e.0) n)
new_room_by Greater f g room kind e es c n here rest ih =
    ap (λ row. (e.0, row) ∷ rows_by f (insert_entry nat_cmp es room kind)) here ∙ ap (λ zs. (e.0, g e.0 e.1) ∷ zs) ih

-- All other rooms' rows stay and this one's is new.
pub new_room : (f g : ℕ → List ℕ → RoomRow) (room : ℕ) (kind : List ℕ)
    → ((r : ℕ) (k : List ℕ) → (room == r) ≡ false → f r k ≡ g r k)
    → (rs : List (ℕ × List ℕ)) → ApartFrom room rs
    → rows_by f (insert_entry nat_cmp rs room kind) ≡ insert_entry nat_cmp (rows_by g rs) room (f room kind)
new_room f g room kind a [] n = refl
new_room f g room kind a (e ∷ es) n =
    new_room_by (nat_cmp room e.0) f g room kind e es refl n.0 (a e.0 e.1 (eq_flip e.0 room n.0))
    (others f g room a es n.1) (new_room f g room kind a es n.1)

-- rows of a room that agree
row_is : (room : ℕ) (kind : List ℕ) (place place' codes codes' : ℕ) (s s' : Bool) (p p' : Option ℕ) (n n' f f' o o' : ℕ)
    → place ≡ place' → codes ≡ codes' → s ≡ s' → p ≡ p' → n ≡ n' → f ≡ f' → o ≡ o'
    → (let x : RoomRow = record {
      room = room;
      kind = kind;
      lock_place = place;
      codes = codes;
      secured = s;
      party = p;
      notes = n;
      fit = f;
      before = o;
    } in x)
    ≡ record {
      room = room;
      kind = kind;
      lock_place = place';
      codes = codes';
      secured = s';
      party = p';
      notes = n';
      fit = f';
      before = o';
    }
row_is room kind place place' codes codes' s s' p p' n n' f f' o o' a b c d e g k = cc

-- the row of a room that was just added
added_row : (h : History) (room code : ℕ) (kind : List ℕ) → Reached h → is_room h room ≡ false
    → room_row (h ▷ Install room kind code) room kind ≡ new_row room kind
added_row h room code kind ok none =
    row_is room kind _ _ _ _ _ _ _ _ _ _ _ _ _ _
    (ap (λ (xs : List ℕ). length xs) (nothing_passed h ok room none))
    (ap (λ b. length (when b (and_last code) (issued h room))) (eq_self room)
    ∙ ap (λ (xs : List ℕ). length (and_last code xs)) (nothing_issued h ok room none))
    (ap (λ b. when b (λ _. false) (secured h room)) (eq_self room))
    (nobody_registered h ok room none)
    (ap length (nothing_noted h ok room none))
    (ap (λ b. when b (λ _. 1) (present_fit h room)) (eq_self room))
    (nothing_before h ok room none)

-- a room is added
pub install_follows : (h : History) (room code : ℕ) (kind : List ℕ)
    → Reached h → is_room h room ≡ false → FollowsBy h (Install room kind code)
install_follows h room code kind ok none =
    let h' : History = h ▷ Install room kind code in
    ap (λ rs. record (rows_of h') { rooms = rs })
    (new_room (room_row h') (room_row h) room kind
    (λ r k t. ap (λ b. record (room_row h r k) {
      codes = length (when b (and_last code) (issued h r));
      secured = when b (λ _. false) (secured h r);
      fit = when b (λ _. 1) (present_fit h r);
    }) t)
    (rooms h) (apart_from room (rooms h) none)
    ∙ ap (λ row. insert_entry nat_cmp (rows_of h).rooms room row) (added_row h room code kind ok none))
    ∙ ap (λ (xs : List ℕ). record (rows_of h) {
      rooms = insert_entry nat_cmp (rows_of h).rooms room (new_row room kind);
      codes = insert_entry nat_cmp (all_issued h) code (record { room = room; place = length xs });
      fits = insert_entry pair_cmp (fits h) (room, 1) (fit_row room 1 0 0);
    }) (nothing_issued h ok room none)

-- how many codes the row of a room that is there says
pub codes_said : (h : History) (room : ℕ) → is_room h room ≡ true → codes_of (rows_of h) room ≡ length (issued h room)
codes_said h room e = ap (λ o. said_of o 0 (λ row. row.codes)) (room_there h room e).2

-- the row of a room to which a party came
abbrev pub came_to : ℕ → RoomRow → RoomRow
came_to party row = record row { codes = row.codes + 1; secured = false; party = Some party }
