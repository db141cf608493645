-- The held code, the current one and an awaited one, by their places.
use Rattle.std.proofs.Common.{ℕ, ◌≡◌, ◌+◌, ◌-◌, ◌<◌, Bool, true, false, Option, Some, None, List, [], ◌∷◌, ◌++◌, length}
use Rattle.std.proofs.Common.{refl, ap, sym, ◌∙◌, arith, append_assoc, length-append, ◌==◌, ◌&&◌, ◌||◌, nat_lt}
use Rattle.hotel_model.proofs.Names.{nat_tests, Link, CodeRow, when, is_one_of, before, after, said_of, last_of}
use Rattle.hotel_model.proofs.Names.{at_number, rows_of, code_at, Moment, Entered, Recoded, History, ◌▷◌, issued}
use Rattle.hotel_model.proofs.Names.{all_issued, current, newest_link, held, passed, awaited, is_room, Reached}
use Rattle.hotel_model.proofs.{Facts.Follow.MayFollow, OfTables.Tests.eq_from, OfTables.Tests.eq_self}
use Rattle.hotel_model.proofs.{OfTables.Tests.and_true, OfTables.Tests.not_both, OfTables.Tests.same_bool}
use Rattle.hotel_model.proofs.{OfTables.CodeLists.length_more, OfTables.CodeLists.last_more, OfTables.CodeLists.parted}
use Rattle.hotel_model.proofs.{Invariants.RoomCodes.rooms_have_codes}
use Rattle.hotel_model.proofs.Invariants.CodePlaces.{codes_have_places, places_have_codes, same_place}
use Rattle.hotel_model.proofs.{OfTables.CodeSearch.codes_are_found, Invariants.RoomLinks.ends_with_current}
use Rattle.hotel_model.proofs.{Invariants.RoomLinks.newest_are_last}
use Rattle.hotel_model.proofs.Invariants.LedgerOrder.{ledger_holds, entered_case, link_seen}

-- the code that a room's lock holds
pub held_found : (h : History) → Reached h → (r : ℕ)
    → is_room h r ≡ true → code_at (rows_of h) r (length (passed h r)) ≡ Some (held h r)
held_found h ok r there = codes_are_found h ok r (passed h r) (held h r) (awaited h r) (sym (ledger_holds h ok r there))

-- a room's current code
pub current_found : (h : History) → Reached h → (r : ℕ)
    → is_room h r ≡ true → code_at (rows_of h) r (length (issued h r) - 1) ≡ Some (current h r)
current_found h ok r there =
    let l = ends_with_current h r (rooms_have_codes h ok r there) in
    let n : length (issued h r) ≡ length l.0 + 1 =
    ap (λ (zs : List ℕ). length zs) l.1 ∙ length_more l.0 (current h r) in
    let p : length l.0 ≡ length (issued h r) - 1 = omega arith in
    ap (code_at (rows_of h) r) (sym p) ∙ codes_are_found h ok r l.0 (current h r) [] l.1

-- the codes of a room's newest link
pub newest_found : (h : History) → Reached h → (r : ℕ) (link : Link) → newest_link h r ≡ Some link
    → (code_at (rows_of h) r (length (issued h r) - 2) ≡ Some link.old_code)
    × (code_at (rows_of h) r (length (issued h r) - 1) ≡ Some link.new_code)
newest_found h ok r link e =
    let l = newest_are_last h ok r link e in
    let m : issued h r ≡ (l.0 ++ link.old_code ∷ []) ++ link.new_code ∷ [] =
    l.1 ∙ sym (append_assoc l.0 (link.old_code ∷ []) (link.new_code ∷ [])) in
    let k = length_more l.0 link.old_code in
    let n : length (issued h r) ≡ length (l.0 ++ link.old_code ∷ []) + 1 =
    ap (λ (zs : List ℕ). length zs) m ∙ length_more (l.0 ++ link.old_code ∷ []) link.new_code in
    let p : length l.0 ≡ length (issued h r) - 2 = omega arith in
    let q : length (l.0 ++ link.old_code ∷ []) ≡ length (issued h r) - 1 = omega arith in (
      ap (code_at (rows_of h) r) (sym p) ∙ codes_are_found h ok r l.0 link.old_code (link.new_code ∷ []) l.1,
      ap (code_at (rows_of h) r) (sym q) ∙ codes_are_found h ok r (l.0 ++ link.old_code ∷ []) link.new_code [] m,
    )

-- a code of a room is its current one exactly where it stands at the last place
pub current_by_place : (h : History) → Reached h → (r : ℕ) (prefix : List ℕ) (code : ℕ) (later : List ℕ)
    → is_room h r ≡ true → issued h r ≡ prefix ++ code ∷ later
    → (code == current h r) ≡ (length prefix + 1 == length (issued h r))
current_by_place h ok r prefix code later there e = same_bool _ _ (λ t. is_last (eq_from code (current h r) t))
    (λ t. is_current later e (eq_from (length prefix + 1) (length (issued h r)) t))
  where
    is_last : code ≡ current h r → (length prefix + 1 == length (issued h r)) ≡ true
    is_last same =
        let l = ends_with_current h r (rooms_have_codes h ok r there) in
        let p = same_place h ok r r code prefix later l.0 [] e (l.1 ∙ ap (λ z. l.0 ++ z ∷ []) (sym same)) in
        let n : length (issued h r) ≡ length prefix + 1 =
        ap (λ (zs : List ℕ). length zs) (e ∙ ap (λ zs. prefix ++ code ∷ zs) p.2) ∙ length_more prefix code in
        ap (λ z. length prefix + 1 == z) n ∙ eq_self (length prefix + 1)

    is_current : (rest : List ℕ) → issued h r ≡ prefix ++ code ∷ rest → length prefix + 1 ≡ length (issued h r)
        → (code == current h r) ≡ true
    is_current [] f n = ap (λ z. code == z) (ap last_of f ∙ last_more prefix code) ∙ eq_self code
    is_current (x ∷ rest) f n =
        absurd (let m = ap (λ (zs : List ℕ). length zs) f in omega (arith, length-append prefix (code ∷ x ∷ rest)))

-- The codes of a room after an entry that may follow: those then passed, the link's new one, those then awaited.
pub entered_in_order : (h : History) → Reached h → (room fit count number : ℕ) (link : Link) (at : Moment)
    → MayFollow h (Entered room fit count number link at)
    → issued h room ≡ passed (h ▷ Entered room fit count number link at) room ++ link.new_code ∷ awaited (h
    ▷ Entered room fit count number link at) room
entered_in_order h ok room fit count number link at needs =
    let e = entered_case (room == room) h room room link (λ t. refl) ok (ledger_holds h ok room needs.1)
    (link_seen h number link ok needs.2 needs.3) needs.4 in
    let h' : History = h ▷ Entered room fit count number link at in
    sym e ∙ ap (λ b. passed h' room ++ when b (λ _. link.new_code) (held h room) ∷ awaited h' room) (eq_self room)

-- Where the new code of an entry stands: after all codes that are then passed.
pub entered_place : (h : History) → Reached h → (room fit count number : ℕ) (link : Link) (at : Moment)
    → MayFollow h (Entered room fit count number link at)
    → at_number (all_issued h) link.new_code
    ≡ Some (record { room = room; place = length (passed (h ▷ Entered room fit count number link at) room) })
entered_place h ok room fit count number link at needs =
    let h' : History = h ▷ Entered room fit count number link at in
    codes_have_places h ok room (passed h' room) link.new_code (awaited h' room)
    (entered_in_order h ok room fit count number link at needs)

-- It is the current code exactly where it stands at the last place.
pub entered_current : (h : History) → Reached h → (room fit count number : ℕ) (link : Link) (at : Moment)
    → MayFollow h (Entered room fit count number link at)
    → (link.new_code == current h room)
    ≡ (length (passed (h ▷ Entered room fit count number link at) room) + 1 == length (issued h room))
entered_current h ok room fit count number link at needs =
    let h' : History = h ▷ Entered room fit count number link at in
    current_by_place h ok room (passed h' room) link.new_code (awaited h' room) needs.1
    (entered_in_order h ok room fit count number link at needs)

is_one_in : (prefix : List ℕ) (c : ℕ) (back : List ℕ) → is_one_of c (prefix ++ c ∷ back) ≡ true
is_one_in [] c back = first (c == c) (eq_self c)
  where
    first : (b : Bool) → b ≡ true → (b || is_one_of c back) ≡ true
    first true t = refl
    first false t = not_both false t refl
is_one_in (x ∷ xs) c back = second (x == c) (is_one_in xs c back)
  where
    second : (b : Bool) → is_one_of c (xs ++ c ∷ back) ≡ true → (b || is_one_of c (xs ++ c ∷ back)) ≡ true
    second true t = refl
    second false t = t

-- a code that stands past the place of another is one of those after it
one_after : (ps : List ℕ) (held_code : ℕ) (ws prefix : List ℕ) (c : ℕ) (back : List ℕ)
    → ps ++ held_code ∷ ws ≡ prefix ++ c ∷ back → length ps < length prefix → is_one_of c ws ≡ true
one_after ps x ws [] c back e lt = absurd (omega arith)
one_after [] x ws (f ∷ fs) c back e lt =
    let same : ws ≡ fs ++ c ∷ back = cc in ap (is_one_of c) same ∙ is_one_in fs c back
one_after (p ∷ ps) x ws (f ∷ fs) c back e lt = one_after ps x ws fs c back (cc) (omega arith)

-- the codes of a room from the place of an awaited one
awaited_splits : (h : History) → Reached h → (room to : ℕ)
    → is_room h room ≡ true → is_one_of to (awaited h room) ≡ true
    → issued h room ≡ (passed h room ++ held h room ∷ before to (awaited h room)) ++ to ∷ after to (awaited h room)
awaited_splits h ok room to there one =
    sym (ledger_holds h ok room there)
    ∙ ap (λ zs. passed h room ++ held h room ∷ zs) (sym (parted to (awaited h room) one))
    ∙ sym (append_assoc (passed h room) (held h room ∷ before to (awaited h room)) (to ∷ after to (awaited h room)))

-- Where an awaited code stands.
pub awaited_place : (h : History) → Reached h → (room to : ℕ)
    → is_room h room ≡ true → is_one_of to (awaited h room) ≡ true
    → at_number (all_issued h) to
    ≡ Some (record { room = room; place = length (passed h room ++ held h room ∷ before to (awaited h room)) })
awaited_place h ok room to there one =
    codes_have_places h ok room (passed h room ++ held h room ∷ before to (awaited h room)) to
    (after to (awaited h room)) (awaited_splits h ok room to there one)

-- Where the new code of a recoding stands: after all codes that are then passed.
pub recoded_place : (h : History) → Reached h → (room fit count from to : ℕ) (at : Moment)
    → MayFollow h (Recoded room fit count from to at)
    → at_number (all_issued h) to
    ≡ Some (record { room = room; place = length (passed (h ▷ Recoded room fit count from to at) room) })
recoded_place h ok room fit count from to at needs =
    awaited_place h ok room to needs.1 needs.3
    ∙ ap (λ z. Some (let x : CodeRow = record {
      room = room;
      place = length (passed h room ++ z ∷ before to (awaited h room));
    } in x)) (eq_from (held h room) from needs.2)
    ∙ ap (λ b. Some (let x : CodeRow = record {
      room = room;
      place = length (when b (λ codes. codes ++ from ∷ before to (awaited h room)) (passed h room));
    } in x)) (sym (eq_self room))

-- whether a row is of the room, past a place
abbrev pub is_past : ℕ → ℕ → CodeRow → Bool
is_past room place row = (row.room == room) && nat_lt place row.place

past_by : (h : History) → Reached h → (room to : ℕ) (o : Option CodeRow)
    → at_number (all_issued h) to ≡ o → is_room h room ≡ true
    → said_of o false (is_past room (length (passed h room))) ≡ true → is_one_of to (awaited h room) ≡ true
past_by h ok room to None e there t = not_both false t refl
past_by h ok room to (Some row) e there t =
    let p = and_true (row.room == room) (nat_lt (length (passed h room)) row.place) t in
    let s = places_have_codes h ok to row e in
    let lt : length (passed h room) < row.place = grind (arith, nat_tests, p.1) in
    one_after (passed h room) (held h room) (awaited h room) s.0 to s.1
    (ledger_holds h ok room there ∙ ap (issued h) (sym (eq_from row.room room p.0)) ∙ s.2) (omega arith)

-- A code is awaited at a room exactly where it stands there past the held one.
pub awaited_by_place : (h : History) → Reached h → (room to : ℕ) → is_room h room ≡ true
    → is_one_of to (awaited h room)
    ≡ said_of (at_number (all_issued h) to) false (is_past room (length (passed h room)))
awaited_by_place h ok room to there = same_bool _ _
    (λ t. ap (λ o. said_of o false (is_past room (length (passed h room)))) (awaited_place h ok room to there t)
    ∙ stands) (past_by h ok room to _ refl there)
  where
    more : length (passed h room) < length (passed h room ++ held h room ∷ before to (awaited h room))
    more = omega (arith, length-append (passed h room) (held h room ∷ before to (awaited h room)))

    less : (a b : ℕ) → a < b → nat_lt a b ≡ true
    less a b lt = grind (arith, nat_tests)

    stands : is_past room (length (passed h room))
        (record { room = room; place = length (passed h room ++ held h room ∷ before to (awaited h room)) }) ≡ true
    stands = ap (λ b. b && nat_lt (length (passed h room))
        (length (passed h room ++ held h room ∷ before to (awaited h room)))) (eq_self room) ∙ less _ _ more
