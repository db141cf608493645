-- The newest link of a room, by its codes and its fits.
use Rattle.std.proofs.Common.{ℕ, ◌≡◌, ◌-◌, Bool, true, false, cond, Option, Some, None, List, [], ◌∷◌, ◌++◌, length}
use Rattle.std.proofs.Common.{refl, ap, sym, ◌∙◌, arith, append_assoc, ◌==◌}
use Rattle.hotel_model.proofs.Names.{list_any, Card, Link, CodeRow, FitRow, fit_row, fits, fits_at, begins_fit, notes}
use Rattle.hotel_model.proofs.Names.{when, and_last, last_link_of, at_number, all_issued, cards, Install, Issue}
use Rattle.hotel_model.proofs.Names.{Refitted, History, start, ◌▷◌, issued, newest_link, link_to, is_room, rows_of}
use Rattle.hotel_model.proofs.Names.{Reached}
use Rattle.hotel_model.proofs.{OfTables.Tests.eq_from, OfTables.Tests.eq_self, OfTables.RowTests.any_last}
use Rattle.hotel_model.proofs.{OfTables.CodeLists.length_more}
use Rattle.hotel_model.proofs.{Invariants.RoomCodes.others_have_none, Invariants.RoomCodes.rooms_have_codes}
use Rattle.hotel_model.proofs.{Invariants.RoomLinks.new_last_two, Invariants.CodePlaces.codes_have_places}
use Rattle.hotel_model.proofs.{OfTables.Grown.may_follow, Invariants.HomeRooms.comes_to_room}
use Rattle.hotel_model.proofs.{Invariants.FitsKept.fits_installed, Invariants.FitsKept.fits_refitted}
use Rattle.hotel_model.proofs.{Invariants.FitsOf.none_begins_at, Invariants.FitLinks.links_begin_none}

-- the link of the last two codes, where no fit begins with the last one
abbrev pub by_fits : List FitRow → List ℕ → Option Link
by_fits fs codes = cond (list_any (λ (f : FitRow). f.place == length codes - 1) fs) None (last_link_of codes)

none_either : (b : Bool) → cond {A = Option Link} b None None ≡ None
none_either true = refl
none_either false = refl

-- a room was added
installed_newest : (b : Bool) (codes : List ℕ) (code : ℕ) (fs fs' : List FitRow) (row : FitRow) (newest : Option Link)
    → fs' ≡ when b (and_last row) fs → (b ≡ true → codes ≡ []) → newest ≡ by_fits fs codes
    → newest ≡ by_fits fs' (when b (and_last code) codes)
installed_newest true codes code fs fs' row newest e none ih =
    ih ∙ ap (by_fits fs) (none refl) ∙ none_either (list_any (λ (f : FitRow). f.place == 0 - 1) fs)
    ∙ sym (ap (λ zs. by_fits fs' (zs ++ code ∷ [])) (none refl)
    ∙ none_either (list_any (λ (f : FitRow). f.place == length (code ∷ []) - 1) fs'))
installed_newest false codes code fs fs' row newest e none ih = ih ∙ ap (λ gs. by_fits gs codes) (sym e)

pub two_last : (prefix : List ℕ) (a b : ℕ)
    → last_link_of (prefix ++ a ∷ b ∷ []) ≡ Some (record { old_code = a; new_code = b })
two_last [] a b = refl
two_last (c ∷ []) a b = refl
two_last (c ∷ d ∷ []) a b = refl
two_last (c ∷ d ∷ f ∷ prefix) a b = two_last (d ∷ f ∷ prefix) a b

last_length : (codes : List ℕ) (code : ℕ) → length (codes ++ code ∷ []) - 1 ≡ length codes
last_length codes code = let l = length_more codes code in omega arith

-- a card of a new code was given
issued_newest : (b : Bool) (h : History) (room code r : ℕ) → (b ≡ true → room ≡ r)
    → ((prefix : List ℕ) × (issued h r ++ code ∷ [] ≡ prefix ++ (link_to h r code).old_code ∷ code ∷ []))
    → begins_fit (rows_of h) r (length (issued h r)) ≡ false
    → newest_link h r ≡ by_fits (fits_at (fits h) r) (issued h r)
    → when b (λ _. Some (link_to h room code)) (newest_link h r)
    ≡ by_fits (fits_at (fits h) r) (when b (and_last code) (issued h r))
issued_newest true h room code r here two none ih =
    ap (λ z. Some (link_to h z code)) (here refl)
    ∙ sym (ap (λ n. cond (list_any (λ (f : FitRow). f.place == n) (fits_at (fits h) r)) None
    (last_link_of (issued h r ++ code ∷ []))) (last_length (issued h r) code)
    ∙ ap (λ z. cond z None (last_link_of (issued h r ++ code ∷ []))) none
    ∙ ap last_link_of two.1 ∙ two_last two.0 (link_to h r code).old_code code)
issued_newest false h room code r here two none ih = ih

-- a lock was replaced
refitted_newest : (b : Bool) (codes : List ℕ) (code : ℕ) (fs fs' : List FitRow) (row : FitRow) (newest : Option Link)
    → fs' ≡ when b (and_last row) fs → (b ≡ true → row.place ≡ length codes) → newest ≡ by_fits fs codes
    → when b (λ _. None) newest ≡ by_fits fs' (when b (and_last code) codes)
refitted_newest true codes code fs fs' row newest e place ih =
    let n : row.place ≡ length (codes ++ code ∷ []) - 1 = place refl ∙ sym (last_length codes code) in
    let begins : list_any (λ (f : FitRow). f.place == length (codes ++ code ∷ []) - 1) fs' ≡ true =
    ap (λ gs. list_any (λ (f : FitRow). f.place == length (codes ++ code ∷ []) - 1) gs) e ∙ any_last (λ (f : FitRow).
    f.place == length (codes ++ code ∷ []) - 1) fs row (ap (λ z. row.place == z) (sym n) ∙ eq_self row.place) in
    ap (λ z. cond z None (last_link_of (codes ++ code ∷ []))) (sym begins)
refitted_newest false codes code fs fs' row newest e place ih = ih ∙ ap (λ gs. by_fits gs codes) (sym e)

issued_two : (h : History) → Reached h → (b : Bool) (room code r : ℕ)
    → (room == r) ≡ b → is_room h room ≡ true → newest_link h r ≡ by_fits (fits_at (fits h) r) (issued h r)
    → when b (λ _. Some (link_to h room code)) (newest_link h r)
    ≡ by_fits (fits_at (fits h) r) (when b (and_last code) (issued h r))
issued_two h ok true room code r e there ih =
    let same = eq_from room r e in
    issued_newest true h room code r (λ _. same)
    (new_last_two h r code (rooms_have_codes h ok r (ap (is_room h) (sym same) ∙ there)))
    (none_begins_at h ok r (length (issued h r)) (omega arith)) ih
issued_two h ok false room code r e there ih = ih

-- The newest link of a room is that of its last two codes, where no fit begins with the last one.
pub newest_by_rows : (h : History) → Reached h → (r : ℕ) → newest_link h r ≡ by_fits (fits_at (fits h) r) (issued h r)
newest_by_rows (start t) ok r = refl
newest_by_rows (h ▷ Install room kind code) ok r =
    installed_newest (room == r) (issued h r) code (fits_at (fits h) r) _ (fit_row room 1 0 0) (newest_link h r)
    (fits_installed h room code kind r ok)
    (λ t. (others_have_none h ok.0 r (ap (is_room h) (sym (eq_from room r t))
    ∙ (may_follow h (Install room kind code) ok).1)).0) (newest_by_rows h ok.0 r)
newest_by_rows (h ▷ Issue party room number code) ok r =
    issued_two h ok.0 (room == r) room code r refl
    (comes_to_room h party room ok.0 (may_follow h (Issue party room number code) ok).0) (newest_by_rows h ok.0 r)
newest_by_rows (h ▷ Refitted room fit code) ok r =
    refitted_newest (room == r) (issued h r) code (fits_at (fits h) r) _ (fit_row room fit (length (issued h room))
    (length (notes h room))) (newest_link h r) (fits_refitted h room fit code r ok)
    (λ t. ap (λ z. length (issued h z)) (eq_from room r t)) (newest_by_rows h ok.0 r)
newest_by_rows (h ▷ _) ok r = newest_by_rows h ok.0 r

-- A card whose codes are the last two of a room has its newest link.
pub newest_of_card : (h : History) → Reached h → (r : ℕ) (prefix : List ℕ) (n : ℕ) (card : Card) (link : Link)
    → at_number (cards h) n ≡ Some card → card.link ≡ link
    → issued h r ≡ prefix ++ link.old_code ∷ link.new_code ∷ [] → newest_link h r ≡ Some link
newest_of_card h ok r prefix n card link e same two =
    let f : issued h r ≡ (prefix ++ link.old_code ∷ []) ++ link.new_code ∷ [] =
    two ∙ sym (append_assoc prefix (link.old_code ∷ []) (link.new_code ∷ [])) in
    let row : CodeRow = record { room = r; place = length (prefix ++ link.old_code ∷ []) } in
    let there : at_number (all_issued h) card.link.new_code ≡ Some row =
    ap (λ (l : Link). at_number (all_issued h) l.new_code) same
    ∙ codes_have_places h ok r (prefix ++ link.old_code ∷ []) link.new_code [] f in
    let none : begins_fit (rows_of h) r (length (prefix ++ link.old_code ∷ [])) ≡ false =
    links_begin_none h ok n card row e there in
    let m : length (issued h r) - 1 ≡ length (prefix ++ link.old_code ∷ []) =
    ap (λ (zs : List ℕ). length zs - 1) f ∙ last_length (prefix ++ link.old_code ∷ []) link.new_code in
    newest_by_rows h ok r
    ∙ ap (λ k. cond (list_any (λ (x : FitRow). x.place == k) (fits_at (fits h) r)) None (last_link_of (issued h r))) m
    ∙ ap (λ z. cond z None (last_link_of (issued h r))) none
    ∙ ap last_link_of two ∙ two_last prefix link.old_code link.new_code
