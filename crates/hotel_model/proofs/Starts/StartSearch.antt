-- What a search for a place among the codes of sound rows finds.
use Rattle.std.proofs.Common.{ℕ, ◌≡◌, ◌≤◌, Bool, true, false, cond, Option, Some, None, List, [], ◌∷◌, ◌++◌, length}
use Rattle.std.proofs.Common.{refl, ap, sym, ◌∙◌, arith, length-append, ◌==◌, ◌&&◌, nat_cmp}
use Rattle.hotel_model.proofs.Names.{is_at, keys_of, CodeRow, Rows, at_number, codes_at, first_code_at, start, IsSound}
use Rattle.hotel_model.proofs.{Facts.CodeFacts.CodesAreFound, OfTables.KeysInOrder.InOrder}
use Rattle.hotel_model.proofs.{OfTables.CodeLists.cut_alike}
use Rattle.hotel_model.proofs.{OfTables.Tests.eq_from, OfTables.Tests.eq_self, OfTables.Tests.and_true}
use Rattle.hotel_model.proofs.{OfTables.TableKeys.is_at_self, Starts.StartOrder.found_later}
use Rattle.hotel_model.proofs.{Starts.StartCodes.orders, Starts.StartCodes.row_is_place, Starts.StartCodes.place_is_row}
use Rattle.hotel_model.proofs.{Starts.StartPlaces.none_or}

here_by : (b : Bool) (e : ℕ × CodeRow) (es : List (ℕ × CodeRow)) (room place code : ℕ)
    → (b ≡ true → (e.1.room ≡ room) × (e.1.place ≡ place))
    → (first_code_at es room place ≡ Some code → at_number (e ∷ es) code ≡ Some (record { room = room; place = place }))
    → cond b (Some e.0) (first_code_at es room place) ≡ Some code
    → at_number (e ∷ es) code ≡ Some (record { room = room; place = place })
here_by true e es room place code here ih f =
    let q : e.0 ≡ code = cc in
    let first : at_number (e ∷ es) e.0 ≡ Some e.1 = ap (λ t. cond t (Some e.1) (at_number es e.0)) (is_at_self e.0) in
    let h = here refl in
    let w : e.1 ≡ record { room = room; place = place } =
    ap (λ z. let x : CodeRow = record { room = z; place = e.1.place } in x) h.0 ∙ ap
    (λ z. let x : CodeRow = record { room = room; place = z } in x) h.1 in
    ap (at_number (e ∷ es)) (sym q) ∙ first ∙ ap (λ z. Some z) w
here_by false e es room place code here ih f = ih f

-- a code that a search finds stands at the place
pub found_is_row : (es : List (ℕ × CodeRow)) (room place code : ℕ) → InOrder nat_cmp (keys_of es)
    → first_code_at es room place ≡ Some code → at_number es code ≡ Some (record { room = room; place = place })
found_is_row [] room place code s f = absurd (let w : ◌≡◌ {A = Option ℕ} None (Some code) = f in cc)
found_is_row (e ∷ es) room place code s f =
    here_by ((e.1.room == room) && (e.1.place == place)) e es room place code
    (λ t. let p = and_true (e.1.room == room) (e.1.place == place) t in
    (eq_from e.1.room room p.0, eq_from e.1.place place p.1))
    (λ g. found_later e es code (record { room = room; place = place }) s.0 (found_is_row es room place code s.1 g)) f

some_by : (b d : Bool) (e : ℕ × CodeRow) (es : List (ℕ × CodeRow)) (room place code : ℕ)
    → (b ≡ true → e.1 ≡ record { room = room; place = place } → d ≡ true)
    → (at_number es code ≡ Some (record { room = room; place = place })
    → (found : ℕ) × (first_code_at es room place ≡ Some found))
    → cond b (Some e.1) (at_number es code) ≡ Some (record { room = room; place = place })
    → (found : ℕ) × (cond d (Some e.0) (first_code_at es room place) ≡ Some found)
some_by b true e es room place code here ih f = (e.0, refl)
some_by true false e es room place code here ih f =
    let w : e.1 ≡ record { room = room; place = place } = cc in
    let q : ◌≡◌ {A = Bool} false true = here refl w in cc
some_by false false e es room place code here ih f = ih f

-- a search for the place of a code finds one
some_found : (es : List (ℕ × CodeRow)) (room place code : ℕ)
    → at_number es code ≡ Some (record { room = room; place = place })
    → (found : ℕ) × (first_code_at es room place ≡ Some found)
some_found [] room place code f =
    absurd (let w : ◌≡◌ {A = Option CodeRow} None (Some (record { room = room; place = place })) = f in cc)
some_found (e ∷ es) room place code f =
    some_by (is_at (nat_cmp code) e.0) ((e.1.room == room) && (e.1.place == place)) e es room place code
    (λ t w. ap (λ (x : CodeRow). (x.room == room) && (x.place == place)) w
    ∙ ap (λ z. z && (place == place)) (eq_self room) ∙ eq_self place)
    (some_found es room place code) f

-- past the codes of a room no place has a code
pub free_at_start : (t : Rows) → IsSound t → (r p : ℕ) → length (codes_at t r) ≤ p → first_code_at t.codes r p ≡ None
free_at_start t s r p l =
    none_or (first_code_at t.codes r p) (λ code f.
    let row = found_is_row t.codes r p code (orders t s).codes f in
    let w = row_is_place t s code (record { room = r; place = p }) row in
    let n : length (codes_at t r) ≡ length (w.0 ++ code ∷ w.1) = ap (λ (zs : List ℕ). length zs) w.2 in
    let m = length-append w.0 (code ∷ w.1) in
    let q = w.3 in
    omega arith)

-- The search for a code's place finds the code.
pub found_at_start : (t : Rows) → IsSound t → CodesAreFound (start t)
found_at_start t s r before code later e =
    let any = some_found t.codes r (length before) code (place_is_row t s r before code later e) in
    let row = found_is_row t.codes r (length before) any.0 (orders t s).codes any.1 in
    let w = row_is_place t s any.0 (record { room = r; place = length before }) row in
    let c = (cut_alike w.0 before (any.0 ∷ w.1) (code ∷ later) w.3 (sym w.2 ∙ e)).1 in
    let q : any.0 ≡ code = cc in
    any.1 ∙ ap (λ z. Some z) q
