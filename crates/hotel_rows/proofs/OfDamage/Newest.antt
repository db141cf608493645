-- The newest link of a room, by the places of its codes.
use Rattle.std.proofs.Common.{◌≡◌, ℕ, suc, ◌+◌, ◌<◌, ◌≤◌, Bool, true, false, cond, ◌==◌, ◌&&◌, List, [], ◌∷◌, length}
use Rattle.std.proofs.Common.{Some, None, refl, sym, ap, ◌∙◌, arith}
use Rattle.std.specs.Map.{keys_of, values_of}
use Rattle.keycard_rules.specs.declared.card.Link.{Link}
use Rattle.hotel_model.specs.Words.{said_of, is_that}
use Rattle.hotel_model.specs.Rows.{at_number, last_link_of}
use Rattle.hotel_model.specs.Cards.{same_link}
use Rattle.hotel_model.specs.SoundRooms.{count_up}
use Rattle.hotel_books.proofs.OfTables.MapEntries.{at_is, eq_from}
use Rattle.hotel_rows.specs.LastCards.{link_of_both}
use Rattle.hotel_model.proofs.OfTables.Numbered.{apart_by}
use Rattle.hotel_model.proofs.SoundRows.SoundRoomRows.{eq_tested}

both_parts : (a b : Bool) → (a && b) ≡ true → (a ≡ true) × (b ≡ true)
both_parts true b h = (refl, h)
both_parts false b h = absurd (let w : ◌≡◌ {A = Bool} false true = h in cc)

at_first : (e : ℕ × ℕ) (es : List (ℕ × ℕ)) (q : ℕ) → e.0 ≡ q → at_number (e ∷ es) q ≡ Some e.1
at_first e es q is = ap (λ b. cond b (Some e.1) (at_number es q)) (at_is q e.0 ∙ eq_tested e.0 q is)

at_next : (e : ℕ × ℕ) (es : List (ℕ × ℕ)) (q : ℕ) → (e.0 ≡ q → ⊥) → at_number (e ∷ es) q ≡ at_number es q
at_next e es q differ = ap (λ b. cond b (Some e.1) (at_number es q)) (at_is q e.0 ∙ apart_by e.0 q differ)

-- the link of the last two of codes whose places count up
pub newest_at : (k : ℕ) (es : List (ℕ × ℕ)) (link : Link) (i j : ℕ)
    → count_up k (keys_of es) ≡ true → 2 ≤ length es → i + 2 ≡ k + length es → j + 1 ≡ k + length es
    → said_of (last_link_of (values_of es)) false (λ newest. same_link newest link)
    ≡ (is_that (at_number es i) link.old_code && is_that (at_number es j) link.new_code)
newest_at k [] link i j h two ei ej = absurd (omega (arith, two))
newest_at k (e ∷ []) link i j h two ei ej = absurd (omega (arith, two))
newest_at k (e ∷ g ∷ []) link i j h two ei ej =
    let p = both_parts (e.0 == k) (count_up (k + 1) (g.0 ∷ [])) h in
    let q = both_parts (g.0 == k + 1) true p.1 in
    let ek : e.0 ≡ k = eq_from e.0 k p.0 in
    let gk : g.0 ≡ k + 1 = eq_from g.0 (k + 1) q.0 in
    let at_i : at_number (e ∷ g ∷ []) i ≡ Some e.1 = at_first e (g ∷ []) i (omega (arith, ek, ei)) in
    let at_j : at_number (e ∷ g ∷ []) j ≡ Some g.1 =
    at_next e (g ∷ []) j (λ same. omega (arith, ek, ej, same)) ∙ at_first g [] j (omega (arith, gk, ej)) in
    sym (ap (λ o. is_that o link.old_code && is_that (at_number (e ∷ g ∷ []) j) link.new_code) at_i
    ∙ ap (λ o. (e.1 == link.old_code) && is_that o link.new_code) at_j)
newest_at k (e ∷ g ∷ m ∷ es) link i j h two ei ej =
    let p = both_parts (e.0 == k) (count_up (k + 1) (g.0 ∷ m.0 ∷ keys_of es)) h in
    let ek : e.0 ≡ k = eq_from e.0 k p.0 in
    let ih = newest_at (k + 1) (g ∷ m ∷ es) link i j p.1 (omega arith) (omega (arith, ei)) (omega (arith, ej)) in
    let at_i = at_next e (g ∷ m ∷ es) i (λ same. omega (arith, ek, ei, same)) in
    let at_j = at_next e (g ∷ m ∷ es) j (λ same. omega (arith, ek, ej, same)) in
    ih ∙ sym (ap (λ o. is_that o link.old_code && is_that (at_number (e ∷ g ∷ m ∷ es) j) link.new_code) at_i
    ∙ ap (λ o. is_that (at_number (g ∷ m ∷ es) i) link.old_code && is_that o link.new_code) at_j)

-- fewer than two codes have no link
pub none_newest : (es : List (ℕ × ℕ)) (link : Link)
    → length es < 2 → said_of (last_link_of (values_of es)) false (λ newest. same_link newest link) ≡ false
none_newest [] link few = refl
none_newest (e ∷ []) link few = refl
none_newest (e ∷ g ∷ es) link few = absurd (omega (arith, few))

pub length_values : (es : List (ℕ × ℕ)) → length (values_of es) ≡ length es
length_values [] = refl
length_values (e ∷ es) = ap suc (length_values es)

-- what a room's row that is placed as due says
pub due_parts : (es : List (ℕ × ℕ)) (n listed : ℕ)
    → (count_up 0 (keys_of es) && (length (values_of es) == n) && (listed == n)) ≡ true
    → (count_up 0 (keys_of es) ≡ true) × (length es ≡ n)
due_parts es n listed h =
    let p = both_parts (count_up 0 (keys_of es) && (length (values_of es) == n)) (listed == n) h in
    let q = both_parts (count_up 0 (keys_of es)) (length (values_of es) == n) p.0 in
    (q.0, sym (length_values es) ∙ eq_from (length (values_of es)) n q.1)

-- the last two of codes whose places count up
pub last_two : (k : ℕ) (es : List (ℕ × ℕ)) (i j : ℕ)
    → count_up k (keys_of es) ≡ true → 2 ≤ length es → i + 2 ≡ k + length es → j + 1 ≡ k + length es
    → last_link_of (values_of es) ≡ link_of_both (at_number es i) (at_number es j)
last_two k [] i j h two ei ej = absurd (omega (arith, two))
last_two k (e ∷ []) i j h two ei ej = absurd (omega (arith, two))
last_two k (e ∷ g ∷ []) i j h two ei ej =
    let p = both_parts (e.0 == k) (count_up (k + 1) (g.0 ∷ [])) h in
    let q = both_parts (g.0 == k + 1) true p.1 in
    let ek : e.0 ≡ k = eq_from e.0 k p.0 in
    let gk : g.0 ≡ k + 1 = eq_from g.0 (k + 1) q.0 in
    let at_i : at_number (e ∷ g ∷ []) i ≡ Some e.1 = at_first e (g ∷ []) i (omega (arith, ek, ei)) in
    let at_j : at_number (e ∷ g ∷ []) j ≡ Some g.1 =
    at_next e (g ∷ []) j (λ same. omega (arith, ek, ej, same)) ∙ at_first g [] j (omega (arith, gk, ej)) in
    sym (ap (λ o. link_of_both o (at_number (e ∷ g ∷ []) j)) at_i ∙ ap (λ o. link_of_both (Some e.1) o) at_j)
last_two k (e ∷ g ∷ m ∷ es) i j h two ei ej =
    let p = both_parts (e.0 == k) (count_up (k + 1) (g.0 ∷ m.0 ∷ keys_of es)) h in
    let ek : e.0 ≡ k = eq_from e.0 k p.0 in
    let ih = last_two (k + 1) (g ∷ m ∷ es) i j p.1 (omega arith) (omega (arith, ei)) (omega (arith, ej)) in
    let at_i = at_next e (g ∷ m ∷ es) i (λ same. omega (arith, ek, ei, same)) in
    let at_j = at_next e (g ∷ m ∷ es) j (λ same. omega (arith, ek, ej, same)) in
    ih ∙ sym (ap (λ o. link_of_both o (at_number (e ∷ g ∷ m ∷ es) j)) at_i
    ∙ ap (λ o. link_of_both (at_number (g ∷ m ∷ es) i) o) at_j)

pub no_link : (es : List (ℕ × ℕ)) → length es < 2 → last_link_of (values_of es) ≡ None
no_link [] few = refl
no_link (e ∷ []) few = refl
no_link (e ∷ g ∷ es) few = absurd (omega (arith, few))
