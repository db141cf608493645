-- What a search for a place among the codes finds.
use Rattle.std.proofs.Common.{ℕ, ◌≡◌, ◌+◌, ◌≤◌, Bool, true, false, cond, Option, Some, None, List, [], ◌∷◌, ◌++◌}
use Rattle.std.proofs.Common.{length, inl, inr, refl, ap, sym, ◌∙◌, arith, ◌==◌, ◌&&◌, nat_cmp, is_eq, Ordering, Less}
use Rattle.std.proofs.Common.{Equal, Greater}
use Rattle.hotel_model.proofs.Names.{match_ordering, is_at, insert_entry, CodeRow, when, and_last, at_number}
use Rattle.hotel_model.proofs.Names.{first_code_at, Install, Issue, Refitted, History, start, ◌▷◌, issued, all_issued}
use Rattle.hotel_model.proofs.Names.{Reached}
use Rattle.hotel_model.proofs.{Facts.CodeFacts.CodesAreFound, OfTables.Tests.eq_from, OfTables.Tests.eq_self}
use Rattle.hotel_model.proofs.{OfTables.Tests.and_true, OfTables.Tests.not_both}
use Rattle.hotel_model.proofs.{OfTables.TableKeys.swap_tests, OfTables.CodeLists.snoc_split}
use Rattle.hotel_model.proofs.{OfTables.CodeLists.length_more}
use Rattle.hotel_model.proofs.{Invariants.CodePlaces.next_place, Invariants.CodePlaces.fresh_has_no_row}
use Rattle.hotel_model.proofs.{OfTables.Grown.may_follow}
use Rattle.hotel_model.proofs.Starts.StartSearch.{free_at_start, found_at_start}

abbrev pub is_here : CodeRow → ℕ → ℕ → Bool
is_here v r p = (v.room == r) && (v.place == p)

missed : {X : Type 0} (b : Bool) (x : X) (rest : Option X) → cond b (Some x) rest ≡ None → (b ≡ false) × (rest ≡ None)
missed true x rest e = absurd (let w : ◌≡◌ {A = Option _} (Some x) None = e in cc)
missed false x rest e = (refl, e)

added_by : (o : Ordering) (e : ℕ × CodeRow) (es : List (ℕ × CodeRow)) (k : ℕ) (v : CodeRow) (r p : ℕ)
    → is_eq o ≡ false → (is_here v r p ≡ true → first_code_at (e ∷ es) r p ≡ None)
    → first_code_at (insert_entry nat_cmp es k v) r p ≡ cond (is_here v r p) (Some k) (first_code_at es r p)
    → first_code_at (match_ordering o ((k, v) ∷ e ∷ es) ((e.0, v) ∷ es) (e ∷ insert_entry nat_cmp es k v)) r p
    ≡ cond (is_here v r p) (Some k) (first_code_at (e ∷ es) r p)
added_by Less e es k v r p n free ih = refl
added_by Equal e es k v r p n free ih = not_both true refl n
added_by Greater e es k v r p n free ih =
    ap (λ o. cond (is_here e.1 r p) (Some e.0) o) ih
    ∙ swap_tests (is_here e.1 r p) (is_here v r p) (Some e.0) (Some k) (first_code_at es r p)
    (λ s t. not_both (is_here e.1 r p) s (missed (is_here e.1 r p) e.0 (first_code_at es r p) (free t)).0)

-- where a new code stands at a free place
pub place_added : (es : List (ℕ × CodeRow)) (k : ℕ) (v : CodeRow) (r p : ℕ)
    → at_number es k ≡ None → (is_here v r p ≡ true → first_code_at es r p ≡ None)
    → first_code_at (insert_entry nat_cmp es k v) r p ≡ cond (is_here v r p) (Some k) (first_code_at es r p)
place_added [] k v r p n free = refl
place_added (e ∷ es) k v r p n free =
    let m = missed (is_at (nat_cmp k) e.0) e.1 (at_number es k) n in
    added_by (nat_cmp k e.0) e es k v r p m.0 free
    (place_added es k v r p m.1 (λ t. (missed (is_here e.1 r p) e.0 (first_code_at es r p) (free t)).1))

-- past the codes of a room no place has a code
abbrev pub AllFree : History → Type 0
AllFree h = (r p : ℕ) → length (issued h r) ≤ p → first_code_at (all_issued h) r p ≡ None

-- the place of a room's next code is free
free_there : (h : History) (room r p : ℕ) → AllFree h → is_here (next_place h room) r p ≡ true
    → first_code_at (all_issued h) r p ≡ None
free_there h room r p free t =
    let a = and_true (room == r) (length (issued h room) == p) t in
    let e : room ≡ r = eq_from room r a.0 in
    let f : length (issued h room) ≡ p = eq_from _ _ a.1 in
    let g : length (issued h r) ≡ p = ap (λ z. length (issued h z)) (sym e) ∙ f in
    free r p (omega arith)

added_free : (b c : Bool) (k : ℕ) (rest : Option ℕ)
    → (b && c) ≡ false → rest ≡ None → cond (b && c) (Some k) rest ≡ None
added_free b c k rest n e = ap (λ t. cond t (Some k) rest) n ∙ e

not_last : (b : Bool) (h : History) (room r p new : ℕ)
    → (b ≡ true → room ≡ r) → length (when b (and_last new) (issued h r)) ≤ p
    → ((b && (length (issued h room) == p)) ≡ false) × (length (issued h r) ≤ p)
not_last true h room r p new here l =
    let e : room ≡ r = here refl in
    let m : length (issued h r ++ new ∷ []) ≡ length (issued h r) + 1 = length_more (issued h r) new in
    let g : length (issued h room) ≡ length (issued h r) = ap (λ z. length (issued h z)) e in
    (differ (length (issued h room)) p (omega arith), omega arith)
  where
    differ : (x y : ℕ) → x + 1 ≤ y → (x == y) ≡ false
    differ x y lt = by (x == y) refl
      where
        by : (t : Bool) → (x == y) ≡ t → (x == y) ≡ false
        by true f = let g : x ≡ y = eq_from x y f in absurd (omega arith)
        by false f = f
not_last false h room r p new here l = (refl, l)

free_more : (h : History) (room new : ℕ) → at_number (all_issued h) new ≡ None → AllFree h → (r p : ℕ)
    → length (when (room == r) (and_last new) (issued h r)) ≤ p
    → first_code_at (insert_entry nat_cmp (all_issued h) new (next_place h room)) r p ≡ None
free_more h room new fresh free r p l =
    let n = not_last (room == r) h room r p new (eq_from room r) l in
    place_added (all_issued h) new (next_place h room) r p fresh (free_there h room r p free)
    ∙ added_free (room == r) (length (issued h room) == p) new (first_code_at (all_issued h) r p) n.0 (free r p n.1)

fresh_installed : (h : History) (room : ℕ) (kind : List ℕ) (new : ℕ)
    → Reached (h ▷ Install room kind new) → at_number (all_issued h) new ≡ None
fresh_installed h room kind new ok = fresh_has_no_row h new (may_follow h (Install room kind new) ok).2

fresh_given : (h : History) (party room number new : ℕ)
    → Reached (h ▷ Issue party room number new) → at_number (all_issued h) new ≡ None
fresh_given h party room number new ok = fresh_has_no_row h new (may_follow h (Issue party room number new) ok).6

fresh_refitted : (h : History) (room fit new : ℕ)
    → Reached (h ▷ Refitted room fit new) → at_number (all_issued h) new ≡ None
fresh_refitted h room fit new ok = fresh_has_no_row h new (may_follow h (Refitted room fit new) ok).3

pub all_free : (h : History) → Reached h → AllFree h
all_free (start t) ok r p l = free_at_start t ok r p l
all_free (h ▷ Install room kind new) ok r p l =
    free_more h room new (fresh_installed h room kind new ok) (all_free h ok.0) r p l
all_free (h ▷ Issue party room n new) ok r p l =
    free_more h room new (fresh_given h party room n new ok) (all_free h ok.0) r p l
all_free (h ▷ Refitted room fit new) ok r p l =
    free_more h room new (fresh_refitted h room fit new ok) (all_free h ok.0) r p l
all_free (h ▷ _) ok r p l = all_free h ok.0 r p l

stays_found : (t : Bool) (k c : ℕ) (was : Option ℕ)
    → (t ≡ true → was ≡ None) → was ≡ Some c → cond t (Some k) was ≡ Some c
stays_found true k c was n e = absurd (let w : ◌≡◌ {A = Option ℕ} (Some c) None = sym e ∙ n refl in cc)
stays_found false k c was n e = e

found_more : (b : Bool) (h : History) (room new r : ℕ)
    → (b ≡ true → room ≡ r) → at_number (all_issued h) new ≡ None → AllFree h → CodesAreFound h
    → (before : List ℕ) (code : ℕ) (later : List ℕ) → when b (and_last new) (issued h r) ≡ before ++ code ∷ later
    → first_code_at (insert_entry nat_cmp (all_issued h) new (next_place h room)) r (length before) ≡ Some code
found_more true h room new r here fresh free ih before code later e =
    place_added (all_issued h) new (next_place h room) r (length before) fresh
    (free_there h room r (length before) free)
    ∙ elim (snoc_split (issued h r) new before code later e) [
      | inl q ↦
          let same : room ≡ r = here refl in
          let at : length (issued h room) ≡ length before =
          ap (λ z. length (issued h z)) same ∙ ap (λ (zs : List ℕ). length zs) (sym q.0) in
          let yes' : is_here (next_place h room) r (length before) ≡ true =
          ap (λ z. (z == r) && (length (issued h room) == length before)) same
          ∙ ap (λ z. z && (length (issued h room) == length before)) (eq_self r)
          ∙ ap (λ z. z == length before) at ∙ eq_self (length before) in
          ap (λ t. cond t (Some new) (first_code_at (all_issued h) r (length before))) yes' ∙ ap (λ z. Some z) (sym q.1)
      | inr q ↦ stays_found (is_here (next_place h room) r (length before)) new code _
          (free_there h room r (length before) free) (ih r before code q.0 q.1)
    ]
found_more false h room new r here fresh free ih before code later e =
    place_added (all_issued h) new (next_place h room) r (length before) fresh
    (free_there h room r (length before) free)
    ∙ stays_found (is_here (next_place h room) r (length before)) new code _
    (free_there h room r (length before) free) (ih r before code later e)

-- The search for a code's place finds the code.
pub codes_are_found : (h : History) → Reached h → CodesAreFound h
codes_are_found (start t) ok r before code later e = found_at_start t ok r before code later e
codes_are_found (h ▷ Install room kind new) ok r before code later e =
    found_more (room == r) h room new r (eq_from room r) (fresh_installed h room kind new ok) (all_free h ok.0)
    (codes_are_found h ok.0) before code later e
codes_are_found (h ▷ Issue party room n new) ok r before code later e =
    found_more (room == r) h room new r (eq_from room r) (fresh_given h party room n new ok) (all_free h ok.0)
    (codes_are_found h ok.0) before code later e
codes_are_found (h ▷ Refitted room fit new) ok r before code later e =
    found_more (room == r) h room new r (eq_from room r) (fresh_refitted h room fit new ok) (all_free h ok.0)
    (codes_are_found h ok.0) before code later e
codes_are_found (h ▷ _) ok r before code later e = codes_are_found h ok.0 r before code later e
