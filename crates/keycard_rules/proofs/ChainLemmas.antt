-- The three lists of a place in a list of codes.
use Rattle.std.proofs.Common.{◌≡◌, ℕ, zero, suc, ◌+◌, ◌-◌, ◌<◌, ◌≤◌, ◌==◌, Bool, true, false, not, nat_eq, nat_lt, List}
use Rattle.std.proofs.Common.{[], ◌∷◌, ◌++◌, length, take, drop, get_or, arith, refl, sym, ap, ◌∙◌, add-one, None, inl}
use Rattle.std.proofs.Common.{inr, length-append, append_assoc}
use Rattle.std.proofs.Math.Seq.{take-add, drop-cons, get_or-append_seam}
use Rattle.std.proofs.lemmas.List.{get_or-append-add, drop-drop, get_or-drop, take-append-drop}
use Rattle.std.proofs.lemmas.List.Sums.{prefix_len_stops, prefix_len-le-length}
use Rattle.std.proofs.lemmas.Cmp.{nat_eq_equiv}
use Rattle.std.proofs.lemmas.Map.Keys.{IsDistinct-push, apart_from_distinct}
use Rattle.std.proofs.lemmas.Bool.{cases_Bool, ne_eqb}
use Rattle.std.proofs.lemmas.Bool.Decides.{nat_tests}
use Rattle.std.proofs.lemmas.Grind.{common_steps}
use Rattle.std.specs.List.{IsDistinct, list_any, position_or_len}
use Rattle.keycard_rules.specs.{declared.card.Link.Link, Words.is_one_of, Lock.turn}
use Rattle.keycard_rules.specs.Chain.{Ledger, last_from, issued, current, IsLinkOf, recoded, place_in}

last_from-at : (x : ℕ) (xs : List ℕ) → last_from x xs ≡ get_or (x ∷ xs) (length xs) 0
last_from-at x [] = refl
last_from-at x (y ∷ ys) = last_from-at y ys

last-suc : (items : List ℕ) (p : ℕ)
    → p < length items → last_from (get_or items p 0) (drop (suc p) items) ≡ get_or items (length items - 1) 0
last-suc [] p h = absurd (omega arith)
last-suc (x ∷ xs) zero h = let e : suc (length xs) - 1 ≡ length xs = omega arith in rw e (last_from-at x xs)
last-suc (x ∷ []) (suc p) h = absurd (omega arith)
last-suc (x ∷ y ∷ ys) (suc p) h =
    let e : suc (suc (length ys)) - 1 ≡ suc (suc (length ys) - 1) = omega arith in
    rw e (last-suc (y ∷ ys) p (omega arith))

-- the newest code is the last of the list
pub last-at : (items : List ℕ) (p : ℕ)
    → p < length items → last_from (get_or items p 0) (drop (p + 1) items) ≡ get_or items (length items - 1) 0
last-at items p h = rw add-one (last-suc items p h)

-- the three lists of a list of codes and a place
abbrev pub ledger_of : List ℕ → ℕ → Ledger
ledger_of items p = record { passed = take p items; held = get_or items p 0; awaited = drop (p + 1) items }

pub issued-is : (items : List ℕ) (p : ℕ) → p < length items → issued (ledger_of items p) ≡ items
issued-is items p h = rw (add-one, ← drop-cons items p 0 h) (take-append-drop p items)

flipped : (code : ℕ) (items : List ℕ) → list_any (λ c. c == code) items ≡ list_any (nat_eq code) items
flipped code [] = refl
flipped code (x ∷ xs) = rw (nat_eq_equiv.symm x code, flipped code xs) refl

pub distinct-one : (code : ℕ) (items : List ℕ) → items ≡ code ∷ [] → (0 < length items) × IsDistinct nat_eq items
unfolding IsDistinct
distinct-one code items e = rw e (omega arith, (tt, tt))

pub distinct-push : (items new : List ℕ) (p code : ℕ)
    → p < length items → IsDistinct nat_eq items → is_one_of code (issued (ledger_of items p)) ≡ false
    → new ≡ items ++ (code ∷ []) → (p < length new) × IsDistinct nat_eq new
distinct-push items new p code h d f e =
    let g : is_one_of code items ≡ false = rw (issued-is items p h) at f in
    rw e (
      omega (arith, length-append items (code ∷ [])),
      IsDistinct-push nat_eq_equiv items code d (sym (flipped code items) ∙ g),
    )

same_place : (items : List ℕ) (i j : ℕ) → IsDistinct nat_eq items → i < length items → j < length items
    → get_or items i 0 ≡ get_or items j 0 → i ≡ j
same_place items i j d hi hj e = elim (cases_Bool (nat_lt i j)) [
  | inl lt ↦
      let a = apart_from_distinct nat_eq items i j 0 d (grind (arith, nat_tests)) hj in
      absurd (grind (arith, nat_tests))
  | inr ge ↦ elim (cases_Bool (nat_lt j i)) [
    | inl lt ↦
        let a = apart_from_distinct nat_eq items j i 0 d (grind (arith, nat_tests)) hi in
        absurd (grind (arith, nat_tests))
    | inr le ↦ grind (arith, nat_tests)
  ]
]

-- all but the last of a list that begins with a code
prefix : ℕ → List ℕ → List ℕ
prefix x [] = []
prefix x (y ∷ ys) = x ∷ prefix y ys

prefix-last : (x code : ℕ) (xs : List ℕ) → x ∷ (xs ++ (code ∷ [])) ≡ prefix x xs ++ (last_from x xs ∷ code ∷ [])
unfolding prefix
prefix-last x code [] = refl
prefix-last x code (y ∷ ys) = ap (λ r. x ∷ r) (prefix-last y code ys)

-- the link of a new code
pub is_link-pushed : (items new : List ℕ) (p old code : ℕ)
    → p < length items → new ≡ items ++ (code ∷ []) → p < length new → old ≡ current (ledger_of items p)
    → IsLinkOf (issued (ledger_of new p)) (record { old_code = old; new_code = code })
is_link-pushed items new p old code h e k o =
    let held = get_or items p 0 in
    let awaited = drop (p + 1) items in
    let all : issued (ledger_of new p) ≡ issued (ledger_of items p) ++ (code ∷ []) =
    issued-is new p k ∙ e ∙ ap (λ r. r ++ (code ∷ [])) (sym (issued-is items p h)) in (
      take p items ++ prefix held awaited,
      [],
      rw o (all ∙ append_assoc (take p items) (held ∷ awaited) (code ∷ [])
          ∙ ap (λ r. take p items ++ r) (prefix-last held code awaited)
          ∙ sym (append_assoc (take p items) (prefix held awaited) (current (ledger_of items p) ∷ code ∷ []))),
    )

neighbours : (items : List ℕ) (link : Link) → IsLinkOf items link
    → (k : ℕ) × (suc k < length items) × (get_or items k 0 ≡ link.old_code) × (get_or items (suc k) 0 ≡ link.new_code)
neighbours items link h =
    let size = length-append h.0 (link.old_code ∷ link.new_code ∷ h.1) in
    let more : get_or (h.0 ++ (link.old_code ∷ link.new_code ∷ h.1)) (length h.0 + 1) 0 ≡ link.new_code =
    get_or-append-add h.0 (link.old_code ∷ link.new_code ∷ h.1) 1 0 in (
      length h.0,
      rw h.2 (omega arith),
      rw h.2 (get_or-append_seam h.0 link.old_code (link.new_code ∷ h.1) 0),
      rw (h.2, ← add-one) more,
    )

-- a link that the chain issued opens nothing only where the lock rule says so
pub shut : (items : List ℕ) (p : ℕ) (link : Link)
    → p < length items → IsDistinct nat_eq items → (get_or items p 0 ≡ link.new_code → ⊥)
    → (get_or items p 0 ≡ link.old_code → suc p < length items → get_or items (suc p) 0 ≡ link.new_code → ⊥)
    → IsLinkOf (issued (ledger_of items p)) link → None ≡ turn (get_or items p 0) link
shut items p link h d n m k =
    let k2 = neighbours items link (rw (issued-is items p h) at k) in
    let o : get_or items p 0 ≡ link.old_code → ⊥ = λ e.
    let same : p ≡ k2.0 = same_place items p k2.0 d h (omega arith) (e ∙ sym k2.2) in
    m e (rw same (k2.1)) (rw same (k2.3)) in
    rw (ne_eqb (get_or items p 0) link.new_code n, ne_eqb (get_or items p 0) link.old_code o) refl

among-no : (p : ℕ → Bool) (xs : List ℕ) → length xs ≤ position_or_len p xs → list_any p xs ≡ false
among-no p [] h = refl
among-no p (x ∷ xs) h = elim (cases_Bool (p x)) [
  | inl y ↦ let e : position_or_len p (x ∷ xs) ≡ 0 = rw y refl in absurd (omega arith)
  | inr n ↦
      let e : position_or_len p (x ∷ xs) ≡ 1 + position_or_len p xs = rw n refl in rw n (among-no p xs (omega arith))
]

among-yes : (p : ℕ → Bool) (xs : List ℕ) → position_or_len p xs < length xs → list_any p xs ≡ true
among-yes p [] h = absurd (omega arith)
among-yes p (x ∷ xs) h = elim (cases_Bool (p x)) [
  | inl y ↦ rw y refl
  | inr n ↦
      let e : position_or_len p (x ∷ xs) ≡ 1 + position_or_len p xs = rw n refl in rw n (among-yes p xs (omega arith))
]

pub is_one_of-no : (xs : List ℕ) (to : ℕ) → length xs ≤ place_in xs to → is_one_of to xs ≡ false
unfolding place_in
is_one_of-no xs to h = among-no (λ c. c == to) xs h

pub is_one_of-yes : (xs : List ℕ) (to : ℕ) → place_in xs to < length xs → is_one_of to xs ≡ true
unfolding place_in
is_one_of-yes xs to h = among-yes (λ c. c == to) xs h

pub place_in-le : (xs : List ℕ) (to : ℕ) → place_in xs to ≤ length xs
unfolding place_in
place_in-le xs to = prefix_len-le-length (λ x. not (x == to)) xs

stopped : (xs : List ℕ) (to a : ℕ) → a ≡ position_or_len (λ c. c == to) xs → a < length xs → get_or xs a 0 ≡ to
stopped xs to a e lt =
    let k = prefix_len_stops (λ x. not (x == to)) xs 0 (rw e at lt) in
    let k2 : not (get_or xs a 0 == to) ≡ false = rw e k in
    grind (arith, nat_tests)

-- the place moves over the code held and those before the one it goes to
pub recoded-is : (items : List ℕ) (p to a : ℕ)
    → p < length items → a ≡ place_in (drop (p + 1) items) to → a < length (drop (p + 1) items)
    → ledger_of items (p + 1 + a) ≡ recoded (ledger_of items p) to
unfolding place_in
recoded-is items p to a h e lt =
    let stop : get_or (drop (p + 1) items) a 0 ≡ to = stopped (drop (p + 1) items) to a e lt in
    let prefix : take (p + 1 + a) items ≡ take p items ++ (get_or items p 0 ∷ take a (drop (p + 1) items)) =
    let q : p + 1 + a ≡ p + suc a = omega arith in
    rw (q, take-add p (suc a) items, drop-cons items p 0 h, add-one) refl in
    let held : get_or items (p + 1 + a) 0 ≡ to = sym (get_or-drop (p + 1) items a 0) ∙ stop in
    let back : drop (p + 1 + a + 1) items ≡ drop (a + 1) (drop (p + 1) items) =
    grind (arith, common_steps, drop-drop) in
    rw (← e, prefix, held, back) refl
