-- Where keys stand.
use Rattle.std.proofs.Common.{◌≡◌, ℕ, suc, zero, ◌<◌, ◌≤◌, ◌+◌, ◌-◌, nat_le, inl, inr, Bool, true, false, cond}
use Rattle.std.proofs.Common.{◌==◌, ◌&&◌, ◌++◌, List, [], ◌∷◌, map, length, get_or, Option, Some, None, refl, sym}
use Rattle.std.proofs.Common.{ap, subst, ◌∙◌, arith}
use Rattle.std.specs.Prelude.{option_map, is_some}
use Rattle.std.specs.Ordering.{nat_cmp}
use Rattle.std.specs.BTreeMap.{insert_entry}
use Rattle.std.specs.List.{list_all}
use Rattle.std.proofs.lemmas.Bool.{cases_Bool}
use Rattle.std.proofs.lemmas.Bool.Decides.{nat_tests}
use Rattle.hotel_model.specs.Rows.{at_number}
use Rattle.hotel_model.specs.SoundRooms.{count_up}
use Rattle.hotel_model.proofs.OfTables.Numbered.{at_inserted}
use Rattle.hotel_books.proofs.OfTables.MapEntries.{at_is, eq_from}
use Rattle.hotel_rows.specs.Keys.{place_in, IndexesFirst}
use Rattle.hotel_rows.specs.Places.{counted_place}

-- the first, or where there is none the second
abbrev pub or_place : Option ℕ → Option ℕ → Option ℕ
or_place (Some i) o = Some i
or_place None o = o

or_later : (a b : Option ℕ) → option_map suc (or_place a b) ≡ or_place (option_map suc a) (option_map suc b)
or_later (Some i) b = refl
or_later None b = refl

later : (b : Bool) (n : ℕ) → option_map suc (cond b (Some n) None) ≡ cond b (Some (suc n)) None
later true n = refl
later false n = refl

place_by : (b : Bool) (a o : Option ℕ) → cond b (Some 0) (or_place a o) ≡ or_place (cond b (Some 0) a) o
place_by true a o = refl
place_by false a o = refl

-- a key more
pub place_more : (ks : List ℕ) (k q : ℕ)
    → place_in (ks ++ k ∷ []) q ≡ or_place (place_in ks q) (cond (k == q) (Some (length ks)) None)
place_more [] k q = refl
place_more (x ∷ ks) k q =
    ap (λ o. cond (x == q) (Some 0) (option_map suc o)) (place_more ks k q)
    ∙ ap (λ o. cond (x == q) (Some 0) o) (or_later (place_in ks q) (cond (k == q) (Some (length ks)) None))
    ∙ place_by (x == q) (option_map suc (place_in ks q)) (option_map suc (cond (k == q) (Some (length ks)) None))
    ∙ ap (λ o. or_place (cond (x == q) (Some 0) (option_map suc (place_in ks q))) o) (later (k == q) (length ks))

some_or : (a o : Option ℕ) → is_some a ≡ true → or_place a o ≡ a
some_or (Some i) o h = refl
some_or None o h = absurd (let w : ◌≡◌ {A = Bool} false true = h in cc)

or_none : (a : Option ℕ) → or_place a None ≡ a
or_none (Some i) = refl
or_none None = refl

kept_by : (b : Bool) (ks : List ℕ) (k q : ℕ) → (k == q) ≡ b → is_some (place_in ks k) ≡ true
    → or_place (place_in ks q) (cond b (Some (length ks)) None) ≡ place_in ks q
kept_by true ks k q e h = some_or (place_in ks q) _ (subst (λ n. is_some (place_in ks n) ≡ true) (eq_from k q e) h)
kept_by false ks k q e h = or_none (place_in ks q)

-- a key that stands there already
pub finds_again : (places : List (ℕ × ℕ)) (ks : List ℕ) (k : ℕ)
    → IndexesFirst places ks → is_some (at_number places k) ≡ true → IndexesFirst places (ks ++ k ∷ [])
finds_again places ks k is there q =
    is q ∙ sym (place_more ks k q ∙ kept_by (k == q) ks k q refl (sym (ap is_some (is k)) ∙ there))

none_or : (a o : Option ℕ) → is_some a ≡ false → or_place a o ≡ o
none_or (Some i) o h = absurd (let w : ◌≡◌ {A = Bool} true false = h in cc)
none_or None o h = refl

put_by : (b : Bool) (ks : List ℕ) (k q : ℕ) → (k == q) ≡ b → is_some (place_in ks k) ≡ false
    → cond b (Some (length ks)) (place_in ks q) ≡ or_place (place_in ks q) (cond b (Some (length ks)) None)
put_by true ks k q e h =
    sym (none_or (place_in ks q) _ (subst (λ n. is_some (place_in ks n) ≡ false) (eq_from k q e) h))
put_by false ks k q e h = sym (or_none (place_in ks q))

-- a new key
pub finds_more : (places later : List (ℕ × ℕ)) (ks : List ℕ) (k : ℕ)
    → IndexesFirst places ks → is_some (at_number places k) ≡ false
    → later ≡ insert_entry nat_cmp places k (length ks) → IndexesFirst later (ks ++ k ∷ [])
finds_more places later ks k is absent e q =
    ap (λ es. at_number es q) e ∙ at_inserted places k (length ks) q
    ∙ ap (λ o. cond (k == q) (Some (length ks)) o) (is q)
    ∙ put_by (k == q) ks k q refl (sym (ap is_some (is k)) ∙ absent)
    ∙ sym (place_more ks k q)

bound_by : (b : Bool) (o : Option ℕ) (n i : ℕ)
    → cond b (Some 0) (option_map suc o) ≡ Some i → ((j : ℕ) → o ≡ Some j → j < n) → i < suc n
bound_by true o n i e ih = let w : 0 ≡ i = cc in omega (arith, w)
bound_by false None n i e ih = absurd (let w : ◌≡◌ {A = Option ℕ} None (Some i) = e in cc)
bound_by false (Some j) n i e ih = let w : suc j ≡ i = cc in omega (arith, w, ih j refl)

-- a key stands among the keys
pub place_bound : (ks : List ℕ) (q i : ℕ) → place_in ks q ≡ Some i → i < length ks
place_bound [] q i e = absurd (let w : ◌≡◌ {A = Option ℕ} None (Some i) = e in cc)
place_bound (k ∷ ks) q i e = bound_by (k == q) (place_in ks q) (length ks) i e (λ j f. place_bound ks q j f)

module _ {L X : Type 0} (key : L → ℕ) (row : L → X) (d : L) where
  row_later : (o : Option ℕ) (l : L) (ls : List L)
      → option_map (λ i. row (get_or (l ∷ ls) i d)) (option_map suc o) ≡ option_map (λ i. row (get_or ls i d)) o
  row_later (Some i) l ls = refl
  row_later None l ls = refl

  row_by : (b : Bool) (l : L) (ls : List L) (q : ℕ)
      → at_number (map (λ l. (key l, row l)) ls) q ≡ option_map (λ i. row (get_or ls i d)) (place_in (map key ls) q)
      → cond b (Some (row l)) (at_number (map (λ l. (key l, row l)) ls) q)
      ≡ option_map (λ i. row (get_or (l ∷ ls) i d)) (cond b (Some 0) (option_map suc (place_in (map key ls) q)))
  row_by true l ls q ih = refl
  row_by false l ls q ih = ih ∙ sym (row_later (place_in (map key ls) q) l ls)

  -- what a table has at a number is the row where the number stands first
  pub row_found : (ls : List L) (q : ℕ)
      → at_number (map (λ l. (key l, row l)) ls) q ≡ option_map (λ i. row (get_or ls i d)) (place_in (map key ls) q)
  row_found [] q = refl
  row_found (l ∷ ls) q = ap (λ b. cond b (Some (row l)) (at_number (map (λ l. (key l, row l)) ls) q)) (at_is q (key l))
      ∙ row_by (key l == q) l ls q (row_found ls q)

bound_of : (i : ℕ) (ks : List ℕ) (q n : ℕ) → place_in ks q ≡ Some i → length ks ≡ n → i < n
bound_of i ks q n e f = subst (λ m. i < m) f (place_bound ks q i e)

module _ {L X : Type 0} (key : L → ℕ) (row : L → X) where
  length_keys : (ls : List L) → length (map key ls) ≡ length ls
  length_keys [] = refl
  length_keys (l ∷ ls) = ap suc (length_keys ls)

  pub none_found : (found : ℕ → Option ℕ) (ls : List L) (q : ℕ)
      → ((q : ℕ) → found q ≡ place_in (map key ls) q)
      → found q ≡ None → at_number (map (λ l. (key l, row l)) ls) q ≡ None
  none_found found [] q is e = refl
  none_found found (l ∷ ls) q is e =
      row_found key row l (l ∷ ls) q ∙ ap (λ o. option_map (λ i. row (get_or (l ∷ ls) i l)) o) (sym (is q) ∙ e)

  pub one_found : (found : ℕ → Option ℕ) (ls : List L) (q i : ℕ) (d : L) → ((q : ℕ) → found q ≡ place_in (map key ls) q)
      → found q ≡ Some i → at_number (map (λ l. (key l, row l)) ls) q ≡ Some (row (get_or ls i d))
  one_found found ls q i d is e =
      row_found key row d ls q ∙ ap (λ o. option_map (λ i. row (get_or ls i d)) o) (sym (is q) ∙ e)

  pub one_bound : (found : ℕ → Option ℕ) (ls : List L) (q i : ℕ)
      → ((q : ℕ) → found q ≡ place_in (map key ls) q) → found q ≡ Some i → i < length ls
  one_bound found ls q i is e = bound_of i (map key ls) q (length ls) (sym (is q) ∙ e) (length_keys ls)

key_by : (b : Bool) (ks : List ℕ) (k q i : ℕ) → (k == q) ≡ b → cond b (Some 0) (option_map suc (place_in ks q)) ≡ Some i
    → ((j : ℕ) → place_in ks q ≡ Some j → get_or ks j 0 ≡ q) → get_or (k ∷ ks) i 0 ≡ q
key_by true ks k q i e f ih = let z : 0 ≡ i = cc in subst (λ n. get_or (k ∷ ks) n 0 ≡ q) z (eq_from k q e)
key_by false ks k q i e f ih = later_key (place_in ks q) refl f
  where
    later_key : (o : Option ℕ) → place_in ks q ≡ o → option_map suc o ≡ Some i → get_or (k ∷ ks) i 0 ≡ q
    later_key (Some j) g h = let z : suc j ≡ i = cc in subst (λ n. get_or (k ∷ ks) n 0 ≡ q) z (ih j g)
    later_key None g h = absurd (let w : ◌≡◌ {A = Option ℕ} None (Some i) = h in cc)

-- the key that is looked for stands there
key_there : (ks : List ℕ) (q i : ℕ) → place_in ks q ≡ Some i → get_or ks i 0 ≡ q
key_there [] q i e = absurd (let w : ◌≡◌ {A = Option ℕ} None (Some i) = e in cc)
key_there (k ∷ ks) q i e = key_by (k == q) ks k q i refl e (λ j f. key_there ks q j f)

key_of_plain : {L : Type 0} (key : L → ℕ) (ls : List L) (i : ℕ) (d : L)
    → i < length ls → get_or (map key ls) i 0 ≡ key (get_or ls i d)
key_of_plain key [] i d low = absurd (omega (arith, low))
key_of_plain key (l ∷ ls) zero d low = refl
key_of_plain key (l ∷ ls) (suc i) d low = key_of_plain key ls i d (omega (arith, low))

module _ {L X : Type 0} (key : L → ℕ) (row : L → X) where
  pub plain_found : (found : ℕ → Option ℕ) (ls : List L) (q i : ℕ) (d : L)
      → ((q : ℕ) → found q ≡ place_in (map key ls) q) → found q ≡ Some i → key (get_or ls i d) ≡ q
  plain_found found ls q i d is e =
      sym (key_of_plain key ls i d (one_bound key row found ls q i is e)) ∙ key_there (map key ls) q i (sym (is q) ∙ e)

both_parts : (a b : Bool) → (a && b) ≡ true → (a ≡ true) × (b ≡ true)
both_parts true b h = (refl, h)
both_parts false b h = absurd (let w : ◌≡◌ {A = Bool} false true = h in cc)

-- what all plain rows pass, the one at an index passes
pub passes_at : {L : Type 0} (t : L → Bool) (ls : List L) (i : ℕ) (d : L)
    → i < length ls → list_all t ls ≡ true → t (get_or ls i d) ≡ true
passes_at t [] i d low all = absurd (omega (arith, low))
passes_at t (l ∷ ls) zero d low all = (both_parts (t l) (list_all t ls) all).0
passes_at t (l ∷ ls) (suc i) d low all =
    passes_at t ls i d (omega (arith, low)) (both_parts (t l) (list_all t ls) all).1

-- keys that count up from n: those among them
inside : (n : ℕ) (ks : List ℕ) (q : ℕ) → count_up n ks ≡ true → n ≤ q → q < n + length ks → place_in ks q ≡ Some (q - n)
inside n [] q up low high = absurd (omega (arith, low, high))
inside n (k ∷ ks) q up low high =
    let p = both_parts (k == n) (count_up (n + 1) ks) up in
    let is : k ≡ n = eq_from k n p.0 in
    let by : (b : Bool) → (k == q) ≡ b → place_in (k ∷ ks) q ≡ cond b (Some 0) (option_map suc (place_in ks q)) =
    λ b e. ap (λ b. cond b (Some 0) (option_map suc (place_in ks q))) e in
    elim (cases_Bool (k == q)) [
      | inl here ↦
          let same : 0 ≡ q - n = omega (arith, is, eq_from k q here) in
          by true here ∙ ap Some same
      | inr there ↦
          let more : n + 1 ≤ q = grind (arith, nat_tests, there, is, low) in
          let few : q < n + 1 + length ks = omega (arith, high) in
          let same : suc (q - (n + 1)) ≡ q - n = omega (arith, more) in
          by false there ∙ ap (option_map suc) (inside (n + 1) ks q p.1 more few) ∙ ap Some same
    ]

-- and the others
outside : (n : ℕ) (ks : List ℕ) (q : ℕ) → count_up n ks ≡ true → (n ≤ q → n + length ks ≤ q) → place_in ks q ≡ None
outside n [] q up out = refl
outside n (k ∷ ks) q up out =
    let p = both_parts (k == n) (count_up (n + 1) ks) up in
    let is : k ≡ n = eq_from k n p.0 in
    elim (cases_Bool (k == q)) [
      | inl here ↦
          let low : n ≤ q = omega (arith, is, eq_from k q here) in
          absurd (omega (arith, is, eq_from k q here, out low))
      | inr there ↦
          ap (λ b. cond b (Some 0) (option_map suc (place_in ks q))) there
          ∙ ap (option_map suc) (outside (n + 1) ks q p.1
          (λ more. let low : n ≤ q = omega (arith, more) in omega (arith, out low)))
    ]

-- where a key stands among those that count up from 1
pub place_counted : (ks : List ℕ) (q : ℕ) → count_up 1 ks ≡ true → counted_place (length ks) q ≡ place_in ks q
place_counted ks q up = elim (cases_Bool (nat_le 1 q)) [
  | inl some ↦
      let low : 1 ≤ q = grind (arith, nat_tests, some) in
      ap (λ b. cond b (cond (nat_le q (length ks)) (Some (q - 1)) None) None) some
      ∙ elim (cases_Bool (nat_le q (length ks))) [
        | inl among ↦
            let high : q < 1 + length ks = grind (arith, nat_tests, among) in
            ap (λ b. cond b (Some (q - 1)) None) among ∙ sym (inside 1 ks q up low high)
        | inr above ↦
            let high : 1 + length ks ≤ q = grind (arith, nat_tests, above) in
            ap (λ b. cond b (Some (q - 1)) None) above ∙ sym (outside 1 ks q up (λ _. high))
      ]
  | inr none ↦
      let low : q < 1 = grind (arith, nat_tests, none) in
      ap (λ b. cond b (cond (nat_le q (length ks)) (Some (q - 1)) None) None) none
      ∙ sym (outside 1 ks q up (λ one. absurd (omega (arith, low, one))))
]
