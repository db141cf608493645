-- The last number of a table whose rows are numbered from 1 on.
use Rattle.std.proofs.Common.{◌≡◌, ◌≤◌, ◌+◌, ◌&&◌, ◌==◌, refl, sym, ap, subst, ◌∙◌, List, [], ◌∷◌}
use Rattle.std.proofs.Common.{length, ℕ, true, Bool, None, Some, Option, map, arith, Less, Ordering, nat_cmp}
use Rattle.std.specs.Prelude.{unwrap_or}
use Rattle.std.specs.Map.{keys_of}
use Rattle.std.specs.List.{AllByRecursion}
use Rattle.std.specs.Ordering.{flip_args}
use Rattle.std.specs.List.Sorted.{IsPermutation}
use Rattle.std.proofs.lemmas.Bool.Decides.{nat_tests}
use Rattle.std.proofs.lemmas.Cmp.{nat_cmp_total, back_total}
use Rattle.std.proofs.lemmas.List.Sorted.{length_permutation, IsPermutation-sym, IsPermutation-trans}
use Rattle.sqlite_keyed.specs.Lists.{sort_by}
use Rattle.sqlite_keyed.proofs.ListLemmas.{all_of, filter_all, ascending-map, all_weaker, ascending_weaker}
use Rattle.sqlite_keyed.proofs.RuleLemmas.{first_of_both, second_of_both}
use Rattle.sqlite_keyed.proofs.SortLemmas.{IsPermutation-sort_by}
use Rattle.sqlite_value.specs.declared.keys.Collation.TheVariants.{Binary}
use Rattle.sqlite_value.specs.declared.keys.Key.{Key}
use Rattle.sqlite.specs.Order.{Row, column}
use Rattle.sqlite.specs.Query.{Query, IsAnswer, Output}
use Rattle.sqlite.specs.Program.{overlay}
use Rattle.sqlite.specs.Term.{Term, col}
use Rattle.sqlite.specs.Tree.{Trees, IsAscending}
use Rattle.hotel_model.specs.SoundRooms.{count_up}
use Rattle.hotel_statements.specs.Values.{number_of, int}
use Rattle.hotel_statements.specs.Tables.{IsTable, IsWrittenAs, in_key_order, by_key}
use Rattle.hotel_statements.specs.LookUps.{AnswersFirst}
use Rattle.hotel_statements.proofs.Answers.{single}
use Rattle.hotel_statements.proofs.Statements.Terms.{columns}
use Rattle.hotel_statements.proofs.Perm.{sort_rises, same_tie, every_shuffled}
use Rattle.hotel_statements.proofs.Keyed.{key_total}
use Rattle.hotel_statements.proofs.Ordered.{ordered_rows, int_order, then_nothing}

module _ (V : Type 0) where
  abbrev Entry : Type 0
  Entry = ℕ × V

  is_number : (n s : ℕ) (more : Bool) → ((n == s) && more) ≡ true → n ≡ s
  is_number n s more is = let at : (n == s) ≡ true = first_of_both (n == s) more is in grind (arith, nat_tests, at)

  -- the numbers reach as far as there are rows
  reach : (s m : ℕ) (es : List Entry) → count_up s (keys_of es) ≡ true → AllByRecursion (λ (e : Entry). e.0 ≤ m) es
      → 1 ≤ length es → s + length es ≤ m + 1
  reach s m [] up all some = absurd (omega (arith, some))
  reach s m (e ∷ []) up all some = let is = is_number e.0 s true up in omega (arith, is, all.0)
  reach s m (e ∷ f ∷ es) up all some =
      let more = reach (s + 1) m (f ∷ es) (second_of_both (e.0 == s) _ up) all.1 (omega arith) in
      omega (arith, more)

  -- and no further
  within : (s : ℕ) (es : List Entry)
      → count_up s (keys_of es) ≡ true → AllByRecursion (λ (e : Entry). e.0 + 1 ≤ s + length es) es
  within s [] up = tt
  within s (e ∷ es) up =
      let is = is_number e.0 s (count_up (s + 1) (keys_of es)) up in (
        omega (arith, is),
        all_weaker _ (λ (x : Entry). x.0 + 1 ≤ s + length (e ∷ es)) (λ x low. omega (arith, low)) es
            (within (s + 1) es (second_of_both (e.0 == s) _ up)),
      )

  abbrev down : List (Term × Key)
  down = (col 1 0, record { collation = Binary; descending = true }) ∷ []

  abbrev flipped : Entry → Entry → Ordering
  flipped = flip_args (by_key nat_cmp)

  abbrev shown : Entry → Output
  shown e = (int e.0 ∷ [], int e.0 ∷ [])

  below : (a b : ℕ) → nat_cmp a b ≡ Less → a ≤ b
  below a b less = grind (arith, nat_tests, less)

  module _ (tree : ℕ) (project : Row → Row) (of : Row → Entry) (written : Entry → Row) (db : Trees)
      (table : IsTable (by_key nat_cmp) project of written (db tree))
      (first : (r : Row) → column (project r) 0 ≡ column r 0)
      (keyed : (e : Entry) → column (written e) 0 ≡ int e.0) where
    abbrev query : Query
    query = single tree [] (columns (0 ∷ [])) down

    abbrev said : List Entry
    said = map (λ r. of (project r)) (db tree)

    abbrev es : List Entry
    es = in_key_order (by_key nat_cmp) (λ r. of (project r)) (db tree)

    abbrev mine : List Entry
    mine = sort_by flipped said

    same : IsPermutation es mine
    same = IsPermutation-trans _ _ _ (IsPermutation-sort_by (by_key nat_cmp) (key_total nat_cmp_total) said)
        (IsPermutation-sym _ _ (IsPermutation-sort_by flipped (back_total (key_total nat_cmp_total)) said))

    falls : IsAscending (λ x y. flipped x y ≡ Less) mine
    falls = sort_rises flipped (back_total (key_total nat_cmp_total)) said
        (ascending_weaker _ _ (λ x y h. same_tie (by_key nat_cmp) (key_total nat_cmp_total) y x ∙ h) said table.apart)

    rows_are : (rows : List Row) → IsAnswer query (overlay db []) [] rows → rows ≡ map (λ e. (shown e).1) mine
    rows_are rows answer = ordered_rows (by_key nat_cmp) (key_total nat_cmp_total) (IsWrittenAs project of written)
        (λ r. of (project r)) tree [] (columns (0 ∷ [])) down []
        (λ _. true) shown db rows mine
        table (λ r good. refl)
        (λ r good. ap (λ v. (v ∷ [], v ∷ [])) (sym (first r) ∙ ap (λ v. column v 0) good ∙ keyed (of (project r))))
        (subst (λ xs. IsPermutation xs mine) (sym (filter_all (λ (_ : Entry). true) es (all_of _ (λ _. refl) es))) same)
        (ascending-map _ shown mine
        (ascending_weaker _ _ (λ x y less. then_nothing _ ∙ int_order y.0 x.0 ∙ less) mine falls)) answer

    pub last_finds : count_up 1 (keys_of es) ≡ true → (o : Option ℕ)
        → AnswersFirst (λ v. number_of (column v 0)) query [] db o → unwrap_or o 0 ≡ length es
    last_finds up None answer = go mine (rows_are [] answer) (length_permutation _ _ same)
      where
        go : (ms : List Entry) → [] ≡ map (λ e. (shown e).1) ms → length ms ≡ length es → 0 ≡ length es
        go [] is long = long
        go (m ∷ ms) is long = absurd (let e = is in cc)
    last_finds up (Some x) answer = answer.3 ∙ go mine (rows_are _ answer.2) falls (length_permutation _ _ same)
        (every_shuffled _ es mine same (within 1 es up))
        (λ m. every_shuffled (λ (e : Entry). e.0 ≤ m) mine es (IsPermutation-sym _ _ same))
      where
        go : (ms : List Entry) → answer.0 ∷ answer.1 ≡ map (λ e. (shown e).1) ms
            → IsAscending (λ x y. flipped x y ≡ Less) ms → length ms ≡ length es
            → AllByRecursion (λ (e : Entry). e.0 + 1 ≤ 1 + length es) ms
            → ((m : ℕ) → AllByRecursion (λ (e : Entry). e.0 ≤ m) ms → AllByRecursion (λ (e : Entry). e.0 ≤ m) es)
            → number_of (column answer.0 0) ≡ length es
        go [] is fall long low high = absurd (let e = is in cc)
        go (m ∷ ms) is fall long low high =
            let top =
            high m.0 (omega arith, all_weaker _ (λ (e : Entry). e.0 ≤ m.0) (λ e less. below e.0 m.0 less) ms fall.0) in
            let far = reach 1 m.0 es up top (omega (arith, long)) in
            let row : answer.0 ≡ int m.0 ∷ [] = cc in
            ap (λ r. number_of (column r 0)) row ∙ omega (arith, far, low.0)
