-- What the rows of a table are, where its plain rows are such as the books write.
use Rattle.std.proofs.Common.{◌≡◌, sym, ap, subst, ◌∙◌, List, [], ◌∷◌, map, true, false, Less, Ordering, is_eq}
use Rattle.std.specs.List.{AllByRecursion}
use Rattle.std.specs.List.Sorted.{IsPermutation}
use Rattle.std.specs.Cmp.{IsTotalOrder}
use Rattle.std.proofs.lemmas.List.Sorted.{IsPermutation-map, IsPermutation-sym}
use Rattle.sqlite.specs.Order.{Row}
use Rattle.sqlite.specs.Tree.{IsAscending}
use Rattle.sqlite_keyed.proofs.ListLemmas.{map-map, all_weaker, all_map, all_unmap}
use Rattle.sqlite_keyed.proofs.ListLemmas.{ascending_from_map, ascending_weaker}
use Rattle.sqlite_keyed.proofs.SortLemmas.{sorted_is-sort_by}
use Rattle.hotel_model.specs.SoundRooms.{are_in_order}
use Rattle.hotel_model.proofs.OfTables.KeysInOrder.{AllAfter, InOrder}
use Rattle.hotel_model.proofs.Starts.StartOrder.{in_order_from}
use Rattle.hotel_statements.specs.Tables.{IsTable, IsWrittenAs, AreApart, in_key_order}
use Rattle.hotel_statements.specs.PlainRows.{ArePlainRows}
use Rattle.hotel_statements.proofs.Found.{map_all}
use Rattle.hotel_statements.proofs.Perm.{every_shuffled, sorted_rises, apart_permuted}

-- ---- keys that pass the test of order

order : {K : Type 0} (cmp : K → K → Ordering) (xs : List K) → InOrder cmp xs → IsAscending (λ a b. cmp a b ≡ Less) xs
order cmp [] h = tt
order {K} cmp (x ∷ xs) h = (after x xs h.0, order cmp xs h.1)
  where
    after : (k : K) (ys : List K) → AllAfter cmp k ys → AllByRecursion (λ y. cmp k y ≡ Less) ys
    after k [] a = tt
    after k (y ∷ ys) a = (a.0, after k ys a.1)

pub tested_order : {K : Type 0} (cmp : K → K → Ordering) (total : IsTotalOrder cmp) (xs : List K)
    → are_in_order cmp xs ≡ true → IsAscending (λ a b. cmp a b ≡ Less) xs
tested_order cmp total xs e = order cmp xs (in_order_from cmp total xs e)

pub tested_keys : {K X : Type 0} (cmp : K → K → Ordering) (total : IsTotalOrder cmp) (key : X → K) (xs : List X)
    → are_in_order cmp (map key xs) ≡ true
    → IsAscending (λ a b. cmp (key a) (key b) ≡ Less) xs
tested_keys cmp total key xs e = ascending_from_map _ key xs (tested_order cmp total (map key xs) e)

-- ---- the rows of a table

module _ {L X : Type 0} (cmp : X → X → Ordering) (total : IsTotalOrder cmp) (columns : Row → Row) (of : Row → X)
    (written : X → Row) (shown : L → Row) (entry : L → X) where
  -- the plain row is one that the books write
  abbrev pub IsGood : L → Type 0
  IsGood l = (shown l ≡ written (entry l)) × (of (shown l) ≡ entry l)

  -- what the rows say is what the plain rows stand for
  entries_are : (plain_rows : List L) (rows : List Row) → ArePlainRows columns shown plain_rows rows
      → AllByRecursion IsGood plain_rows → IsPermutation (map (λ r. of (columns r)) rows) (map entry plain_rows)
  entries_are plain_rows rows same all =
      let first : IsPermutation (map of (map columns rows)) (map of (map shown plain_rows)) =
      IsPermutation-map of _ _ same in
      let moved : IsPermutation (map (λ r. of (columns r)) rows) (map of (map shown plain_rows)) =
      subst (λ xs. IsPermutation xs (map of (map shown plain_rows))) (map-map of columns rows) first in
      subst (λ ys. IsPermutation (map (λ r. of (columns r)) rows) ys)
      (map-map of shown plain_rows ∙ map_all (λ l. of (shown l)) entry plain_rows
      (all_weaker IsGood _ (λ l good. good.1) plain_rows all)) moved

  -- no two plain rows of a table have one key
  pub plain_apart : (plain_rows : List L) (rows : List Row) → IsTable cmp columns of written rows
      → ArePlainRows columns shown plain_rows rows → AllByRecursion IsGood plain_rows
      → IsAscending (λ a b. is_eq (cmp (entry a) (entry b)) ≡ false) plain_rows
  plain_apart plain_rows rows t same all =
      ascending_from_map _ entry plain_rows
      (apart_permuted cmp total _ _ (entries_are plain_rows rows same all) t.apart)

  pub read_back : (plain_rows : List L) (rows : List Row)
      → ArePlainRows columns shown plain_rows rows → AllByRecursion IsGood plain_rows
      → IsAscending (λ a b. cmp a b ≡ Less) (map entry plain_rows)
      → IsTable cmp columns of written rows × (in_key_order cmp (λ r. of (columns r)) rows ≡ map entry plain_rows)
  read_back plain_rows rows same all up =
      let good : AllByRecursion (IsWrittenAs columns of written) rows = all_unmap (λ v. v ≡ written (of v)) columns rows
      (every_shuffled (λ v. v ≡ written (of v)) (map shown plain_rows) (map columns rows) (IsPermutation-sym _ _ same)
      (all_map _ shown plain_rows
      (all_weaker IsGood _ (λ l good. good.0 ∙ ap written (sym good.1)) plain_rows all))) in
      let mapped = entries_are plain_rows rows same all in
      let apart : AreApart cmp (map entry plain_rows) =
      ascending_weaker _ _ (λ a b less. ap is_eq less) (map entry plain_rows) up in
      let own = apart_permuted cmp total _ _ (IsPermutation-sym _ _ mapped) apart in (
        record { good = good; apart = own },
        sym (sorted_is-sort_by cmp total (map (λ r. of (columns r)) rows) (map entry plain_rows) own mapped
            (sorted_rises cmp total _ up)),
      )
