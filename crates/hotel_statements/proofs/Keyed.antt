-- What the look-ups by a key find.
use Rattle.std.proofs.Common.{OnOk, IsTrue, ◌≡◌, ◌&&◌, refl, sym, ap, ap₂, subst, ◌∙◌, List, [], ◌∷◌, ℕ}
use Rattle.std.proofs.Common.{None, Some, Option, map, filter, Ordering, Less, nat_cmp, eqb}
use Rattle.std.proofs.Common.{Result, Ok, Err, IfOk}
use Rattle.std.specs.Prelude.{option_map}
use Rattle.std.specs.Map.{lookup}
use Rattle.std.specs.BTreeMap.{is_at}
use Rattle.std.specs.Option.{option_to_list}
use Rattle.std.specs.List.Sorted.{IsPermutation}
use Rattle.std.specs.Cmp.{IsTotalOrder}
use Rattle.std.proofs.lemmas.Cmp.{on_total, nat_cmp_total}
use Rattle.sqlite_value.specs.declared.value.Value.{Value}
use Rattle.sqlite_value.specs.declared.keys.Collation.TheVariants.{Binary}
use Rattle.sqlite_sql.specs.declared.ops.BinaryOp.TheVariants.{Compare}
use Rattle.sqlite_sql.specs.declared.ops.CompareOp.TheVariants.{Eq}
use Rattle.sqlite.specs.Ops.{binary, is_true}
use Rattle.sqlite.specs.Order.{Row, column}
use Rattle.sqlite.specs.Query.{Query}
use Rattle.sqlite.specs.Term.{Term, eval_all}
use Rattle.sqlite.specs.Tree.{Trees, IsAscending}
use Rattle.sqlite.specs.State.{State, HasCleanDisk, IsUnchanged}
use Rattle.keycard_rules.specs.declared.issued.LookFault.{LookFault}
use Rattle.hotel_model.specs.Words.{pair_cmp}
use Rattle.hotel_model.specs.Rows.{Rows, at_number}
use Rattle.hotel_model.proofs.OfTables.Pairs.{pair_cmp_total, pair_is}
use Rattle.hotel_statements.specs.Values.{number_of, int}
use Rattle.hotel_statements.specs.Tables.{IsTable, IsWrittenAs, in_key_order, by_key, rows_in, AreTables}
use Rattle.hotel_statements.specs.Books.{IsKept, IsBooks, KeepsRows}
use Rattle.hotel_statements.specs.LookUps.{Asks, AnswersFirst, Selects, SelectsIn, HasCause, LeavesNoMore}
use Rattle.sqlite_keyed.proofs.ListLemmas.{map-map}
use Rattle.hotel_statements.proofs.Answers.{single, env, passes}
use Rattle.hotel_statements.proofs.Statements.Terms.{by_rowid, by_pair}
use Rattle.hotel_statements.proofs.Keys.{equals, is_key, and_true}
use Rattle.hotel_statements.proofs.Perm.{sort_rises}
use Rattle.hotel_statements.proofs.Found.{found_rows, first_found, one_entry}

pub key_total : {K V : Type 0} {cmp : K → K → Ordering} → IsTotalOrder cmp → IsTotalOrder (by_key {K = K} {V = V} cmp)
key_total total = on_total (λ e. e.0) total

-- the test of a column that is a number
pub column_equals : (v : Value) (n k : ℕ) → v ≡ int n → is_true (binary (Compare Eq Binary) v (int k)) ≡ eqb n k
column_equals v n k is = ap (λ x. is_true (binary (Compare Eq Binary) x (int k))) is ∙ equals n k

-- ---- by a number, the row's own

module _ {V A : Type 0} (tree : ℕ) (project : List Term) (columns : Row → Row) (value : Row → V) (written : ℕ × V → Row)
    (k : ℕ) (db : Trees) (out : Row → A) (shown : V → A)
    (first : (r : Row) → column (columns r) 0 ≡ column r 0) (keyed : (e : ℕ × V) → column (written e) 0 ≡ int e.0)
    (shows : (r : Row) → out (eval_all project (env (int k ∷ []) r)) ≡ shown (value (columns r))) where
  abbrev of : Row → ℕ × V
  of v = (number_of (column v 0), value v)

  tests : (r : Row) → IsWrittenAs columns of written r
      → passes by_rowid (int k ∷ []) r ≡ is_at (nat_cmp k) (number_of (column (columns r) 0))
  tests r good =
      let key : column r 0 ≡ int (number_of (column (columns r) 0)) =
      sym (first r) ∙ ap (λ v. column v 0) good ∙ keyed (of (columns r)) in
      and_true _ ∙ column_equals (column r 0) _ k key ∙ sym (is_key k (number_of (column (columns r) 0)))

  pub by_number : IsTable (by_key nat_cmp) columns of written (db tree) → (o : Option A)
      → AnswersFirst out (single tree by_rowid project []) (int k ∷ []) db o
      → o ≡ option_map shown (at_number (in_key_order (by_key nat_cmp) (λ r. of (columns r)) (db tree)) k)
  by_number table o a =
      let es = in_key_order (by_key nat_cmp) (λ r. of (columns r)) (db tree) in
      let rises : IsAscending (λ x y. by_key nat_cmp x y ≡ Less) es =
      sort_rises (by_key nat_cmp) (key_total nat_cmp_total) _ table.apart in
      let one : map (λ (e : ℕ × V). shown e.1) (filter (λ (e : ℕ × V). is_at (nat_cmp k) e.0) es)
      ≡ option_to_list (option_map shown (at_number es k)) =
      sym (map-map shown (λ (e : ℕ × V). e.1) _)
      ∙ ap (map shown) (one_entry nat_cmp nat_cmp_total k es rises) ∙ mapped (at_number es k) in
      first_found out (single tree by_rowid project []) (int k ∷ []) db (option_map shown (at_number es k))
      (λ rows answer. subst (IsPermutation (map out rows)) one
      (found_rows (by_key nat_cmp) (key_total nat_cmp_total) (IsWrittenAs columns of written)
      (λ r. of (columns r)) tree by_rowid project [] (int k ∷ [])
      (λ e. is_at (nat_cmp k) e.0) out (λ e. shown e.1) db rows table tests shows answer)) o a
    where
      mapped : (w : Option V) → map shown (option_to_list w) ≡ option_to_list (option_map shown w)
      mapped None = refl
      mapped (Some v) = refl

pub same_option : {A : Type 0} (o : Option A) → option_map (λ a. a) o ≡ o
same_option None = refl
same_option (Some a) = refl

-- ---- by two numbers

module _ {V : Type 0} (tree : ℕ) (project : List Term) (columns : Row → Row) (value : Row → V)
    (written : (ℕ × ℕ) × V → Row) (a b : ℕ) (db : Trees)
    (one : (r : Row) → column (columns r) 0 ≡ column r 1) (two : (r : Row) → column (columns r) 1 ≡ column r 2)
    (keyed : (e : (ℕ × ℕ) × V) → (column (written e) 0 ≡ int e.0.0) × (column (written e) 1 ≡ int e.0.1))
    (shows : (r : Row) → eval_all project (env (int a ∷ int b ∷ []) r) ≡ columns r) where
  abbrev of_two : Row → (ℕ × ℕ) × V
  of_two v = ((number_of (column v 0), number_of (column v 1)), value v)

  tests_two : (r : Row) → IsWrittenAs columns of_two written r
      → passes (by_pair 1 2) (int a ∷ int b ∷ []) r
      ≡ is_at (pair_cmp (a, b)) (number_of (column (columns r) 0), number_of (column (columns r) 1))
  tests_two r good =
      let m = number_of (column (columns r) 0) in
      let n = number_of (column (columns r) 1) in
      let k1 : column r 1 ≡ int m = sym (one r) ∙ ap (λ v. column v 0) good ∙ (keyed (of_two (columns r))).0 in
      let k2 : column r 2 ≡ int n = sym (two r) ∙ ap (λ v. column v 1) good ∙ (keyed (of_two (columns r))).1 in
      ap₂ (λ x y. x && y) (column_equals (column r 1) m a k1) (and_true _ ∙ column_equals (column r 2) n b k2)
      ∙ sym (pair_is a b (m, n))

  pub by_two : IsTable (by_key pair_cmp) columns of_two written (db tree) → (o : Option V)
      → AnswersFirst value (single tree (by_pair 1 2) project []) (int a ∷ int b ∷ []) db o
      → o ≡ lookup (is_at (pair_cmp (a, b))) (in_key_order (by_key pair_cmp) (λ r. of_two (columns r)) (db tree))
  by_two table o answers =
      let es = in_key_order (by_key pair_cmp) (λ r. of_two (columns r)) (db tree) in
      let rises : IsAscending (λ x y. by_key pair_cmp x y ≡ Less) es =
      sort_rises (by_key pair_cmp) (key_total pair_cmp_total) _ table.apart in
      first_found value (single tree (by_pair 1 2) project []) (int a ∷ int b ∷ []) db
      (lookup (is_at (pair_cmp (a, b))) es)
      (λ rows answer. subst (IsPermutation (map value rows)) (one_entry pair_cmp pair_cmp_total (a, b) es rises)
      (found_rows (by_key pair_cmp) (key_total pair_cmp_total) (IsWrittenAs columns of_two written)
      (λ r. of_two (columns r)) tree (by_pair 1 2) project [] (int a ∷ int b ∷ [])
      (λ e. is_at (pair_cmp (a, b)) e.0) value (λ e. e.1) db rows table tests_two
      (λ r. ap value (shows r)) answer)) o answers

-- ---- a look-up whose statement finds what is wanted

-- a connection that was left unchanged is open
pub open_still : {R : Type 0} (old new : State) (result : Result R LookFault) → OnOk result (IsUnchanged old new)
    → OnOk result (IsTrue new.is_open)
open_still old new (Ok a) same = same.0.is_open
open_still old new (Err e) same = tt

pub looks_to : {A B R : Type 0} {Fails : State → State → Type 0} (text : List ℕ) (params : Row) (old new : State)
    (out : Row → A) (q : Query) (found : Result (Option A) LookFault) (result : Result R LookFault)
    (said : R → B) (wanted : Rows → B)
    → IsBooks old → IsBooks new → KeepsRows old new
    → (IsKept new → (p : Query) → Asks text p → IfOk found (AnswersFirst out p params old.now.trees))
    → (HasCleanDisk new → OnOk result (IsUnchanged old new)) → HasCause Fails old new result
    → LeavesNoMore old new → Asks text q
    → (IsKept old → AreTables old.now.trees → IfOk found (AnswersFirst out q params old.now.trees)
    → IfOk result (λ a. said a ≡ wanted (rows_in old.now.trees)))
    → Selects Fails said wanted old new result
looks_to text params old new out q found result said wanted was books keeps finds unchanged cause crash asks is =
    record {
      books = books;
      keeps = keeps;
      found = λ kept. let before = (keeps kept).0 in is before (was.desk before).tables (finds kept q asks);
      open_on = λ _ clean. open_still old new result (unchanged clean);
      unchanged = λ _. unchanged;
      cause = cause;
      crash = crash;
    }

-- the same of the tables as they stand
pub finds_to : {A : Type 0} {Fails : State → State → Type 0} (text : List ℕ) (params : Row)
    (old new : State) (out : Row → A) (q : Query)
    (result : Result (Option A) LookFault) (wanted : Trees → Option A)
    → IsBooks old → IsBooks new → KeepsRows old new
    → (IsKept new → (p : Query) → Asks text p → IfOk result (AnswersFirst out p params old.now.trees))
    → (HasCleanDisk new → OnOk result (IsUnchanged old new)) → HasCause Fails old new result
    → LeavesNoMore old new → Asks text q
    → (AreTables old.now.trees → IfOk result (AnswersFirst out q params old.now.trees)
    → IfOk result (λ a. a ≡ wanted old.now.trees))
    → SelectsIn Fails wanted old new result
finds_to text params old new out q result wanted was books keeps finds unchanged cause crash asks is = record {
  books = books;
  keeps = keeps;
  found = λ kept. is (was.desk (keeps kept).0).tables (finds kept q asks);
  open_on = λ clean. open_still old new result (unchanged clean);
  unchanged = unchanged;
  cause = cause;
  crash = crash;
}
