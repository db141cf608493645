-- What a DELETE of cards inside a room makes of the rows of a desk: those are gone that pass its test.
use Rattle.std.proofs.Common.{◌≡◌, ◌||◌, not, inl, inr, refl, sym, ap, ◌∙◌, List, [], ◌∷◌, ℕ, ℤ, true, false}
use Rattle.std.proofs.Common.{Bool, cond, Ok, map, filter, is_eq}
use Rattle.std.specs.List.{AllByRecursion, list_any}
use Rattle.std.specs.List.Sorted.{IsPermutation}
use Rattle.std.proofs.lemmas.Bool.{cases_Bool}
use Rattle.std.proofs.lemmas.Cmp.{tied_itself}
use Rattle.std.proofs.lemmas.List.Sorted.{IsPermutation-sym, list_any-IsPermutation}
use Rattle.sqlite_keyed.proofs.SortLemmas.{IsPermutation-sort_by}
use Rattle.sqlite_keyed.proofs.ListLemmas.{all_of, filter_all, all_weaker, all-filter, filter_same}
use Rattle.sqlite_rules.specs.Calls.{ids_of}
use Rattle.sqlite_rules.specs.Edit.{id_in, without_all}
use Rattle.sqlite_trees.specs.Tree.{rowid, has_rowid, without_rowid}
use Rattle.sqlite_value.proofs.OrderLemmas.{value_cmp_total}
use Rattle.sqlite_value.specs.declared.value.Value.TheVariants.{Null}
use Rattle.sqlite.specs.Order.{Row, value_cmp}
use Rattle.sqlite.specs.Query.{Query, IsAnswer}
use Rattle.sqlite.specs.Program.{overlay}
use Rattle.sqlite.specs.Command.TheVariants.{Delete}
use Rattle.sqlite.specs.Table.{Table}
use Rattle.sqlite.specs.Edit.{edit_of, edited}
use Rattle.sqlite.specs.Rowids.TheVariants.{Given}
use Rattle.sqlite.specs.Rows.{Written}
use Rattle.sqlite.specs.Tree.{Trees}
use Rattle.sqlite.specs.State.{State, mode_of, ExecutesInside}
use Rattle.sqlite.specs.Term.{Term, col}
use Rattle.sqlite.specs.Command.{Command}
use Rattle.sqlite.specs.Listing.{understood}
use Rattle.sqlite.proofs.Callers.{one_step, statement_of}
use Rattle.hotel_model.specs.Words.{pair_cmp}
use Rattle.hotel_model.proofs.OfTables.Pairs.{pair_cmp_total}
use Rattle.hotel_model.specs.Rows.{Rows}
use Rattle.hotel_books.specs.Refinement.Finds.{AnyRows}
use Rattle.hotel_statements.specs.Trees.{inside_tree}
use Rattle.hotel_statements.specs.Schema.{desk_schema, inside_table, at_tree}
use Rattle.hotel_statements.specs.Columns.{inside_columns, inside_of, inside_written}
use Rattle.hotel_statements.specs.Tables.{IsWrittenAs, AreApart, AreApartIds, HasId, rows_in}
use Rattle.hotel_statements.specs.Steps.{IsMidWith, MovesRows}
use Rattle.hotel_statements.proofs.Answers.{single, passes, made_of_shown}
use Rattle.hotel_statements.proofs.Perm.{same_tie, apart_filtered, apart_permuted, filter_makes}
use Rattle.hotel_statements.proofs.Writing.{went, same_value}
use Rattle.hotel_statements.proofs.Made.Desk.{changed, steps, insides_set}
use Rattle.hotel_statements.proofs.Statements.Terms.{Does}
use Rattle.hotel_statements.proofs.Made.Writes.{IsOn, wrote}

-- a row is as the books write a card inside a room
abbrev pub Good : Row → Type 0
Good = IsWrittenAs inside_columns inside_of inside_written

-- the room and the card that a row says
abbrev pub read : Row → ℕ × ℕ
read r = inside_of (inside_columns r)

-- the number of a row
abbrev own : Row → ℤ
own r = id_in (rowid r)

-- a row has one of these numbers
abbrev has_any : List ℤ → Row → Bool
has_any ids r = list_any (λ id. has_rowid id r) ids

-- ---- rows without those of some numbers

filter_twice : (p q : Row → Bool) (rows : List Row) → filter (λ r. not (q r)) (filter (λ r. not (p r)) rows)
    ≡ filter (λ r. not (p r || q r)) rows
filter_twice p q [] = refl
filter_twice p q (r ∷ rows) = elim (cases_Bool (p r)) [
  | inl is ↦ rw is (filter_twice p q rows)
  | inr other ↦ elim (cases_Bool (q r)) [
    | inl at ↦ rw (other, at) (filter_twice p q rows)
    | inr out ↦ rw (other, out) (ap (λ rs. r ∷ rs) (filter_twice p q rows))
  ]
]

gone_each : (ids : List ℤ) (rows : List Row) → without_all rows ids ≡ filter (λ r. not (has_any ids r)) rows
gone_each [] rows = sym (filter_all (λ r. not (has_any [] r)) rows (all_of _ (λ r. refl) rows))
gone_each (id ∷ ids) rows = gone_each ids (without_rowid id rows) ∙ filter_twice (has_rowid id) (has_any ids) rows

-- ---- the numbers of the rows that pass a test

has_own : (a b : Row) → HasId b → has_rowid (own b) a ≡ is_eq (value_cmp (rowid a) (rowid b))
has_own a b id = ap (λ v. is_eq (value_cmp (rowid a) v)) (sym id)

lost : (p : Row → Bool) (a : Row) (rows : List Row)
    → AllByRecursion (λ b. is_eq (value_cmp (rowid a) (rowid b)) ≡ false) rows → AllByRecursion HasId rows
    → has_any (map own (filter p rows)) a ≡ false
lost p a [] apart ids = refl
lost p a (r ∷ rows) apart ids = elim (cases_Bool (p r)) [
  | inl is ↦ let other : has_rowid (own r) a ≡ false = has_own a r ids.0
      ∙ apart.0 in rw (is, other) (lost p a rows apart.1 ids.1)
  | inr out ↦ rw out (lost p a rows apart.1 ids.1)
]

-- a number that none of the rows has
needless : (r : Row) (rows : List Row) (ids : List ℤ) → HasId r
    → AllByRecursion (λ b. is_eq (value_cmp (rowid r) (rowid b)) ≡ false) rows
    → filter (λ x. not (has_rowid (own r) x || has_any ids x)) rows ≡ filter (λ x. not (has_any ids x)) rows
needless r [] ids id apart = refl
needless r (x ∷ rows) ids id apart =
    let other : has_rowid (own r) x ≡ false = has_own x r id ∙ same_tie value_cmp value_cmp_total (rowid x) (rowid r)
    ∙ apart.0 in
    rw other (ap (λ rest. cond (not (has_any ids x)) (x ∷ rest) rest) (needless r rows ids id apart.1))

passing : (p : Row → Bool) (rows : List Row) → AreApartIds rows → AllByRecursion HasId rows
    → filter (λ r. not (has_any (map own (filter p rows)) r)) rows ≡ filter (λ r. not (p r)) rows
passing p [] apart ids = refl
passing p (r ∷ rows) apart ids = by (p r) refl (passing p rows apart.1 ids.1)
  where
    by : (b : Bool) → p r ≡ b → filter (λ x. not (has_any (map own (filter p rows)) x)) rows
        ≡ filter (λ x. not (p x)) rows
        → filter (λ x. not (has_any (map own (cond b (r ∷ filter p rows) (filter p rows))) x)) (r ∷ rows)
        ≡ cond (not b) (r ∷ filter (λ x. not (p x)) rows) (filter (λ x. not (p x)) rows)
    by true is more =
        let mine : has_rowid (own r) r ≡ true = has_own r r ids.0 ∙ ap is_eq (tied_itself value_cmp_total (rowid r)) in
        rw mine (needless r rows (map own (filter p rows)) ids.0 apart.0 ∙ more)
    by false is more =
        let other : has_any (map own (filter p rows)) r ≡ false = lost p r rows apart.0 ids.1 in
        rw other (ap (λ rs. r ∷ rs) more)

-- ---- the statement

abbrev table : Table
table = at_tree inside_tree inside_table

abbrev pub query : List Term → Query
query tests = single inside_tree tests (col 1 0 ∷ []) []

-- the DELETE of the cards inside that pass the tests
abbrev pub delete : List Term → Command
delete tests = Delete 6 (record { lets = []; body = query tests })

module _ (tests : List Term) (params : Row) where
  shown_left : (db : Trees) (rows : List Row) → AllByRecursion HasId (db inside_tree) → AreApartIds (db inside_tree)
      → IsAnswer (query tests) (overlay db []) params rows
      → edited db (edit_of db table (ids_of rows) Given 0 [])
      ≡ filter (λ r. not (passes tests params r)) (db inside_tree)
  shown_left db rows keyed ids a =
      let some = filter (passes tests params) (db inside_tree) in
      let same : IsPermutation (map own some) (ids_of rows) =
      made_of_shown inside_tree tests (col 1 0 ∷ []) [] db params rows own a in
      gone_each (ids_of rows) (db inside_tree)
      ∙ filter_same (λ r. not (has_any (ids_of rows) r)) (λ r. not (has_any (map own some) r))
      (λ r. ap not (sym (list_any-IsPermutation (λ id. has_rowid id r) (map own some) (ids_of rows) same)))
      (db inside_tree)
      ∙ passing (passes tests params) (db inside_tree) ids keyed

  -- `left` is what is left of the pairs without those that pass
  pub gone : {text : List ℕ} (test : ℕ × ℕ → Bool) (left : List (ℕ × ℕ) → List (ℕ × ℕ)) (old new : State) (count : ℕ)
      → Does text (delete tests)
      → IsOn inside_tree inside_table (statement_of text (understood desk_schema text)) (delete tests) old params
      → ((r : Row) → Good r → passes tests params r ≡ test (read r))
      → ((es : List (ℕ × ℕ)) → AreApart pair_cmp es → filter (λ e. not (test e)) es ≡ left es)
      → ExecutesInside 0 text params old new (Ok count) → IsMidWith AnyRows old
      → MovesRows old new (λ rows. record rows { inside = left rows.inside })
  gone {text} test left old new count does on tested left_is h mid =
      let was = (mid h.1.was_open).0 in
      let db = old.now.trees in
      let rows = db inside_tree in
      let stays = λ (r : Row). not (passes tests params r) in
      let done = wrote old new inside_tree inside_table text params (delete tests) count does (λ w. w) on was.schema
      h.0 in
      let given = went done.1 in
      let put = went given.2 in
      let applied = one_step desk_schema (mode_of old).keys db put.0 (edit_of db table (ids_of given.0) Given 0 []) refl
      put.1 in
      let kept = shown_left db given.0 was.tables.inside_numbered was.tables.inside_ids (given.1.answer Null) in
      let did = changed old new put.0 inside_tree (filter stays rows)
      (done.2 ∙ ap (λ (it : Written). record { schema = desk_schema; trees = it.trees }) (same_value put.2))
      (applied.rows ∙ kept) applied.tables in
      let alike = all_weaker Good (λ r. stays r ≡ not (test (read r))) (λ r g. ap not (tested r g)) rows
      was.tables.inside.good in
      let made =
      filter_makes pair_cmp pair_cmp_total Good read stays (λ e. not (test e)) rows was.tables.inside alike in
      let sorted : AreApart pair_cmp (rows_in db).inside = apart_permuted pair_cmp pair_cmp_total _ _
      (IsPermutation-sym _ _ (IsPermutation-sort_by pair_cmp pair_cmp_total (map read rows)))
      was.tables.inside.apart in
      steps old new (λ (all : Rows). record all { inside = left all.inside }) h.1 did
      (insides_set was.tables (made.0, made.1 ∙ left_is (rows_in db).inside sorted)
      (all-filter HasId stays rows was.tables.inside_numbered) (apart_filtered stays rows was.tables.inside_ids))
