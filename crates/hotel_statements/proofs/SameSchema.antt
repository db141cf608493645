-- A schema that the test takes for another's prefix is that, and each layout of a desk is taken for a prefix of the
-- whole one.
use Rattle.std.proofs.Common.{◌≡◌, refl, sym, ap, ◌∙◌, Bool, true, false, ℕ, List, [], ◌∷◌, Option, Some, None}
use Rattle.std.proofs.Common.{length, take, arith, subst, zero, suc, ◌+◌, ◌≤◌, ◌<◌}
use Rattle.std.proofs.lemmas.List.{take_all}
use Rattle.std.proofs.lemmas.Bool.Decides.{nat_tests}
use Rattle.std.specs.Prelude.{◌==◌, bytes_eq}
use Rattle.std.specs.Fmt.{digits}
use Rattle.std.proofs.lemmas.Bool.{false≢true}
use Rattle.std.proofs.lemmas.Bool.Decides.{Decides-int_eq}
use Rattle.std.proofs.lemmas.Slice.Eq.{bytes_eq-Decides}
use Rattle.sqlite_value.specs.declared.keys.Collation.{Collation}
use Rattle.sqlite_value.specs.declared.keys.Collation.TheVariants.{Binary}
use Rattle.sqlite_value.specs.declared.keys.Order.{Order}
use Rattle.sqlite_value.specs.declared.value.Value.{Value}
use Rattle.sqlite_value.specs.declared.value.Value.TheVariants.{Null, Int}
use Rattle.sqlite_sql.specs.Term.{Term, lit, col, op2}
use Rattle.sqlite_sql.specs.declared.ops.BinaryOp.{BinaryOp}
use Rattle.sqlite_sql.specs.declared.ops.BinaryOp.TheVariants.{Compare, And, Or}
use Rattle.sqlite_sql.specs.declared.ops.CompareOp.{CompareOp}
use Rattle.sqlite_sql.specs.declared.ops.CompareOp.TheVariants.{Eq, Lt, Le, Ge}
use Rattle.sqlite_schema.specs.declared.schema.Kind.{Kind}
use Rattle.sqlite_schema.specs.declared.schema.Kind.TheVariants.{Integer, Text}
use Rattle.sqlite_schema.specs.declared.schema.Action.{Action}
use Rattle.sqlite_schema.specs.declared.schema.Action.TheVariants.{NoAction}
use Rattle.sqlite_schema.specs.declared.schema.Column.{Column}
use Rattle.sqlite_schema.specs.declared.schema.Reference.{Reference}
use Rattle.sqlite_schema.specs.declared.schema.Stamps.{Stamps}
use Rattle.sqlite_schema.specs.declared.schema.Table.{Table}
use Rattle.sqlite_schema.specs.declared.schema.Index.{Index}
use Rattle.sqlite_schema.specs.declared.schema.Schema.{Schema}
use Rattle.hotel_model.proofs.OfTables.Tests.{and_true, eight_true, eq_from}
use Rattle.sqlite_catalog.specs.Change.{indexed}
use Rattle.hotel_statements.specs.declared.version.Version.TheVariants.{Second}
use Rattle.hotel_statements.specs.declared.version.Layout.{Layout}
use Rattle.hotel_statements.specs.declared.version.Layout.TheVariants.{Eight, Nine}
use Rattle.hotel_statements.specs.declared.version.TheConstants.{INDEXES}
use Rattle.hotel_statements.specs.Schema.{first_schema, tables_schema, desk_schema, with_indexes, all_indexed}
use Rattle.hotel_statements.specs.Schema.{our_indexes, tables_of, HasTablesOf, version_of, schema_of, is_whole}
use Rattle.hotel_statements.specs.SameSchema as spec

all_is : {A : Type 0} (same : A → A → Bool) → ((x y : A) → same x y ≡ true → x ≡ y) → (xs ys : List A)
    → spec.same_all same xs ys ≡ true → xs ≡ ys
all_is same is [] [] e = refl
all_is same is [] (y ∷ ys) e = absurd (false≢true e)
all_is same is (x ∷ xs) [] e = absurd (false≢true e)
all_is same is (x ∷ xs) (y ∷ ys) e = let both = and_true _ _ e in λ i. is x y both.0 i ∷ all_is same is xs ys both.1 i

bytes_are : (a b : List ℕ) → bytes_eq a b ≡ true → a ≡ b
bytes_are a b e = (bytes_eq-Decides a b).0 e

none_of : {A : Type 0} (xs : List A) → (length xs == 0) ≡ true → xs ≡ []
none_of [] e = refl
none_of (x ∷ xs) e = absurd (omega (arith, eq_from (length (x ∷ xs)) 0 e))

flag_is : (a b : Bool) → spec.same_flag a b ≡ true → a ≡ b
flag_is true true e = refl
flag_is false false e = refl
flag_is _ _ e = absurd (false≢true e)

place_is : (a b : Option ℕ) → spec.same_place a b ≡ true → a ≡ b
place_is None None e = refl
place_is (Some x) (Some y) e = ap Some (eq_from x y e)
place_is _ _ e = absurd (false≢true e)

kind_is : (a b : Kind) → spec.same_kind a b ≡ true → a ≡ b
kind_is Integer Integer e = refl
kind_is Text Text e = refl
kind_is _ _ e = absurd (false≢true e)

null_is : (v : Value) → spec.is_null v ≡ true → v ≡ Null
null_is Null e = refl
null_is _ e = absurd (false≢true e)

binary_is : (c : Collation) → spec.is_binary c ≡ true → c ≡ Binary
binary_is Binary e = refl
binary_is _ e = absurd (false≢true e)

action_is : (a : Action) → spec.is_no_action a ≡ true → a ≡ NoAction
action_is NoAction e = refl
action_is _ e = absurd (false≢true e)

comparison_is : (a b : CompareOp) → spec.same_comparison a b ≡ true → a ≡ b
comparison_is Eq Eq e = refl
comparison_is Lt Lt e = refl
comparison_is Le Le e = refl
comparison_is Ge Ge e = refl
comparison_is _ _ e = absurd (false≢true e)

op_is : (a b : BinaryOp) → spec.same_op a b ≡ true → a ≡ b
op_is (Compare x how) (Compare y other) e =
    let both = and_true _ _ e in
    let first = and_true _ _ both.0 in
    λ i. Compare (comparison_is x y first.0 i) ((binary_is how first.1 ∙ sym (binary_is other both.1)) i)
op_is And And e = refl
op_is Or Or e = refl
op_is _ _ e = absurd (false≢true e)

term_is : (a b : Term) → spec.same_term a b ≡ true → a ≡ b
term_is (lit (Int m)) (lit (Int n)) e = ap (λ n. lit (Int n)) ((Decides-int_eq m n).0 e)
term_is (col slot i) (col row j) e =
    let both = and_true _ _ e in λ k. col (eq_from slot row both.0 k) (eq_from i j both.1 k)
term_is (op2 x l r) (op2 y m n) e =
    let both = and_true _ _ e in
    let first = and_true _ _ both.0 in
    λ i. op2 (op_is x y first.0 i) (term_is l m first.1 i) (term_is r n both.1 i)
term_is _ _ e = absurd (false≢true e)

stamps_are : (a b : Stamps) → spec.has_no_stamps a ≡ true → spec.has_no_stamps b ≡ true → a ≡ b
stamps_are a b first second =
    let x = and_true _ _ first in
    let y = and_true _ _ second in
    let x1 = and_true _ _ x.0 in
    let y1 = and_true _ _ y.0 in
    λ i. record {
      places = (none_of a.places x1.0 ∙ sym (none_of b.places y1.0)) i;
      terms = (none_of a.terms x1.1 ∙ sym (none_of b.terms y1.1)) i;
      formats = (none_of a.formats x.1 ∙ sym (none_of b.formats y.1)) i;
    }

order_is : (a b : Order) → spec.same_order a b ≡ true → a ≡ b
order_is a b e = λ i. record { digits = eq_from a.digits b.digits e i }

column_is : (a b : Column) → spec.same_column a b ≡ true → a ≡ b
column_is a b e =
    let p = eight_true _ _ _ _ _ _ _ _ e in
    λ i. record {
      name = bytes_are a.name b.name p.0 i;
      kind = kind_is a.kind b.kind p.1 i;
      is_strict = flag_is a.is_strict b.is_strict p.2 i;
      not_null = flag_is a.not_null b.not_null p.3 i;
      default = (null_is a.default p.4 ∙ sym (null_is b.default p.5)) i;
      collation = (binary_is a.collation p.6 ∙ sym (binary_is b.collation p.7)) i;
    }

reference_is : (a b : Reference) → spec.same_reference a b ≡ true → a ≡ b
reference_is a b e =
    let p = eight_true _ _ _ _ _ _ _ _ e in
    λ i. record {
      columns = bytes_are a.columns b.columns p.0 i;
      parent = bytes_are a.parent b.parent p.1 i;
      parent_columns = all_is bytes_eq bytes_are a.parent_columns b.parent_columns p.2 i;
      on_delete = (action_is a.on_delete p.3 ∙ sym (action_is b.on_delete p.4)) i;
      on_update = (action_is a.on_update p.5 ∙ sym (action_is b.on_update p.6)) i;
      is_deferred = flag_is a.is_deferred b.is_deferred p.7 i;
    }

table_is : (a b : Table) → spec.same_table a b ≡ true → a ≡ b
table_is a b e =
    let both = and_true (spec.same_shape a b) (spec.same_rules a b) e in
    let p6 = and_true _ _ both.0 in
    let p5 = and_true _ _ p6.0 in
    let p4 = and_true _ _ p5.0 in
    let p3 = and_true _ _ p4.0 in
    let p2 = and_true _ _ p3.0 in
    let p1 = and_true _ _ p2.0 in
    let q5 = and_true _ _ both.1 in
    let q4 = and_true _ _ q5.0 in
    let q3 = and_true _ _ q4.0 in
    let q2 = and_true _ _ q3.0 in
    let q1 = and_true _ _ q2.0 in
    λ i. record {
      name = bytes_are a.name b.name p1.0 i;
      tree = eq_from a.tree b.tree p1.1 i;
      columns = all_is spec.same_column column_is a.columns b.columns p2.1 i;
      key = place_is a.key b.key p3.1 i;
      primary = bytes_are a.primary b.primary p4.1 i;
      uniques = all_is bytes_eq bytes_are a.uniques b.uniques p5.1 i;
      orders = all_is spec.same_order order_is a.orders b.orders p6.1 i;
      checks = all_is spec.same_term term_is a.checks b.checks q1.0 i;
      references = all_is spec.same_reference reference_is a.references b.references q1.1 i;
      computed = bytes_are a.computed b.computed q2.1 i;
      stamps = stamps_are a.stamps b.stamps q3.1 q4.1 i;
      is_counted = flag_is a.is_counted b.is_counted q5.1 i;
    }

index_is : (a b : Index) → spec.same_index a b ≡ true → a ≡ b
index_is a b e =
    let p5 = and_true _ _ e in
    let p4 = and_true _ _ p5.0 in
    let p3 = and_true _ _ p4.0 in
    let p2 = and_true _ _ p3.0 in
    let p1 = and_true _ _ p2.0 in
    λ i. record {
      name = bytes_are a.name b.name p1.0 i;
      tree = eq_from a.tree b.tree p1.1 i;
      table = eq_from a.table b.table p2.1 i;
      columns = bytes_are a.columns b.columns p3.1 i;
      order = order_is a.order b.order p4.1 i;
      is_unique = flag_is a.is_unique b.is_unique p5.1 i;
    }

-- a schema that the test takes for another's prefix is that
pub prefix_is : (tables indexes : ℕ) (a b : Schema) → spec.same_prefix tables indexes a b ≡ true
    → a ≡ record b { tables = take tables b.tables; indexes = take indexes b.indexes }
prefix_is tables indexes a b e =
    let p3 = and_true _ _ e in
    let p2 = and_true _ _ p3.0 in
    let p1 = and_true _ _ p2.0 in
    λ i. record {
      tables = all_is spec.same_table table_is a.tables (take tables b.tables) p1.0 i;
      indexes = all_is spec.same_index index_is a.indexes (take indexes b.indexes) p1.1 i;
      views = (none_of a.views p2.1 ∙ sym (none_of b.views p3.1)) i;
    }

-- ---- the first version, which is the second's prefix

pub first_is_prefix : spec.same_prefix 8 5 first_schema desk_schema ≡ true
unfolding digits
first_is_prefix = refl

pub prefix_is_first : record desk_schema { tables = take 8 desk_schema.tables; indexes = take 5 desk_schema.indexes }
    ≡ first_schema
unfolding digits
prefix_is_first = refl

pub count_tables : length desk_schema.tables ≡ 9
count_tables = refl

pub count_indexes : length desk_schema.indexes ≡ 10
count_indexes = refl

-- ---- the nine tables with some of our indexes

-- those past the last are none
pub with_many : (count : ℕ) → INDEXES ≤ count → with_indexes count ≡ desk_schema
with_many count all = ap (all_indexed tables_schema) (take_all count our_indexes all)

pub count_with : (count : ℕ) → (7 ≤ length (with_indexes count).indexes) × (length (with_indexes count).indexes ≤ 10)
count_with zero = (omega arith, omega arith)
count_with (suc zero) = (omega arith, omega arith)
count_with (suc (suc zero)) = (omega arith, omega arith)
count_with (suc (suc (suc count))) =
    let is : length (with_indexes (suc (suc (suc count)))).indexes ≡ 10 =
    ap (λ (s : Schema). length s.indexes) (with_many (suc (suc (suc count))) (omega arith)) in
    (omega (arith, is), omega (arith, is))

pub with_is_prefix : (count : ℕ)
    → spec.same_prefix 9 (length (with_indexes count).indexes) (with_indexes count) desk_schema ≡ true
unfolding digits
with_is_prefix zero = refl
with_is_prefix (suc zero) = refl
with_is_prefix (suc (suc zero)) = refl
with_is_prefix (suc (suc (suc count))) =
    let all : spec.same_prefix 9 (length desk_schema.indexes) desk_schema desk_schema ≡ true = refl in
    subst (λ (s : Schema). spec.same_prefix 9 (length s.indexes) s desk_schema ≡ true)
    (sym (with_many (suc (suc (suc count))) (omega arith))) all

pub prefix_is_with : (count : ℕ) → count ≤ INDEXES
    → record desk_schema { tables = take 9 desk_schema.tables; indexes = take (7 + count) desk_schema.indexes }
    ≡ with_indexes count
unfolding digits
prefix_is_with zero low = refl
prefix_is_with (suc zero) low = refl
prefix_is_with (suc (suc zero)) low = refl
prefix_is_with (suc (suc (suc zero))) low = refl
prefix_is_with (suc (suc (suc (suc count)))) low = absurd (omega (arith, low))

-- ---- the layouts

still_there : (schema : Schema) (more : List (Table × Index)) → HasTablesOf Second schema
    → HasTablesOf Second (all_indexed schema more)
still_there schema [] has = has
still_there schema (i ∷ more) has =
    still_there (indexed schema i.0 i.1) more (_, ap (λ (s : Schema). indexed s i.0 i.1) has.1)

pub tables_there : (layout : Layout) → HasTablesOf (version_of layout) (schema_of layout)
tables_there Eight = (_, refl)
tables_there (Nine count) = still_there tables_schema (take count our_indexes) (_, refl)

-- how many tables
pub count_tables_of : (layout : Layout) → length (schema_of layout).tables ≡ length (tables_of (version_of layout))
count_tables_of layout = ap (λ (s : Schema). length s.tables) (tables_there layout).1

-- a database has the tables of one version only
pub one_version : (a b : Layout) (s : Schema) → s ≡ schema_of a → s ≡ schema_of b → version_of a ≡ version_of b
one_version Eight Eight s first second = refl
one_version (Nine m) (Nine n) s first second = refl
one_version Eight (Nine n) s first second =
    let eight : length (schema_of (Nine n)).tables ≡ 8 = ap (λ (s : Schema). length s.tables) (sym second ∙ first) in
    absurd (omega (arith, eight, count_tables_of (Nine n)))
one_version (Nine m) Eight s first second =
    let eight : length (schema_of (Nine m)).tables ≡ 8 = ap (λ (s : Schema). length s.tables) (sym first ∙ second) in
    absurd (omega (arith, eight, count_tables_of (Nine m)))

pub whole_is : (layout : Layout) → is_whole layout ≡ true → schema_of layout ≡ desk_schema
whole_is Eight whole = absurd (false≢true whole)
whole_is (Nine count) whole = with_many count (grind (arith, nat_tests, whole))

pub not_whole : (layout : Layout) → is_whole layout ≡ false → ¬ (schema_of layout ≡ desk_schema)
not_whole Eight lacks is = let eight : 8 ≡ 9 = ap (λ (s : Schema). length s.tables) is in absurd (omega (arith, eight))
not_whole (Nine zero) lacks is =
    let less : 7 ≡ 10 = ap (λ (s : Schema). length s.indexes) is in absurd (omega (arith, less))
not_whole (Nine (suc zero)) lacks is =
    let less : 8 ≡ 10 = ap (λ (s : Schema). length s.indexes) is in absurd (omega (arith, less))
not_whole (Nine (suc (suc zero))) lacks is =
    let less : 9 ≡ 10 = ap (λ (s : Schema). length s.indexes) is in absurd (omega (arith, less))
not_whole (Nine (suc (suc (suc count)))) lacks is =
    let low : suc (suc (suc count)) < 3 = grind (arith, nat_tests, lacks) in absurd (omega (arith, low))
