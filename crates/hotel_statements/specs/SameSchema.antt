-- When the front desk takes a schema for another without its last tables and indexes: `true` only where it is that, and
-- always where both are a desk's.
use Rattle.std.specs.Prelude.{◌==◌, ◌&&◌, not, ℕ, Bool, true, false, List, [], ◌∷◌, Option, Some, None, length, take}
use Rattle.std.specs.Prelude.{bytes_eq}
use Rattle.std.specs.Ordering.{int_eq}
use Rattle.sqlite_value.specs.declared.keys.Collation.{Collation}
use Rattle.sqlite_value.specs.declared.keys.Collation.TheVariants.{Binary}
use Rattle.sqlite_value.specs.declared.keys.Order.{Order}
use Rattle.sqlite_value.specs.declared.value.Value.{Value}
use Rattle.sqlite_value.specs.declared.value.Value.TheVariants.{Null, Int}
use Rattle.sqlite_sql.specs.Term.{Term, lit, col, op2}
use Rattle.sqlite_sql.specs.declared.ops.BinaryOp.{BinaryOp}
use Rattle.sqlite_sql.specs.declared.ops.BinaryOp.TheVariants.{Compare, And, Or}
use Rattle.sqlite_sql.specs.declared.ops.CompareOp.{CompareOp}
use Rattle.sqlite_sql.specs.declared.ops.CompareOp.TheVariants.{Eq, Lt, Le, Ge}
use Rattle.sqlite_schema.specs.declared.schema.Kind.{Kind}
use Rattle.sqlite_schema.specs.declared.schema.Kind.TheVariants.{Integer, Text}
use Rattle.sqlite_schema.specs.declared.schema.Action.{Action}
use Rattle.sqlite_schema.specs.declared.schema.Action.TheVariants.{NoAction}
use Rattle.sqlite_schema.specs.declared.schema.Column.{Column}
use Rattle.sqlite_schema.specs.declared.schema.Reference.{Reference}
use Rattle.sqlite_schema.specs.declared.schema.Stamps.{Stamps}
use Rattle.sqlite_schema.specs.declared.schema.Table.{Table}
use Rattle.sqlite_schema.specs.declared.schema.Index.{Index}
use Rattle.sqlite_schema.specs.declared.schema.Schema.{Schema}

-- each to each, by a test of two
abbrev pub same_all : {A : Type 0} → (A → A → Bool) → List A → List A → Bool
same_all same [] [] = true
same_all same [] (y ∷ ys) = false
same_all same (x ∷ xs) [] = false
same_all same (x ∷ xs) (y ∷ ys) = same x y && same_all same xs ys

abbrev pub same_flag : Bool → Bool → Bool
same_flag true b = b
same_flag false b = not b

abbrev pub same_place : Option ℕ → Option ℕ → Bool
same_place None None = true
same_place (Some x) (Some y) = x == y
same_place _ _ = false

abbrev pub same_kind : Kind → Kind → Bool
same_kind Integer Integer = true
same_kind Text Text = true
same_kind _ _ = false

abbrev pub is_null : Value → Bool
is_null Null = true
is_null _ = false

abbrev pub is_binary : Collation → Bool
is_binary Binary = true
is_binary _ = false

abbrev pub is_no_action : Action → Bool
is_no_action NoAction = true
is_no_action _ = false

abbrev pub same_comparison : CompareOp → CompareOp → Bool
same_comparison Eq Eq = true
same_comparison Lt Lt = true
same_comparison Le Le = true
same_comparison Ge Ge = true
same_comparison _ _ = false

abbrev pub same_op : BinaryOp → BinaryOp → Bool
same_op (Compare x how) (Compare y other) = same_comparison x y && is_binary how && is_binary other
same_op And And = true
same_op Or Or = true
same_op _ _ = false

abbrev pub same_term : Term → Term → Bool
same_term (lit (Int m)) (lit (Int n)) = int_eq m n
same_term (col slot i) (col row j) = slot == row && i == j
same_term (op2 x l r) (op2 y m n) = same_op x y && same_term l m && same_term r n
same_term _ _ = false

abbrev pub has_no_stamps : Stamps → Bool
has_no_stamps s = length s.places == 0 && length s.terms == 0 && length s.formats == 0

abbrev pub same_order : Order → Order → Bool
same_order a b = a.digits == b.digits

abbrev pub same_column : Column → Column → Bool
same_column a b =
    bytes_eq a.name b.name && same_kind a.kind b.kind && same_flag a.is_strict b.is_strict
    && same_flag a.not_null b.not_null
    && is_null a.default && is_null b.default && is_binary a.collation && is_binary b.collation

abbrev pub same_reference : Reference → Reference → Bool
same_reference a b =
    bytes_eq a.columns b.columns && bytes_eq a.parent b.parent && same_all bytes_eq a.parent_columns b.parent_columns
    && is_no_action a.on_delete && is_no_action b.on_delete && is_no_action a.on_update && is_no_action b.on_update
    && same_flag a.is_deferred b.is_deferred

abbrev pub same_shape : Table → Table → Bool
same_shape a b =
    bytes_eq a.name b.name && a.tree == b.tree && same_all same_column a.columns b.columns && same_place a.key b.key
    && bytes_eq a.primary b.primary && same_all bytes_eq a.uniques b.uniques && same_all same_order a.orders b.orders

abbrev pub same_rules : Table → Table → Bool
same_rules a b =
    same_all same_term a.checks b.checks && same_all same_reference a.references b.references
    && bytes_eq a.computed b.computed
    && has_no_stamps a.stamps && has_no_stamps b.stamps && same_flag a.is_counted b.is_counted

abbrev pub same_table : Table → Table → Bool
same_table a b = same_shape a b && same_rules a b

abbrev pub same_index : Index → Index → Bool
same_index a b =
    bytes_eq a.name b.name && a.tree == b.tree && a.table == b.table && bytes_eq a.columns b.columns
    && a.order.digits == b.order.digits && same_flag a.is_unique b.is_unique

-- the one is the other without its tables and indexes past the first so many
abbrev pub same_prefix : ℕ → ℕ → Schema → Schema → Bool
same_prefix tables indexes a b =
    same_all same_table a.tables (take tables b.tables) && same_all same_index a.indexes (take indexes b.indexes)
    && length a.views == 0 && length b.views == 0
