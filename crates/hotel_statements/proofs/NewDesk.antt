-- The row of meta is added to nine empty tables.
use Rattle.std.proofs.Common.{if◌then◌else◌, ◌==◌, ◌≡◌, refl, sym, ap, ap₂, subst, ◌∙◌, [], ◌∷◌, ℕ, pos, None, Ok}
use Rattle.std.proofs.Common.{IsTrue}
use Rattle.sqlite_value.specs.declared.value.Value.TheVariants.{Null}
use Rattle.sqlite_keyed.proofs.ListLemmas.{all_both}
use Rattle.sqlite_trees.specs.Tree.{with_tree}
use Rattle.sqlite.specs.Order.{Row}
use Rattle.sqlite.specs.Table.{Table}
use Rattle.sqlite.specs.Tree.{Trees, put_row}
use Rattle.sqlite.specs.State.{State, ExecutesInside}
use Rattle.hotel_statements.specs.Trees.{meta_tree}
use Rattle.hotel_statements.specs.Schema.{desk_schema, meta_table}
use Rattle.hotel_statements.specs.Texts.{insert_meta}
use Rattle.hotel_statements.specs.Values.{int}
use Rattle.hotel_statements.specs.Tables.{AreTables}
use Rattle.hotel_statements.specs.NewDesk.{IsBare, IsMade}
use Rattle.hotel_statements.proofs.Statements.Changes as changes
use Rattle.hotel_statements.proofs.Writing.{cast_null, cast_int}
use Rattle.hotel_statements.proofs.Made.Desk.{Same, same_desk}
use Rattle.hotel_statements.proofs.Made.Inserts.{Put, put}

abbrev meta_row : Row
meta_row = int 1 ∷ Null ∷ int 2 ∷ Null ∷ []

-- the trees of the empty desk
abbrev first : Trees
first = with_tree (λ _. []) meta_tree (meta_row ∷ [])

first_tables : AreTables first
first_tables = record {
  meta = record { good = (refl, tt); apart = (tt, tt) };
  meta_row = (None, refl);
  kind = record { good = tt; apart = tt };
  room = record { good = tt; apart = tt };
  stay = record { good = tt; apart = tt };
  code = record { good = tt; apart = tt };
  card = record { good = tt; apart = tt };
  inside = record { good = tt; apart = tt };
  inside_numbered = tt;
  inside_ids = tt;
  note = record { good = tt; apart = tt };
  fit = record { good = tt; apart = tt };
}

pub enters_meta : (old new : State) (count : ℕ)
    → ExecutesInside 0 insert_meta [] old new (Ok count) → (IsTrue old.is_open → IsBare desk_schema old) → IsMade new
enters_meta old new count h bare =
    let was = bare h.1.was_open in
    let db = old.now.trees in
    let next = new.now.trees in
    let did : Put meta_tree meta_row old new = put meta_tree meta_table [] meta_row meta_row old new count
    changes.insert_meta (λ _ does. does) refl (rw (cast_null, cast_int (pos 1), cast_int (pos 2)) refl) was.schema_is
    h.0 in
    let same : Same first next = all_both (λ (t : Table). next t.tree ≡ with_tree db meta_tree (put_row meta_row
    (db meta_tree)) t.tree) (λ t. db t.tree ≡ []) (λ t. next t.tree ≡ first t.tree)
    (λ t is none. is ∙ ap₂ (λ own others. if t.tree == meta_tree then own else others)
    (ap (put_row meta_row) was.empty.0) none) desk_schema.tables did.changes.trees was.empty in
    let desk = same_desk first next same first_tables in
    record {
      inside = subst IsTrue (sym h.1.mode) refl;
      schema_is = did.changes.schema;
      empty = record { tables = desk.0; no_rows_are = desk.1 };
    }
