-- A desk whose files are opened again, and connections that are always clean.
use Rattle.std.proofs.Common.{◌≡◌, sym, ap, subst, ◌∙◌}
use Rattle.sqlite_disk.specs.declared.Disk.{Ghosts}
use Rattle.sqlite_trees.specs.Tree.{Trees}
use Rattle.sqlite_trees.specs.Objects.{catalog_tree}
use Rattle.sqlite_trees.proofs.Doubt.{no_doubt}
use Rattle.sqlite_catalog.specs.Listing.{IsSound}
use Rattle.sqlite_catalog.proofs.ReadLemmas.{lists_once}
use Rattle.sqlite_pool.proofs.StateLemmas.{clean_is}
use Rattle.sqlite.specs.Effect.{Database}
use Rattle.sqlite.specs.Files.{file_state}
use Rattle.sqlite.proofs.Callers.{finds_again}
use Rattle.hotel_model.proofs.OfTables.RowTests.{both}
use Rattle.hotel_statements.specs.Schema.{desk_schema}
use Rattle.hotel_statements.specs.Tables.{AreTables}
use Rattle.hotel_tables.specs.Reopening.{FilesKeepBooks, FilesAreClean}

pub files_keep_books : {D : Type 0} {g : Ghosts D} → FilesKeepBooks g
files_keep_books old again files books live copied opened found clean =
    let was = file_state old in
    let is = file_state again in
    let desk = books.desk (copied.was_clean, copied.was_open) in
    let trees : is.now.trees ≡ was.now.trees =
    ap (λ (d : Database). d.trees) opened.0.clean ∙ finds_again old again files (λ _. copied) found
    ∙ sym (ap (λ (d : Database). d.trees) desk.settled) in
    let there : IsSound desk_schema was.now.trees =
    subst (λ s. IsSound s was.now.trees) desk.schema (live copied.was_open).0 in
    let here : IsSound is.now.schema was.now.trees =
    subst (λ (t : Trees). IsSound is.now.schema t) trees (opened.1 opened.0.is_open).0 in
    let schema : is.now.schema ≡ desk_schema =
    lists_once (was.now.trees catalog_tree) is.now.schema desk_schema here.lists there.lists in (
      (clean, opened.0.is_open),
      record {
        autocommit = opened.0.autocommit;
        desk =
            λ _. record { schema = schema; settled = opened.0.clean; tables = subst AreTables (sym trees) desk.tables };
      },
      λ i. record { schema = (schema ∙ sym desk.schema) i; trees = trees i },
    )

pub files_are_clean : {D : Type 0} {g : Ghosts D} → FilesAreClean g
files_are_clean clean c = no_doubt _ (clean_is c.store.pool ∙ both _ _ (clean _) (clean _))
