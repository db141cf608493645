-- A connection that shows the tables of a desk.
use Rattle.std.proofs.Common.{◌≡◌, sym, ap, subst, ◌∙◌}
use Rattle.sqlite.specs.Effect.{Database}
use Rattle.sqlite.specs.State.{State}
use Rattle.hotel_statements.specs.declared.version.Layout.{Layout}
use Rattle.hotel_statements.specs.Schema.{schema_of, version_of}
use Rattle.hotel_statements.specs.Tables.{AreTablesOf}
use Rattle.hotel_statements.specs.Books.{IsDeskOf}

-- what it shows is a desk's, and it is all committed
pub desk_shown : {layout : Layout} {s : State} {db : Database} → db.schema ≡ schema_of layout
    → AreTablesOf (version_of layout) db.trees → s.now ≡ db → s.now ≡ s.committed → IsDeskOf layout s
desk_shown {layout} schema tables now settled = record {
  schema = ap (λ (d : Database). d.schema) now ∙ schema;
  settled = settled;
  tables = subst (λ (d : Database). AreTablesOf (version_of layout) d.trees) (sym now) tables;
}
