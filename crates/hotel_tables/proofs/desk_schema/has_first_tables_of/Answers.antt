use Rattle.hotel_tables.proofs.MemoryDesk.{prefix_is_shown, first_is_taken, has_tables, has_indexes}
use Rattle.std.proofs.Common.{sym, ◌∙◌, arith}
use Rattle.hotel_tables.proofs.desk_schema.has_first_tables_of.Goals as goal

pub same_prefix-requires-clause-tables : goal.same_prefix-requires-clause-tables
same_prefix-requires-clause-tables g c =
    let nine = has_tables _ _ c.schema-2.ensures.value c.requires in omega (arith, nine)

pub same_prefix-requires-clause-indexes : goal.same_prefix-requires-clause-indexes
same_prefix-requires-clause-indexes g c =
    let ten = has_indexes _ _ c.schema-2.ensures.value c.requires in omega (arith, ten)

pub returns-clause-sound : goal.returns-clause-sound
returns-clause-sound g c = λ e.
    prefix_is_shown _ _ _ _ c.schema.ensures.value c.schema-2.ensures.value c.requires (sym c.same_prefix.ensures ∙ e)

pub returns-clause-full : goal.returns-clause-full
returns-clause-full g c = λ e.
    c.same_prefix.ensures ∙ first_is_taken _ _ _ _ c.schema.ensures.value c.schema-2.ensures.value c.requires e
