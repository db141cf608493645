use Rattle.std.proofs.Common.{[], ◌∷◌, refl}
use Rattle.sqlite_value.specs.declared.value.Value.TheVariants.{Text}
use Rattle.hotel_statements.proofs.InTurn.{writes_row}
use Rattle.hotel_statements.proofs.Made.Inserts.{kind_step}
use Rattle.hotel_statements.proofs.steps.insert_kind.Goals as goal

pub returns-clause-makes : goal.returns-clause-makes
returns-clause-makes g c = writes_row (Text c.args.kind.now ∷ []) c.run.ensures.runs c.run.ensures.answers
    (kind_step _ _ c.args.kind.now) (rw (c.text.ensures, c.as_bytes.ensures.same) refl)
