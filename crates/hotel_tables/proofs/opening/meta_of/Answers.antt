use Rattle.std.proofs.lemmas.Result.{IfErr-weaker, IfOk-weaker}
use Rattle.std.proofs.Common.{subst, sym, List}
use Rattle.hotel_statements.specs.declared.plain_rows.PlainMeta.{PlainMeta}
use Rattle.hotel_tables.specs.Opening.{IsMetaRow, LacksRow, FaultFits}
use Rattle.hotel_tables.proofs.Opened.{lacks_row}
use Rattle.hotel_tables.proofs.opening.meta_of.Goals as goal

pub returns-clause-ok : goal.returns-clause-ok
returns-clause-ok c =
    IfOk-weaker c.meta_row.result _ _
    (λ plain is. subst (λ (meta : List PlainMeta). IsMetaRow c.args.version meta plain) c.deref.ensures.value is)
    c.meta_row.ensures.ok

pub returns-clause-err : goal.returns-clause-err
returns-clause-err c = λ db read. IfErr-weaker c.meta_row.result _ _ (λ why lacks.
    subst (FaultFits ⊥ c.args.version db) (sym lacks.0)
    (lacks_row c.args.version db c.args.tables.now.meta.items read.0.0.0.0
    (subst (λ (meta : List PlainMeta). LacksRow c.args.version meta) c.deref.ensures.value lacks.1)))
    c.meta_row.ensures.err
