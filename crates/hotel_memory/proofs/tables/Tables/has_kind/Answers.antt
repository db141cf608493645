use Rattle.std.proofs.Common.{ap, ◌∙◌}
use Rattle.hotel_model.specs.Rows.{Rows, has_kind}
use Rattle.hotel_memory.proofs.tables.Tables.has_kind.Goals as goal

pub returns : goal.returns
returns c = c.has.ensures ∙ ap (λ (rows : Rows). has_kind rows c.args.kind.now) c.self.view_is
