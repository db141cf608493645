use Rattle.hotel_model.specs.Rows.{has_kind}
use Rattle.hotel_core.proofs.OfCode.LookUps.{knows}
use Rattle.hotel_core.proofs.commands.look_ups.is_kind.Goals as goal

pub returns : goal.returns
returns g c =
    knows g.met.B.Books.kept_rows (λ rows. has_kind rows c.args.kind.now)
    c.kind-answer.result c.known.result c.kind-answer.ensures c.known.ensures
