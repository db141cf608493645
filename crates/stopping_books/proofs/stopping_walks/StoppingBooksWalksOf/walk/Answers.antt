use Rattle.std.proofs.Common.{rules}
use Rattle.stopping_books.proofs.HandedOn.{walked}
use Rattle.stopping_books.proofs.stopping_walks.StoppingBooksWalksOf.walk.Goals as goal

pub returns : goal.returns
returns g c =
    let walk = walked g.S.Sink.after g.S.Sink.after_stop (g.L.Listed.rows_on c.args.list.now) c.ended.new.self
    c.ended.result _ _ _ _ c.self.view_is c.new-passing.ensures.same_sink c.new-passing.ensures.untouched
    c.walk-end.ensures.hands c.ended.ensures.ends (search rules) (search rules) in
    record { hands = search rules; looks = walk.1.looks }
