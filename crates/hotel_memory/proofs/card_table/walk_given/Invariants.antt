use Rattle.std.specs.Prelude.{◌==◌, drop, filter}
use Rattle.hotel_books.proofs.OfCode.Walking.{SoFar}
use Rattle.hotel_memory.proofs.card_table.walk_given.Given as goal

abbrev pub invariant-loop-card : goal.invariant-loop-card
invariant-loop-card g l = SoFar g.S.Sink.after (filter (λ card. card.party == l.fn.party) l.cards)
    (filter (λ card. card.party == l.fn.party) (drop l.card-index l.cards)) l.initial.sink l.sink
