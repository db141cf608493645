use Rattle.std.proofs.Common.{◌≡◌, ◌-◌, ◌+◌, Err, rules, ap, sym, subst, ◌∙◌, arith, filter_map}
use Rattle.hotel_books.proofs.Names.{range_with_len, Hands, chain_row_on}
use Rattle.hotel_books.specs.declared.books.walks.WalkFault.TheVariants.{Stopped}
use Rattle.hotel_books.proofs.OfCode.Walking.{SoFar, one_more, as_rest, made_row, made_none, next_place, stopped}
use Rattle.hotel_memory.proofs.tables.Tables.walk_places.Goals as goal
use Rattle.hotel_memory.proofs.tables.Tables.walk_places.Goals.{in-Some+in_ok-take, in_default}

pub loop-place-preserved : goal.loop-place-preserved
loop-place-preserved g c =
    let row = c.args.row.now in
    let f = chain_row_on c.args.self.now row in
    let place = c.loop-place.place in
    let rows = filter_map f (range_with_len 0 row.codes) in
    let later = range_with_len (place + 1) (row.codes - (place + 1)) in
    let e = ap (filter_map f) (next_place place row.codes (omega arith)) in
    let rest = filter_map f (range_with_len place (row.codes - place)) in
    elim c.match-chain_row.branch [
      | in-Some+in_ok-take w ↦ subst (λ s. SoFar g.S.Sink.after rows (filter_map f later) c.args.sink.now s)
          (sym w.sink-is)
          (one_more g.S.Sink.after rows w.in-Some.link (filter_map f later) _ _ _
          (as_rest g.S.Sink.after rows rest _ _ _
          (e ∙ made_row f place later w.in-Some.link (sym w.in-Some.is ∙ c.chain_row.ensures)) c.loop-place.invariant)
          w.in_ok-take.ensures.taken)
      | in_default w ↦ subst (λ s. SoFar g.S.Sink.after rows (filter_map f later) c.args.sink.now s) (sym w.sink-is)
          (as_rest g.S.Sink.after rows rest _ _ _
          (e ∙ made_none f place later (sym w.in_default.is ∙ c.chain_row.ensures)) c.loop-place.invariant)
    ]

pub returns-in_err-take-clause-hands : goal.returns-in_err-take-clause-hands
returns-in_err-take-clause-hands g c =
    let row = c.args.row.now in
    let f = chain_row_on c.args.self.now row in
    let place = c.loop-place.place in
    let rows = filter_map f (range_with_len 0 row.codes) in
    let later = range_with_len (place + 1) (row.codes - (place + 1)) in
    let rest = filter_map f (range_with_len place (row.codes - place)) in
    let e = ap (filter_map f) (next_place place row.codes (omega arith))
    ∙ made_row f place later c.in-Some.link (sym c.in-Some.is ∙ c.chain_row.ensures) in
    let why : c.from_residual.result ≡ Err Stopped = search rules in
    subst (λ r. Hands g.S.Sink.after g.S.Sink.after_stop rows c.args.sink.now c.take.new.self r) (sym why)
    (stopped g.S.Sink.after g.S.Sink.after_stop rows c.in-Some.link (filter_map f later) _ _ _
    (as_rest g.S.Sink.after rows rest _ _ _ e c.loop-place.invariant) c.in_err-take.ensures.stopped)
