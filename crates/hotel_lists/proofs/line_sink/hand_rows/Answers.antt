use Rattle.std.proofs.Common.{◌∷◌, ◌+◌, ap, drop, sym, ◌∙◌}
use Rattle.std.proofs.lemmas.List.{drop_more}
use Rattle.hotel_books.proofs.OfCode.Walking.{as_rest, one_more}
use Rattle.hotel_lists.proofs.line_sink.hand_rows.Goals as goal

pub loop-row-preserved : goal.loop-row-preserved
loop-row-preserved g c =
    let rows = c.args.rows.now in
    let i = c.loop-row.row-index in
    let row = c.row-item.result in
    one_more g.S.Sink.after rows row (drop (i + 1) rows) _ _ _
    (as_rest g.S.Sink.after rows (drop i rows) (row ∷ drop (i + 1) rows) _ _
    (drop_more rows i row c.loop-row-test.true ∙ ap (λ r. r ∷ drop (i + 1) rows) (sym c.row-item.is))
    c.loop-row.invariant)
    c.in_ok-take.ensures.taken
