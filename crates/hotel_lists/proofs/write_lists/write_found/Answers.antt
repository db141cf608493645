use Rattle.std.proofs.Common.{refl, rules, sym, ◌∙◌}
use Rattle.hotel_streams.proofs.CallsLemmas.{then_none_forgotten}
use Rattle.hotel_lists.proofs.LinesWritten.{Ends, list_ended, list_written}
use Rattle.hotel_lists.proofs.write_lists.write_found.Goals as goal

pub returns-clause-text : goal.returns-clause-text
returns-clause-text g c =
    let hands = c.hand_rows-handed.ensures.hands in
    let (same, _) = list_ended g.W.Write.contents g.R.RowLine.line c.args.rows.now _ _ _ _ _ _ hands
    c.finish-end.ensures.same c.finish-end.ensures.ends c.listed.ensures in
    let written = list_written g.W.Write.contents g.R.RowLine.line _ g.R.RowLine.header _ c.args.rows.now _ _ _ _ _
    (rw c.new-lines.ensures.unwritten (rw c.header.ensures at c.in_ok-write_bytes.ensures.writes.ok))
    (c.new-lines.ensures.gathered ∙ c.none-gathered.ensures) refl hands c.finish-end.ensures.ends in
    let said : Ends g.R.RowLine.line (g.W.Write.contents c.args.writer.now)
    (g.W.Write.contents c.finish-end.new.self.writer.now) g.R.RowLine.header c.args.rows.now c.listed.result =
    rw c.listed.ensures written in
    let back = sym (same.writer ∙ c.new-lines.ensures.same_writer) in
    search rules

pub returns-clause-calls : goal.returns-clause-calls
returns-clause-calls g c =
    let hands = c.hand_rows-handed.ensures.hands in
    let (same, failed) = list_ended g.W.Write.contents g.R.RowLine.line c.args.rows.now _ _ _ _ _ _ hands
    c.finish-end.ensures.same c.finish-end.ensures.ends c.listed.ensures in
    let none = then_none_forgotten _ _ _ (rw (← c.new-lines.ensures.uncalled) at
    c.in_ok-write_bytes.ensures.writes.calls.none_forgotten) same.none_forgotten in
    let back = sym (same.calls ∙ c.new-lines.ensures.same_calls) in
    record { failed = λ e. let now = failed e in search rules; none_forgotten = search rules }
