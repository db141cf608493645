use Rattle.std.proofs.Common.{Err, [], ◌∷◌, refl, rules, sym, ◌∙◌}
use Rattle.hotel_books.proofs.Names.{failure_of}
use Rattle.hotel_lists.specs.declared.fault.ListFault.TheVariants.{Write}
use Rattle.hotel_streams.proofs.CallsLemmas.{then_none_forgotten}
use Rattle.hotel_lists.proofs.LinesWritten.{Ends, cut_ends, prefix_of_first, list_ended, list_written, walk_told}
use Rattle.hotel_lists.proofs.write_lists.write_rows.Goals as goal

pub returns-in_err-write_bytes-clause-list : goal.returns-in_err-write_bytes-clause-list
returns-in_err-write_bytes-clause-list g c = record {
  written = record {
    text = λ honest.
        let said : Ends g.L.Row.RowLine.line (g.W.Write.contents c.args.writer.now)
        (g.W.Write.contents c.write_bytes.new.writer) g.L.Row.RowLine.header
        (g.L.Listed.rows_on c.args.list.now (g.B.Books.rows c.args.books.now)) (Err Write) =
        cut_ends g.L.Row.RowLine.line _ _ g.L.Row.RowLine.header
        (g.L.Listed.rows_on c.args.list.now (g.B.Books.rows c.args.books.now))
        (prefix_of_first _ _ g.L.Row.RowLine.header _
        (rw c.header.ensures at c.in_err-write_bytes.ensures.writes.err)) in
        search rules;
    books = record {
      kept = λ clean. g.B.Kept.kept_refl _;
      stop = g.B.Kept.no_more_refl _;
      told = [];
      calls = refl;
      tells = search rules;
    };
  };
  no_room = search rules;
}

pub returns-clause-list : goal.returns-clause-list
returns-clause-list g c =
    let walked = c.walk-walked.ensures in
    let (handed, hands, all) = walked.hands in
    let (same, _) = list_ended g.W.Write.contents g.L.Row.RowLine.line handed _ _ _ _ _ _ hands
    c.finish-end.ensures.same c.finish-end.ensures.ends c.listed.ensures in
    record {
      written = record {
        text = λ honest.
            let written = list_written g.W.Write.contents g.L.Row.RowLine.line _ g.L.Row.RowLine.header _ handed
            _ _ _ _ _ (rw c.new-lines.ensures.unwritten (rw c.header.ensures at c.in_ok-write_bytes.ensures.writes.ok))
            (c.new-lines.ensures.gathered ∙ c.none-gathered.ensures) (all honest) hands c.finish-end.ensures.ends in
            let said : Ends g.L.Row.RowLine.line (g.W.Write.contents c.args.writer.now)
            (g.W.Write.contents c.finish-end.new.self.writer.now) g.L.Row.RowLine.header
            (g.L.Listed.rows_on c.args.list.now (g.B.Books.rows c.args.books.now)) c.listed.result =
            rw c.listed.ensures written in
            let back = sym (same.writer ∙ c.new-lines.ensures.same_writer) in
            search rules;
        books = record {
          kept = walked.looks.kept;
          stop = walked.looks.stop;
          told = failure_of c.walk-walked.result ∷ [];
          calls = (_, walked.looks.leaves, refl);
          tells = walk_told g.W.Write.contents _ _ c.walk-walked.result c.finish-end.result c.listed.result
              c.finish-end.ensures.ends c.listed.ensures;
        };
      };
      no_room = search rules;
    }

pub returns-clause-calls : goal.returns-clause-calls
returns-clause-calls g c =
    let (handed, hands, _) = c.walk-walked.ensures.hands in
    let (same, failed) = list_ended g.W.Write.contents g.L.Row.RowLine.line handed _ _ _ _ _ _ hands
    c.finish-end.ensures.same c.finish-end.ensures.ends c.listed.ensures in
    let none = then_none_forgotten _ _ _ (rw (← c.new-lines.ensures.uncalled) at
    c.in_ok-write_bytes.ensures.writes.calls.none_forgotten) same.none_forgotten in
    let back = sym (same.calls ∙ c.new-lines.ensures.same_calls) in
    record { failed = λ e. let now = failed e in search rules; none_forgotten = search rules }
