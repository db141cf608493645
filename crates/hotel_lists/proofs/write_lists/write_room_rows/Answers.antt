use Rattle.std.proofs.Common.{[], ◌++◌, Some, Bool, subst, sym}
use Rattle.hotel_books.proofs.Names.{Rows}
use Rattle.keycard_rules.proofs.CallsTogether.{passes_join, together}
use Rattle.hotel_lists.specs.Listings.{ListEnds, listing, of_room}
use Rattle.hotel_lists.proofs.ToldLemmas.{answered_clean, room_there, told_both}
use Rattle.hotel_lists.proofs.write_lists.write_room_rows.Goals as goal

pub returns-clause-list : goal.returns-clause-list
returns-clause-list g c =
    let found = c.in_ok-find_room.ensures in
    let wrote = c.write_rows.ensures.list.written in
    let later = (together g.B.Kept _ _ wrote.books.told wrote.books.calls).since in
    let old = g.W.Write.contents c.args.writer.now in
    let new = g.W.Write.contents c.write_rows.new.writer in
    let rows = g.L.Listed.rows_on c.args.list.now (g.B.Books.rows c.args.books.now) in
    let line = g.L.Row.RowLine.line in
    record {
      text = λ honest.
          let before = later.was_honest honest in
          let same = g.met.B.Books.kept_rows _ _ (found.books.kept (answered_clean g.B.Kept found.books before)) in
          subst (λ (b : Bool). ListEnds [] (of_room b (listing g.L.Row.RowLine.header line rows)) old new
          c.write_rows.result) (sym (room_there _ (found.room before)))
          (subst (λ (rs : Rows). ListEnds []
          (Some (listing g.L.Row.RowLine.header line (g.L.Listed.rows_on c.args.list.now rs)))
          old new c.write_rows.result) same (wrote.text honest));
      books = record {
        kept = λ clean.
            g.B.Kept.kept_trans _ _ _ (found.books.kept (later.was_clean clean)) (wrote.books.kept clean);
        stop = g.B.Kept.no_more_trans _ _ _ found.books.stop wrote.books.stop;
        told = found.books.told ++ wrote.books.told;
        calls = passes_join _ _ _ _ found.books.told wrote.books.told found.books.calls wrote.books.calls;
        tells = told_both c.write_rows.result found.books.told wrote.books.told found.books.tells wrote.books.tells;
      };
    }
