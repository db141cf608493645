use Rattle.std.proofs.Common.{◌∙◌, ap}
use Rattle.std.specs.Prelude.{is_some}
use Rattle.sqlite.specs.Held.{state}
use Rattle.hotel_statements.specs.Tables.{rows_in}
use Rattle.hotel_statements.proofs.Finds.{issued_where_found}
use Rattle.hotel_statements.proofs.look_ups.is_issued.Goals as goal

pub returns : goal.returns
returns g c =
    let old = state g.S.Store c.args.conn.now in
    record {
      books = c.in_ok-place.ensures.books;
      keeps = c.in_ok-place.ensures.keeps;
      found = λ kept. c.is_some.ensures ∙ ap is_some (c.in_ok-place.ensures.found kept)
          ∙ issued_where_found c.args.number (rows_in old.now.trees);
      open_on = c.in_ok-place.ensures.open_on;
      unchanged = c.in_ok-place.ensures.unchanged;
      cause = λ _. tt;
      crash = c.in_ok-place.ensures.crash;
    }
