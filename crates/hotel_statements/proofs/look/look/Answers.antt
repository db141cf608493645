use Rattle.std.proofs.Common.{◌∙◌, ap, Err, rules}
use Rattle.hotel_statements.proofs.Looked.{asks_row, looked, look_found, look_lost, look_unchanged, none_unchanged}
use Rattle.hotel_statements.proofs.Looked.{look_failed, look_unread}
use Rattle.hotel_statements.proofs.Unread.{cause_passed}
use Rattle.hotel_statements.proofs.look.look.Goals as goal

pub returns-in_err-from_row-in-Ok : goal.returns-in_err-from_row-in-Ok
returns-in_err-from_row-in-Ok g c =
    let it = asks_row c.requires.books c.requires.asks c.query_row.ensures.row c.query_row.ensures.mode
    c.query_row.ensures.survives in
    let kept = looked it in
    record {
      books = kept.0;
      keeps = kept.1;
      found = search rules;
      unchanged = search rules;
      cause = λ clean. cause_passed c.from_residual.result _ c.from_residual.ensures (λ other.
          look_unread it g.R.FromRow.is_readable c.in-Ok.row c.in-Ok.is
          (c.in_err-from_row-in-Ok.ensures.unread other) clean);
      crash = kept.2;
    }

pub returns-in_ok-from_row-in-Ok : goal.returns-in_ok-from_row-in-Ok
returns-in_ok-from_row-in-Ok g c =
    let it = asks_row c.requires.books c.requires.asks c.query_row.ensures.row c.query_row.ensures.mode
    c.query_row.ensures.survives in
    let kept = looked it in
    record {
      books = kept.0;
      keeps = kept.1;
      found = look_found it g.R.FromRow.of c.in-Ok.row c.in_ok-from_row-in-Ok.field-0 c.in-Ok.is (search rules);
      cause = search rules;
      unchanged = look_unchanged it c.in-Ok.row c.in-Ok.is;
      crash = kept.2;
    }

pub returns-in-Err-QueryReturnedNoRows : goal.returns-in-Err-QueryReturnedNoRows
returns-in-Err-QueryReturnedNoRows g c =
    let it = asks_row c.requires.books c.requires.asks c.query_row.ensures.row c.query_row.ensures.mode
    c.query_row.ensures.survives in
    let kept = looked it in
    let none = c.in-Err-QueryReturnedNoRows.is ∙ ap Err c.in-Err-QueryReturnedNoRows.field-0-is in
    record {
      books = kept.0;
      keeps = kept.1;
      found = look_lost it g.R.FromRow.of none;
      cause = search rules;
      unchanged = none_unchanged it none;
      crash = kept.2;
    }

pub returns-in-Err : goal.returns-in-Err
returns-in-Err g c =
    let it = asks_row c.requires.books c.requires.asks c.query_row.ensures.row c.query_row.ensures.mode
    c.query_row.ensures.survives in
    let kept = looked it in
    record {
      books = kept.0;
      keeps = kept.1;
      found = λ _ _ _. tt;
      unchanged = λ _. tt;
      cause = λ clean cause. look_failed it g.R.FromRow.is_readable c.in-Err.error c.in-Err.is
          (search rules) (λ e. cause (c.fault_of.ensures ∙ e)) clean;
      crash = kept.2;
    }
