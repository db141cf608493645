use Rattle.std.proofs.Common.{sym, ap, ◌∙◌, subst, []}
use Rattle.std.proofs.lemmas.Bool.{false≢true}
use Rattle.sqlite.specs.Held.{state}
use Rattle.hotel_model.specs.Rows.{Rows}
use Rattle.hotel_statements.specs.Tables.{rows_in}
use Rattle.hotel_tables.specs.TableBooks.{IsCounted}
use Rattle.hotel_tables.specs.Opening.{fault_for}
use Rattle.hotel_tables.proofs.EmptyDesk.{empty_counted}
use Rattle.hotel_tables.proofs.table_books.TableBooks.create_or_return.Goals as goal

pub invariant_of-result : goal.invariant_of-result
invariant_of-result g c = record {
  books = c.in_default.ensures.books;
  counted = λ kept.
      let rows : Rows = rows_in (state g.S.Store c.make_desk.new.conn).now.trees in
      let none = empty_counted rows (c.in_default.ensures.made kept).no_rows_are in
      subst (λ kinds. IsCounted kinds c.empty-2.result rows) (sym c.empty.ensures)
      (subst (λ nights. IsCounted [] nights rows) (sym c.empty-2.ensures) none);
  answered = λ clean yes. absurd (false≢true yes);
}

pub returns-in-Err-clause-left : goal.returns-in-Err-clause-left
returns-in-Err-clause-left g c = λ bare. record {
  outside = c.in-Err.ensures.outside;
  same = λ kept. (c.in-Err.ensures.was kept, c.in-Err.ensures.same kept);
  crash = c.in-Err.ensures.crash;
  error = c.in-Err.error;
  told = c.open_fault.ensures ∙ ap fault_for c.fault_of.ensures;
  failed = c.in-Err.ensures.failed;
}
