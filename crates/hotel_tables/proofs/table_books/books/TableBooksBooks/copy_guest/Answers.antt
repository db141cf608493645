use Rattle.std.proofs.Common.{rules}
use Rattle.hotel_tables.proofs.CountedCalls.{asked_first, asked_in_vain}
use Rattle.hotel_tables.proofs.table_books.books.TableBooksBooks.copy_guest.Goals as goal

pub returns : goal.returns
returns g c =
    asked_first g.S.Store c.counting.new.self c.counting.result c.in_ok-ask.ensures c.counting.ensures.conn
    c.counting.ensures.no_fewer c.counting.ensures.counted (search rules) (search rules)

pub returns-in_err-ask : goal.returns-in_err-ask
returns-in_err-ask g c = asked_in_vain g.S.Store c.in_err-ask.ensures _ c.from_residual.ensures
