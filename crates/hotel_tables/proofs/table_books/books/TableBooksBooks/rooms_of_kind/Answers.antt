use Rattle.hotel_tables.proofs.CountedCalls.{asked_in_vain}
use Rattle.hotel_tables.proofs.table_books.books.TableBooksBooks.rooms_of_kind.Goals as goal

pub returns-in_err-ask : goal.returns-in_err-ask
returns-in_err-ask g c = asked_in_vain g.S.Store c.in_err-ask.ensures _ c.from_residual.ensures
