use Rattle.hotel_statements.specs.LookUps.{next_numbers_of}
use Rattle.hotel_tables.specs.Causes.{of_numbers}
use Rattle.hotel_tables.proofs.CountedCalls.{asked_in_vain, looked_up}
use Rattle.hotel_tables.proofs.table_books.books.TableBooksBooks.next_numbers.Goals as goal

pub returns : goal.returns
returns g c =
    looked_up g.S.Store _ c.in_ok-ask.ensures next_numbers_of (λ _ _. of_numbers) c.self.view_is c.counting.ensures
    c.next_numbers-numbers.ensures

pub returns-in_err-ask : goal.returns-in_err-ask
returns-in_err-ask g c = asked_in_vain g.S.Store c.in_err-ask.ensures _ c.from_residual.ensures
