use Rattle.hotel_model.specs.Refinement.Lookups.{code_place}
use Rattle.hotel_tables.specs.Causes.{of_code}
use Rattle.hotel_tables.proofs.CountedCalls.{asked_in_vain, looked_up}
use Rattle.hotel_tables.proofs.table_books.books.TableBooksBooks.code_place.Goals as goal

pub returns : goal.returns
returns g c =
    looked_up g.S.Store _ c.in_ok-ask.ensures (λ rows. code_place rows c.args.code) (λ _ _. of_code c.args.code)
    c.self.view_is c.counting.ensures c.code_place-place.ensures

pub returns-in_err-ask : goal.returns-in_err-ask
returns-in_err-ask g c = asked_in_vain g.S.Store c.in_err-ask.ensures _ c.from_residual.ensures
