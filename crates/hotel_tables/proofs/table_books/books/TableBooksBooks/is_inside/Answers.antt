use Rattle.hotel_model.specs.Refinement.Lookups.{inside_at}
use Rattle.hotel_model.specs.Words.{is_one_of}
use Rattle.hotel_tables.specs.Causes.{of_is_inside}
use Rattle.hotel_tables.proofs.CountedCalls.{asked_in_vain, looked_up}
use Rattle.hotel_tables.proofs.table_books.books.TableBooksBooks.is_inside.Goals as goal

pub returns : goal.returns
returns g c =
    looked_up g.S.Store _ c.in_ok-ask.ensures (λ rows. is_one_of c.args.number (inside_at rows c.args.room))
    (λ _ _. of_is_inside c.args.room c.args.number) c.self.view_is c.counting.ensures c.is_inside-inside.ensures

pub returns-in_err-ask : goal.returns-in_err-ask
returns-in_err-ask g c = asked_in_vain g.S.Store c.in_err-ask.ensures _ c.from_residual.ensures
