use Rattle.hotel_model.specs.Refinement.Lookups.{stays_of_kind}
use Rattle.hotel_tables.specs.Causes.{of_stays}
use Rattle.hotel_tables.proofs.CountedCalls.{asked_in_vain, looked_up}
use Rattle.hotel_tables.proofs.table_books.books.TableBooksBooks.stays_of_kind.Goals as goal

pub returns : goal.returns
returns g c =
    looked_up g.S.Store _ c.in_ok-ask.ensures (λ rows. stays_of_kind rows c.args.kind.now)
    (λ _ _. of_stays c.args.kind.now) c.self.view_is c.counting.ensures c.stays_of_kind-stays.ensures

pub returns-in_err-ask : goal.returns-in_err-ask
returns-in_err-ask g c = asked_in_vain g.S.Store c.in_err-ask.ensures _ c.from_residual.ensures
