use Rattle.sqlite.specs.Held.{state}
use Rattle.hotel_tables.specs.Causes.{of_list}
use Rattle.hotel_tables.proofs.CountedCalls.{still_tabled, walked, walked_in_vain}
use Rattle.hotel_tables.proofs.table_books.walks.TableBooksWalksOf.walk.Goals as goal

pub walk_connection-end-requires-clause-counted : goal.walk_connection-end-requires-clause-counted
walk_connection-end-requires-clause-counted g c =
    λ kept. let it = c.self.invariant.counted kept in record { rooms = it.rooms; stays = it.stays }

pub invariant_of-self : goal.invariant_of-self
invariant_of-self g c =
    let end = c.walk_connection-end.ensures in
    still_tabled (state g.S.Store c.self.inside.conn) _ c.self.invariant end.books end.keeps

pub returns : goal.returns
returns g c =
    walked g.S.Store _ c.in_ok-ask.ensures (g.L.Listed.rows_on c.args.list.now)
    (λ _ _. of_list (g.L.WalkedOverTables.named c.args.list.now)) c.self.view_is
    c.counting_walk.ensures c.walk_connection-end.ensures

pub returns-in_err-ask : goal.returns-in_err-ask
returns-in_err-ask g c = walked_in_vain g.S.Store c.in_err-ask.ensures _ c.from_residual.ensures.1
