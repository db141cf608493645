use Rattle.std.proofs.Common.{Ok, ap, ◌-◌, ◌∙◌, refl, arith}
use Rattle.sqlite.specs.Effect.{Database}
use Rattle.sqlite.specs.Held.{state}
use Rattle.hotel_model.specs.Refinement.Lookups.{first_full_on}
use Rattle.hotel_statements.specs.Tables.{rows_in}
use Rattle.hotel_tables.proofs.OverBooks.{night_found}
use Rattle.hotel_tables.proofs.CountedCalls.{asked_first, asked_in_vain}
use Rattle.hotel_tables.proofs.table_books.books.TableBooksBooks.full_night.Goals as goal

pub returns : goal.returns
returns g c =
    let asked = c.in_ok-ask.ensures in
    asked_first g.S.Store c.ask.new.self (Ok c.full_night.result) asked refl (λ cause. omega arith) (λ cause. refl)
    (λ store. cc) (λ kept.
    night_found (state g.S.Store) _ c.ask.new.self c.self.view_is c.args.kind.now c.rooms-rooms.result c.args.arrive
    c.args.depart c.full_night.result c.self.invariant.counted c.rooms-rooms.ensures c.full_night.ensures kept
    ∙ ap (λ (d : Database). first_full_on (rows_in d.trees) c.args.kind.now c.args.arrive (c.args.depart -
    c.args.arrive)) (asked.ready.keeps kept).1)

pub returns-in_err-ask : goal.returns-in_err-ask
returns-in_err-ask g c = asked_in_vain g.S.Store c.in_err-ask.ensures _ c.from_residual.ensures
