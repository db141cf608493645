use Rattle.std.proofs.Common.{List, [], ◌∷◌}
use Rattle.sqlite.specs.Held.{state}
use Rattle.hotel_nights.specs.declared.stay.Stay.{Stay}
use Rattle.hotel_statements.specs.Values.{int}
use Rattle.hotel_statements.specs.Columns.{stay_row_of}
use Rattle.hotel_statements.specs.Texts as text
use Rattle.hotel_statements.specs.Failures.{ListFails, arrivals}
use Rattle.hotel_statements.specs.Walks.{SaysRows, WalksRows}
use Rattle.hotel_statements.proofs.Statements.Walks as walks
use Rattle.hotel_statements.proofs.OfWalks.Single.{arrivals_said}
use Rattle.hotel_statements.proofs.walks.ArrivalsWalkedOverTables.walk_connection.Goals as goal

pub walk-requires-clause-asks : goal.walk-requires-clause-asks
walk-requires-clause-asks g c = (_, walks.walk_arrivals)

pub returns : goal.returns
returns g c =
    let old = state g.S.Store c.args.conn.now in
    let walked : (rows : List Stay) → SaysRows stay_row_of text.walk_arrivals (int c.args.self.now.0 ∷ []) old rows
    → WalksRows (ListFails (arrivals c.args.self.now.0)) g.K.Sink.after g.K.Sink.after_stop rows old (state g.S.Store
    c.walk.new.conn) c.args.sink.now c.walk.new.sink c.walk.result = rw c.dated.ensures at c.walk.ensures in
    walked _ (
      _,
      walks.walk_arrivals,
      λ kept all. arrivals_said old.now.trees (c.requires.books.desk kept).tables c.args.self.now.0 all,
    )
