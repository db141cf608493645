use Rattle.std.proofs.Common.{List, [], ◌∷◌}
use Rattle.sqlite.specs.Held.{state}
use Rattle.keycard_rules.specs.declared.card.Card.{Card}
use Rattle.hotel_statements.specs.Values.{int}
use Rattle.hotel_statements.specs.Columns.{card_row_of}
use Rattle.hotel_statements.specs.Texts as text
use Rattle.hotel_statements.specs.Failures.{ListFails, cards_given}
use Rattle.hotel_statements.specs.Walks.{SaysRows, WalksRows}
use Rattle.hotel_statements.proofs.Statements.Walks as walks
use Rattle.hotel_statements.proofs.OfWalks.Given.{cards_said}
use Rattle.hotel_statements.proofs.walks.CardsGivenWalkedOverTables.walk_connection.Goals as goal

pub walk-requires-clause-asks : goal.walk-requires-clause-asks
walk-requires-clause-asks g c = (_, walks.walk_cards_given)

pub returns : goal.returns
returns g c =
    let old = state g.S.Store c.args.conn.now in
    let walked : (rows : List Card) → SaysRows card_row_of text.walk_cards_given (int c.args.self.now.0 ∷ []) old rows
    → WalksRows (ListFails (cards_given c.args.self.now.0)) g.K.Sink.after g.K.Sink.after_stop rows old (state g.S.Store
    c.walk.new.conn) c.args.sink.now c.walk.new.sink c.walk.result = rw c.numbered.ensures at c.walk.ensures in
    walked _ (
      _,
      walks.walk_cards_given,
      λ kept all. cards_said old.now.trees (c.requires.books.desk kept).tables c.args.self.now.0 all,
    )
