use Rattle.std.proofs.Common.{[], ◌∷◌, List, ℕ, subst}
use Rattle.hotel_statements.specs.Statements.{MakesBy, makes_table}
use Rattle.hotel_statements.specs.NewDesk.{AddsIndex}
use Rattle.hotel_statements.proofs.Makers.{index_added}
use Rattle.hotel_statements.proofs.InTurn.{made_as}
use Rattle.hotel_statements.proofs.indexes.add_index.Goals as goal

pub returns-clause-makes : goal.returns-clause-makes
returns-clause-makes g c =
    let it = subst (λ (text : List ℕ). MakesBy g.S.Store (makes_table text ∷ []) (AddsIndex text)
    c.args.tx.now.conn.now c.make_index.new.tx.conn.now c.make_index.result)
    c.index_text.ensures c.make_index.ensures.makes in
    made_as (index_added c.args.at _ _ c.requires) it
