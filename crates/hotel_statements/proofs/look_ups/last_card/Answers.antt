use Rattle.std.proofs.Common.{refl, []}
use Rattle.std.specs.Prelude.{unwrap_or}
use Rattle.std.proofs.lemmas.Result.{IfOk-weaker}
use Rattle.keycard_rules.specs.declared.card.Card.{Card}
use Rattle.sqlite.specs.Held.{state}
use Rattle.hotel_statements.specs.Trees.{card_tree}
use Rattle.hotel_statements.specs.Columns.{card_columns, card_of, card_written}
use Rattle.hotel_statements.specs.Texts as text
use Rattle.hotel_statements.proofs.Statements.Selects as selects
use Rattle.hotel_statements.proofs.Last.{last_finds}
use Rattle.hotel_statements.proofs.Keyed.{looks_to}
use Rattle.hotel_statements.proofs.look_ups.last_card.Goals as goal

pub look-requires-clause-asks : goal.look-requires-clause-asks
look-requires-clause-asks g c = (_, selects.select_last_card)

pub returns : goal.returns
returns g c =
    let old = state g.S.Store c.args.conn.now in
    looks_to text.select_last_card [] old
    (state g.S.Store c.look.new.conn) _ _ c.look.result c.look.result (λ o. unwrap_or o 0) _
    c.requires.books c.look.ensures.books c.look.ensures.keeps c.look.ensures.found c.look.ensures.unchanged
    c.look.ensures.cause c.look.ensures.crash selects.select_last_card
    (λ kept tables. IfOk-weaker c.look.result _ _ (λ o a. last_finds Card card_tree card_columns card_of card_written
    old.now.trees tables.card (λ r. refl) (λ e. refl) (c.requires.numbered kept) o a))
