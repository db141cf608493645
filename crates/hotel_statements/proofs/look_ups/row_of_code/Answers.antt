use Rattle.std.proofs.Common.{[], ◌∷◌, IfOk}
use Rattle.std.proofs.lemmas.Result.{IfOk-weaker}
use Rattle.sqlite.specs.Query.{Query}
use Rattle.sqlite.specs.Held.{state}
use Rattle.hotel_statements.specs.Values.{int}
use Rattle.hotel_statements.specs.Columns.{code_row_of}
use Rattle.hotel_statements.specs.Books.{IsKept}
use Rattle.hotel_statements.specs.LookUps.{Asks, AnswersFirst, HasCause}
use Rattle.hotel_statements.specs.Failures.{CodeFails}
use Rattle.hotel_statements.specs.Texts as text
use Rattle.hotel_statements.proofs.Statements.Selects as selects
use Rattle.hotel_statements.proofs.Keyed.{looks_to}
use Rattle.hotel_statements.proofs.Finds.{code_finds}
use Rattle.hotel_statements.proofs.look_ups.row_of_code.Goals as goal

pub look-requires-clause-asks : goal.look-requires-clause-asks
look-requires-clause-asks g c = (_, selects.select_code)

pub returns : goal.returns
returns g c =
    let old = state g.S.Store c.args.conn.now in
    let new = state g.S.Store c.look.new.conn in
    let finds : IsKept new → (p : Query)
    → Asks text.select_code p → IfOk c.look.result (AnswersFirst (code_row_of) p (int c.args.code ∷ []) old.now.trees) =
    rw (c.number.ensures, c.value.ensures.same) at c.look.ensures.found in
    let cause : HasCause (CodeFails c.args.code) old new c.look.result =
    rw (c.number.ensures, c.value.ensures.same) at c.look.ensures.cause in
    looks_to text.select_code (int c.args.code ∷ []) old new (code_row_of) _ c.look.result c.look.result
    (λ a. a) _ c.requires c.look.ensures.books c.look.ensures.keeps finds c.look.ensures.unchanged cause
    c.look.ensures.crash selects.select_code
    (λ kept tables. IfOk-weaker c.look.result _ _ (λ o a. code_finds old.now.trees tables c.args.code o a))
