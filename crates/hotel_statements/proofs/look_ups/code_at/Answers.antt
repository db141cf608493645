use Rattle.std.proofs.Common.{[], ◌∷◌, IfOk}
use Rattle.std.proofs.lemmas.Result.{IfOk-weaker}
use Rattle.sqlite.specs.Order.{column}
use Rattle.sqlite.specs.Query.{Query}
use Rattle.sqlite.specs.Held.{state}
use Rattle.hotel_statements.specs.Values.{int, number_of}
use Rattle.hotel_statements.specs.Books.{IsKept}
use Rattle.hotel_statements.specs.LookUps.{Asks, AnswersFirst, HasCause}
use Rattle.hotel_statements.specs.Failures.{CodeAtFails}
use Rattle.hotel_statements.specs.Texts as text
use Rattle.hotel_statements.proofs.Statements.Selects as selects
use Rattle.hotel_statements.proofs.Keyed.{looks_to}
use Rattle.hotel_statements.proofs.Lists.{code_at_finds}
use Rattle.hotel_statements.proofs.look_ups.code_at.Goals as goal

pub look-requires-clause-asks : goal.look-requires-clause-asks
look-requires-clause-asks g c = (_, selects.select_code_at)

pub returns : goal.returns
returns g c =
    let old = state g.S.Store c.args.conn.now in
    let new = state g.S.Store c.look.new.conn in
    let finds : IsKept new → (p : Query) → Asks text.select_code_at p
    → IfOk c.look.result (AnswersFirst (λ v. number_of (column v 0)) p
    (int c.args.room ∷ int c.args.place ∷ []) old.now.trees) =
    rw (c.small.ensures, c.small-2.ensures, c.value.ensures.same) at c.look.ensures.found in
    let cause : HasCause (CodeAtFails c.args.room c.args.place) old new c.look.result =
    rw (c.small.ensures, c.small-2.ensures, c.value.ensures.same) at c.look.ensures.cause in
    looks_to text.select_code_at (int c.args.room ∷ int c.args.place ∷ []) old new
    (λ v. number_of (column v 0)) _ c.look.result c.look.result
    (λ a. a) _ c.requires c.look.ensures.books c.look.ensures.keeps finds c.look.ensures.unchanged cause
    c.look.ensures.crash selects.select_code_at
    (λ kept tables. IfOk-weaker c.look.result _ _
    (λ o a. code_at_finds old.now.trees tables c.args.room c.args.place o a))
