use Rattle.std.proofs.Common.{[], ◌∷◌, IfOk}
use Rattle.std.proofs.lemmas.Result.{IfOk-weaker}
use Rattle.sqlite.specs.Order.{column}
use Rattle.sqlite.specs.Query.{Query}
use Rattle.sqlite.specs.Held.{state}
use Rattle.hotel_statements.specs.Values.{int, number_of}
use Rattle.hotel_statements.specs.Books.{IsKept}
use Rattle.hotel_statements.specs.LookUps.{Asks, AnswersAll, HasCause}
use Rattle.hotel_statements.specs.Failures.{InsideFails}
use Rattle.hotel_statements.proofs.Keyed.{open_still}
use Rattle.hotel_statements.specs.Texts as text
use Rattle.hotel_statements.proofs.Statements.Selects as selects
use Rattle.hotel_statements.proofs.Lists.{cards_find}
use Rattle.hotel_statements.proofs.look_ups.inside.Goals as goal

pub look_all-requires-clause-asks : goal.look_all-requires-clause-asks
look_all-requires-clause-asks g c = (_, selects.select_cards_inside)

pub returns : goal.returns
returns g c =
    let old = state g.S.Store c.args.conn.now in
    let new = state g.S.Store c.look_all.new.conn in
    let shown : IsKept new → (p : Query) → Asks text.select_cards_inside p
    → IfOk c.look_all.result (λ all. AnswersAll (λ v. number_of (column v 0)) p
    (int c.args.room ∷ []) old.now.trees all.items) =
    rw (c.small.ensures, c.value.ensures.same) at c.look_all.ensures.found in
    let cause : HasCause (InsideFails c.args.room) old new c.look_all.result =
    rw (c.small.ensures, c.value.ensures.same) at c.look_all.ensures.cause in
    record {
      books = c.look_all.ensures.books;
      keeps = c.look_all.ensures.keeps;
      found = λ kept. IfOk-weaker c.look_all.result _ _ (λ all a. cards_find old.now.trees
          (c.requires.desk (c.look_all.ensures.keeps kept).0).tables c.args.room all.items a)
          (shown kept _ selects.select_cards_inside);
      open_on = λ _ clean. open_still old new c.look_all.result (c.look_all.ensures.unchanged clean);
      unchanged = λ _. c.look_all.ensures.unchanged;
      cause = cause;
      crash = c.look_all.ensures.crash;
    }
