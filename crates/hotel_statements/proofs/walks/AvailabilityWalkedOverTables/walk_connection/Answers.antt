use Rattle.std.proofs.Common.{◌≡◌, List, [], inl, inr, subst}
use Rattle.sqlite.specs.Effect.{Database}
use Rattle.sqlite.specs.Held.{state}
use Rattle.sqlite.specs.State.{HasCleanDisk, IsUnchanged}
use Rattle.hotel_model.specs.declared.list_rows.FreeRow.{FreeRow}
use Rattle.hotel_model.specs.Refinement.ListsOnRows.{availability_on}
use Rattle.hotel_statements.specs.Tables.{rows_in}
use Rattle.hotel_statements.specs.Books.{IsKept}
use Rattle.hotel_statements.specs.LookUps.{AnswersAll}
use Rattle.hotel_statements.specs.Texts as text
use Rattle.hotel_statements.specs.Readable.{IsKind, FirstColumnIs}
use Rattle.hotel_statements.specs.Walks.{SaysRows, WalkFails, WalksRows, free_row_of}
use Rattle.hotel_statements.proofs.Statements.Walks as walks
use Rattle.hotel_statements.proofs.Since.{walk_fails_later}
use Rattle.hotel_statements.proofs.Walked.{then_walks, not_begun}
use Rattle.hotel_statements.proofs.OfWalks.Kinds.{kinds_query, free_said}
use Rattle.hotel_statements.proofs.walks.AvailabilityWalkedOverTables.walk_connection.Goals as goal

pub walk-requires-clause-asks : goal.walk-requires-clause-asks
walk-requires-clause-asks g c = (_, walks.walk_kinds)

pub returns : goal.returns
returns g c =
    let old = state g.S.Store c.args.conn.now in
    let mid = state g.S.Store c.day.new.conn in
    let new = state g.S.Store c.walk.new.conn in
    let db = old.now.trees in
    let today = c.in_ok-today.today in
    let rows = availability_on (rows_in db) c.args.self.now.0 c.args.self.now.1 in
    let says = free_row_of c.args.counts.kinds.now c.args.counts.nights.now today c.args.self.now.0 c.args.self.now.1 in
    let is : IsKept mid → today ≡ (rows_in db).day = λ kept. c.in_ok-today.ensures.found kept in
    let unchanged : HasCleanDisk mid → IsUnchanged old mid =
    λ clean. c.in_ok-today.ensures.unchanged tt clean in
    let walked : (all : List FreeRow) → SaysRows says text.read_kind [] mid all
    → WalksRows (WalkFails (FirstColumnIs IsKind) text.read_kind []) g.K.Sink.after g.K.Sink.after_stop all mid new
    c.args.sink.now c.walk.new.sink c.walk.result = c.walk.ensures in
    then_walks g.K.Sink.after g.K.Sink.after_stop rows old mid c.args.sink.now new c.walk.new.sink c.walk.result
    c.day.ensures.keeps (λ clean. (unchanged clean).0.is_open) c.day.ensures.crash
    (λ was clean fails. inr (walk_fails_later old mid new was unchanged c.day.ensures.crash text.read_kind [] _
    walks.walk_kinds c.day.ensures.books clean (FirstColumnIs IsKind) fails))
    (walked rows (
      _,
      walks.walk_kinds,
      λ kept all answers.
          let was = c.day.ensures.keeps kept in
          free_said db (c.requires.books.desk was.0).tables _ _ (c.requires.counted was.0) today (is kept)
          c.args.self.now.0 c.args.self.now.1 all
          (subst (λ (d : Database). AnswersAll says kinds_query [] d.trees all) was.1 answers),
    ))

pub returns-in_err-today : goal.returns-in_err-today
returns-in_err-today g c =
    not_begun g.K.Sink.after g.K.Sink.after_stop _ (state g.S.Store c.args.conn.now)
    (state g.S.Store c.day.new.conn) c.args.sink.now c.from_residual.result _ c.from_residual.ensures.1
    c.day.ensures.books c.day.ensures.keeps c.day.ensures.crash
    (λ clean cause. inl (c.in_err-today.ensures.cause clean cause))
