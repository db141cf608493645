use Rattle.std.proofs.Common.{◌≡◌, ◌∙◌, ap, refl, Err, Some, arith, rules}
use Rattle.sqlite.specs.Held.{state}
use Rattle.sqlite.specs.Values.{bound}
use Rattle.hotel_books.specs.declared.books.walks.WalkFault.TheVariants as why
use Rattle.hotel_statements.specs.Walks.{HandsOne, WalkFails, WalksRows}
use Rattle.hotel_statements.proofs.Walked.{starts, refused, goes_on, left, ended, broken_off, cut}
use Rattle.hotel_statements.proofs.walk.walk.Goals as goal

pub returns-in-Err : goal.returns-in-Err
returns-in-Err g c rows says =
    let held = rw c.in-Err.is at c.query.follows.holds-at-none in
    refused g.S.Store (g.F.RowReader.says c.args.reader.now) (g.F.RowReader.is_readable c.args.reader.now)
    g.K.Sink.after g.K.Sink.after_stop c.args.text.now (bound c.args.params.now) c.args.conn.now c.args.sink.now
    c.requires.books c.requires.asks c.query.follows.lender-at-none held.mode held.survives rows c.in-Err.error held.err
    c.from.result (c.from.ensures ∙ ap Some c.fault_of.ensures)

pub rows-init : goal.rows-init
rows-init g c = (
  refl,
  starts g.S.Store (g.F.RowReader.says c.args.reader.now) (g.F.RowReader.is_readable c.args.reader.now) g.K.Sink.after
      g.K.Sink.after_stop c.args.text.now (bound c.args.params.now) c.args.conn.now c.args.sink.now
      c.requires.books c.requires.asks c.in-Ok.rows.conn.now c.in-Ok.ensures.mode
      c.in-Ok.ensures.survives c.in-Ok.ensures.begun,
)

pub rows-preserved : goal.rows-preserved
rows-preserved g c =
    let moved = c.next.follows.holds-at-none in (
      search rules,
      goes_on g.S.Store (g.F.RowReader.says c.args.reader.now) (g.F.RowReader.is_readable c.args.reader.now)
          g.K.Sink.after g.K.Sink.after_stop c.args.text.now (bound c.args.params.now) c.args.conn.now c.args.sink.now
          c.rows.rows c.next.follows.lender-at-none _ moved c.rows.sink c.rows._i c.rows.invariant.1 c.in-Ok-Some.row
          (search rules) c.hand_over.new.sink (search rules),
    )

pub returns-in_err-hand_over-in-Ok-Some : goal.returns-in_err-hand_over-in-Ok-Some
returns-in_err-hand_over-in-Ok-Some g c rows says =
    let moved = c.next.follows.holds-at-none in
    let says_of = g.F.RowReader.says c.args.reader.now in
    let fault = c.in_err-hand_over-in-Ok-Some.field-0.0 in
    let hands : HandsOne g.K.Sink.after g.K.Sink.after_stop
    (says_of c.in-Ok-Some.row.now) c.rows.sink c.hand_over.new.sink (Err fault) = search rules in
    let unread : fault ≡ why.Store → ¬ g.F.RowReader.is_readable c.args.reader.now c.in-Ok-Some.row.now = λ store.
    c.hand_over.ensures.unread (c.in_err-hand_over-in-Ok-Some.was ∙ ap Err store) in
    let done : WalksRows (WalkFails (g.F.RowReader.is_readable c.args.reader.now) c.args.text.now
    (bound c.args.params.now)) g.K.Sink.after g.K.Sink.after_stop rows (state g.S.Store c.args.conn.now)
    (state g.S.Store c.next.follows.lender-at-none.conn.now) c.args.sink.now
    c.hand_over.new.sink (Err fault) =
    left g.S.Store says_of (g.F.RowReader.is_readable c.args.reader.now) g.K.Sink.after g.K.Sink.after_stop
    c.args.text.now (bound c.args.params.now) c.args.conn.now c.args.sink.now
    c.rows.rows c.next.follows.lender-at-none _ moved c.rows.sink c.rows._i c.rows.invariant.1 c.in-Ok-Some.row
    (search rules) rows says c.hand_over.new.sink fault hands unread in
    search rules

pub returns-in-Ok-None : goal.returns-in-Ok-None
returns-in-Ok-None g c rows says =
    let moved = c.next.follows.holds-at-none in
    let done =
    ended g.S.Store (g.F.RowReader.says c.args.reader.now) (g.F.RowReader.is_readable c.args.reader.now) g.K.Sink.after
    g.K.Sink.after_stop c.args.text.now (bound c.args.params.now) c.args.conn.now c.args.sink.now
    c.rows.rows c.next.follows.lender-at-none _ moved c.rows.sink c.rows._i
    c.rows.invariant.1 (search rules) rows says in
    search rules

pub returns-in-Err-next : goal.returns-in-Err-next
returns-in-Err-next g c rows says =
    let moved = c.next.follows.holds-at-none in
    let done =
    broken_off g.S.Store (g.F.RowReader.says c.args.reader.now) (g.F.RowReader.is_readable c.args.reader.now)
    g.K.Sink.after g.K.Sink.after_stop c.args.text.now (bound c.args.params.now) c.args.conn.now c.args.sink.now
    c.rows.rows c.next.follows.lender-at-none _ moved c.rows.sink c.rows._i c.rows.invariant.1 rows says
    c.in-Err-next.error (search rules) c.from-in-Err-next.result
    (c.from-in-Err-next.ensures ∙ ap Some c.fault_of-in-Err-next.ensures) in
    search rules

pub returns : goal.returns
returns g c rows says =
    let done =
    cut g.S.Store (g.F.RowReader.says c.args.reader.now) (g.F.RowReader.is_readable c.args.reader.now) g.K.Sink.after
    g.K.Sink.after_stop c.args.text.now (bound c.args.params.now) c.args.conn.now c.args.sink.now
    c.rows.rows.conn.now c.rows.sink c.rows._i (omega arith) c.rows.invariant.1 rows says in
    search rules
