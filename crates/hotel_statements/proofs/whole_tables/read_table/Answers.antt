use Rattle.std.proofs.Common.{◌≡◌, ◌∙◌, refl, sym, ap, subst, map, ◌++◌, ◌∷◌, [], rules, Vec}
use Rattle.std.specs.declared.alloc.Global.{Global}
use Rattle.std.proofs.lemmas.List.{map-append}
use Rattle.sqlite.specs.Held.{state}
use Rattle.sqlite.specs.Given.{HasBegun}
use Rattle.sqlite.specs.State.{HasCleanDisk, Survives, CommitsShowing}
use Rattle.hotel_statements.specs.WholeTables.{BeginsAs}
use Rattle.hotel_statements.specs.PlainRows.{AreRowsInOrder}
use Rattle.hotel_statements.proofs.Readings.{starts, refused, goes_on, left, ended, broken_off, cut, moved_to}
use Rattle.hotel_statements.proofs.Unread.{err_is}
use Rattle.hotel_statements.proofs.whole_tables.read_table.Goals as goal

pub returns-in-Err : goal.returns-in-Err
returns-in-Err g c =
    let whole = c.requires.whole in
    let held = rw (c.in-Err.is, c.statement.ensures) at c.query.follows.holds-at-none in
    refused g.S.Store c.args.version g.L.PlainRow.statement whole.query whole.asks c.args.conn.now c.requires.ours
    c.query.follows.lender-at-none held.mode held.survives (BeginsAs g.L.PlainRow.shown)
    _ c.in-Err.error c.fault_of.result c.fault_of.ensures held.err

pub rows-init : goal.rows-init
rows-init g c =
    let whole = c.requires.whole in
    let old = c.args.conn.now in
    let new = c.in-Ok.rows.conn.now in (
      refl,
      starts g.S.Store c.args.version g.L.PlainRow.statement whole.query whole.asks old c.requires.ours
          new c.in-Ok.ensures.mode
          (subst (λ t. Survives (state g.S.Store old) (state g.S.Store new)
          (CommitsShowing t [] (state g.S.Store old))) c.statement.ensures c.in-Ok.ensures.survives)
          _ (search rules)
          (subst (λ t. HasCleanDisk (state g.S.Store new) → HasBegun g.S.Store t [] old new) c.statement.ensures
          c.in-Ok.ensures.begun),
    )

pub rows-preserved : goal.rows-preserved
rows-preserved g c =
    let whole = c.requires.whole in
    let row = c.in-Ok-Some.row in (
      search rules,
      goes_on g.S.Store c.args.version g.L.PlainRow.statement whole.query whole.asks c.args.conn.now c.requires.ours
          c.rows.rows c.next.follows.lender-at-none _ c.next.follows.holds-at-none c.rows.invariant.1 row (search rules)
          (λ rows. map g.L.PlainRow.shown c.add_plain.new.plain_rows.items ≡ map g.L.PlainRow.cut rows)
          (λ rows known. c.in_ok-add_plain-in-Ok-Some.ensures.adds ∙ ap (λ t. t ++ g.L.PlainRow.cut row.now ∷ []) known
          ∙ sym (map-append g.L.PlainRow.cut rows (row.now ∷ []))),
    )

pub returns-in_err-add_plain-in-Ok-Some : goal.returns-in_err-add_plain-in-Ok-Some
returns-in_err-add_plain-in-Ok-Some g c =
    let whole = c.requires.whole in
    let fault = c.in_err-add_plain-in-Ok-Some.field-0.0 in
    let done = left g.S.Store c.args.version g.L.PlainRow.statement whole.query whole.asks c.args.conn.now
    c.requires.ours c.rows.rows c.next.follows.lender-at-none _ c.next.follows.holds-at-none c.rows.invariant.1
    c.in-Ok-Some.row (search rules) (BeginsAs g.L.PlainRow.shown)
    (λ (plain_rows : Vec _ Global) db. AreRowsInOrder g.L.PlainRow.columns g.L.PlainRow.shown
    g.L.PlainRow.order plain_rows.items (db g.L.PlainRow.tree)) fault c.in_err-add_plain-in-Ok-Some.ensures.unread in
    moved_to _ _ _ _ (sym (err_is c.from_residual.result fault c.from_residual.ensures)) (search rules) done

pub returns-in-Ok-None : goal.returns-in-Ok-None
returns-in-Ok-None g c =
    let whole = c.requires.whole in
    let old = state g.S.Store c.args.conn.now in
    let done = ended g.S.Store c.args.version g.L.PlainRow.statement whole.query whole.asks c.args.conn.now
    c.requires.ours c.rows.rows c.next.follows.lender-at-none _ c.next.follows.holds-at-none c.rows.invariant.1
    (BeginsAs g.L.PlainRow.shown)
    (λ (plain_rows : Vec _ Global) db. AreRowsInOrder g.L.PlainRow.columns g.L.PlainRow.shown
    g.L.PlainRow.order plain_rows.items (db g.L.PlainRow.tree)) c.rows.plain_rows (search rules)
    (λ rows known answer. whole.answers old.now.trees rows c.rows.plain_rows.items answer known) in
    moved_to _ _ _ _ refl (search rules) done

pub returns-in-Err-next : goal.returns-in-Err-next
returns-in-Err-next g c =
    let whole = c.requires.whole in
    let done = broken_off g.S.Store c.args.version g.L.PlainRow.statement whole.query whole.asks c.args.conn.now
    c.requires.ours c.rows.rows c.next.follows.lender-at-none _ c.next.follows.holds-at-none c.rows.invariant.1
    (BeginsAs g.L.PlainRow.shown)
    (λ (plain_rows : Vec _ Global) db. AreRowsInOrder g.L.PlainRow.columns g.L.PlainRow.shown
    g.L.PlainRow.order plain_rows.items (db g.L.PlainRow.tree)) c.in-Err-next.error c.fault_of-in-Err-next.result
    (search rules) c.fault_of-in-Err-next.ensures in
    moved_to _ _ _ _ refl (search rules) done

pub returns : goal.returns
returns g c =
    let whole = c.requires.whole in
    let done = cut g.S.Store c.args.version g.L.PlainRow.statement whole.query whole.asks c.args.conn.now
    c.requires.ours (BeginsAs g.L.PlainRow.shown)
    (λ (plain_rows : Vec _ Global) db. AreRowsInOrder g.L.PlainRow.columns g.L.PlainRow.shown
    g.L.PlainRow.order plain_rows.items (db g.L.PlainRow.tree)) c.rows.rows.conn.now c.rows.invariant.1 in
    search rules
