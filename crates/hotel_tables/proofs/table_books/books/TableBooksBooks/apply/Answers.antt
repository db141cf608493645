use Rattle.std.proofs.Common.{◌≡◌, ◌∙◌, OnOk, Some, ap, inl, refl, sym, subst, arith}
use Rattle.std.proofs.lemmas.Result.{on_err_weaker}
use Rattle.sqlite.specs.Effect.{Database}
use Rattle.sqlite.specs.Held.{state}
use Rattle.sqlite.specs.State.{HasCleanDisk}
use Rattle.hotel_model.specs.Refinement.Change.{made}
use Rattle.hotel_model.specs.Refinement.Fits.{Fits}
use Rattle.hotel_statements.specs.Tables.{rows_in}
use Rattle.hotel_tables.specs.Applied.{Applies}
use Rattle.hotel_tables.specs.Causes.{ChangingFails}
use Rattle.hotel_tables.proofs.CountedCalls.{change_applies, change_cause, change_counts, change_leaves, ready_change}
use Rattle.hotel_tables.proofs.CountedCalls.{ready_fails, ready_leaves, ready_rose, rows_are, vain_change, vain_fails}
use Rattle.hotel_tables.proofs.CountedCalls.{vain_leaves}
use Rattle.hotel_tables.specs.TableBooks.{failed}
use Rattle.keycard_rules.specs.Leaves.{told_by}
use Rattle.keycard_rules.proofs.Sinces.{counts_rise}
use Rattle.hotel_tables.proofs.table_books.books.TableBooksBooks.apply.Goals as goal

pub change_tables-applied-requires : goal.change_tables-applied-requires
change_tables-applied-requires g c = λ kept.
    let was = c.in-Ok.ensures.ready.keeps kept in
    subst (λ (d : Database). Fits c.args.change (rows_in d.trees)) (sym was.1) (c.requires was.0)

pub returns-in-Ok : goal.returns-in-Ok
returns-in-Ok g c =
    let asked = c.in-Ok.ensures in
    let ended = c.change_tables-applied.ensures in
    let new = state g.S.Store c.counting.new.self.conn in
    let applies : Applies c.args.change (state g.S.Store c.ask.new.self.conn) new c.counting.result =
    change_applies g.S.Store c.args.change c.ask.new.self c.change_tables-applied.new.self c.counting.new.self _ _
    c.counting.ensures.same c.counting.ensures.conn ended.applies in
    record {
      whole = λ kept.
          let was = (asked.ready.keeps (applies.was kept)).1 in
          rows_are c.counting.result c.args.change (rows_in (state g.S.Store c.args.self.now.conn).now.trees)
          (rows_in new.now.trees) (subst (λ (d : Database). OnOk c.counting.result (rows_in new.now.trees
          ≡ made c.args.change (rows_in d.trees))) was (applies.whole kept)) (on_err_weaker c.counting.result
          (λ (same : _). ap (λ (d : Database). rows_in d.trees) (same ∙ was)) (applies.same kept));
      leaves = ready_leaves g.S.Store c.counting.new.self asked applies.crash
          (change_leaves g.S.Store c.args.change c.ask.new.self c.change_tables-applied.new.self c.counting.new.self _ _
          c.counting.ensures.same c.counting.ensures.conn ended.applies ended.memory ended.store
          c.counting.ensures.no_fewer c.counting.ensures.counted);
      rose = ready_rose g.S.Store c.counting.new.self asked (told_by c.counting.result) (counts_rise
          (told_by c.counting.result) (failed c.ask.new.self) (failed c.counting.new.self)
          (change_counts g.S.Store c.args.change c.ask.new.self c.change_tables-applied.new.self c.counting.new.self _ _
          c.counting.ensures.same c.counting.ensures.conn ended.memory ended.store c.counting.ensures.counted));
      cause = λ honest store.
          let before : HasCleanDisk (state g.S.Store c.ask.new.self.conn) =
          omega (arith, applies.crash.clean, honest) in
          ready_fails g.S.Store c.counting.new.self asked (ChangingFails g.S.Store c.args.change) before (
            c.ask.new.self.conn,
            inl refl,
            change_cause g.S.Store c.args.change c.ask.new.self c.change_tables-applied.new.self c.counting.new.self _ _
                c.counting.ensures.same c.counting.ensures.conn ended.cause honest store,
          );
      stop = record {
        crash = ready_change g.S.Store c.counting.new.self asked c.args.change applies;
        left = λ kept db left. g.met.S.Store.settled c.counting.new.self.conn.store db kept.1 left
            ∙ sym (ap (λ (d : Database). d.trees) (applies.books.desk kept).settled);
      };
      sure = λ never. absurd never;
    }

pub returns : goal.returns
returns g c =
    let asked = c.in-Err.ensures in
    let why = c.in-Err.why in
    record {
      whole = λ kept. ap (λ (d : Database). rows_in d.trees) (asked.ready.keeps kept).1;
      leaves = vain_leaves g.S.Store asked;
      rose = counts_rise (Some why) (failed c.args.self.now) (failed c.ask.new.self) asked.counted;
      cause = vain_fails g.S.Store asked (ChangingFails g.S.Store c.args.change);
      stop = record {
        crash = vain_change g.S.Store asked c.args.change;
        left = λ kept db left. g.met.S.Store.settled c.ask.new.self.conn.store db kept.1 left
            ∙ sym (ap (λ (d : Database). d.trees) (asked.ready.books.desk kept).settled);
      };
      sure = λ never. absurd never;
    }
