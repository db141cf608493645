use Rattle.std.proofs.Common.{◌∙◌, ap, subst, map, All}
use Rattle.std.proofs.lemmas.Result.{IfOk-weaker, IfErr-weaker}
use Rattle.sqlite.specs.Held.{state}
use Rattle.sqlite.specs.Values.{bound}
use Rattle.hotel_statements.proofs.Looked.{on_ok_always, all_crash, all_books, all_keeps, all_found, all_unchanged}
use Rattle.hotel_statements.proofs.Looked.{all_unread, fault_books, fault_keeps, fault_cause}
use Rattle.hotel_statements.proofs.look.look_all.Goals as goal

pub returns-in-Ok : goal.returns-in-Ok
returns-in-Ok g c =
    let text = c.args.text.now in
    let params = bound c.args.params.now in
    let old = state g.S.Store c.args.conn.now in
    let new = state g.S.Store c.query_all.new.self in
    let mode = c.query_all.ensures.mode in
    let survives = c.query_all.ensures.survives in
    record {
      books = all_books text params old new c.requires.books c.requires.asks mode survives
          c.in-Ok.rows.items c.in-Ok.ensures.ok;
      keeps = all_keeps text params old new c.requires.books c.requires.asks mode survives
          c.in-Ok.rows.items c.in-Ok.ensures.ok;
      found = λ kept q asks. IfOk-weaker c.read_all.result _ _ (λ all are.
          all_found text params old new c.requires.books c.requires.asks mode survives
          c.in-Ok.rows.items c.in-Ok.ensures.ok
          g.R.FromRow.of all.items (are ∙ ap (map g.R.FromRow.of) c.deref.ensures.value) kept q asks)
          c.read_all.ensures.reads;
      unchanged = λ clean. on_ok_always c.read_all.result
          (all_unchanged text params old new c.requires.books c.requires.asks mode survives
          c.in-Ok.rows.items c.in-Ok.ensures.ok clean);
      cause = λ clean. IfErr-weaker c.read_all.result _ _ (λ fault unread other.
          all_unread text params old new c.requires.books c.requires.asks mode survives
          c.in-Ok.rows.items c.in-Ok.ensures.ok
          g.R.FromRow.is_readable (subst (λ rows. ¬ All g.R.FromRow.is_readable rows)
          c.deref.ensures.value (unread other)) clean)
          c.read_all.ensures.unread;
      crash = all_crash text params old new c.requires.books c.requires.asks mode survives;
    }

pub returns-in-Err : goal.returns-in-Err
returns-in-Err g c =
    let text = c.args.text.now in
    let params = bound c.args.params.now in
    let old = state g.S.Store c.args.conn.now in
    let new = state g.S.Store c.query_all.new.self in
    let mode = c.query_all.ensures.mode in
    let survives = c.query_all.ensures.survives in
    record {
      books = fault_books text params old new c.requires.books c.requires.asks mode survives
          c.in-Err.error c.in-Err.ensures.err;
      keeps = fault_keeps text params old new c.requires.books c.requires.asks mode survives
          c.in-Err.error c.in-Err.ensures.err;
      found = λ _ _ _. tt;
      unchanged = λ _. tt;
      cause = λ clean cause. fault_cause text params old new c.requires.books c.requires.asks mode survives
          c.in-Err.error c.in-Err.ensures.err
          g.R.FromRow.is_readable (λ e. cause (c.fault_of.ensures ∙ e)) clean;
      crash = all_crash text params old new c.requires.books c.requires.asks mode survives;
    }
