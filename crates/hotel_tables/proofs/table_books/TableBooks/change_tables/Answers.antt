use Rattle.std.proofs.Common.{◌≡◌, inl, inr, Err, ap, sym, ◌∙◌, subst, arith}
use Rattle.std.specs.Prelude.{IfErr}
use Rattle.std.proofs.lemmas.Bool.{false≢true}
use Rattle.sqlite.specs.Effect.{Database}
use Rattle.sqlite.specs.Held.{state}
use Rattle.sqlite.specs.State.{HasCleanDisk}
use Rattle.keycard_rules.specs.declared.issued.LookFault.TheVariants as why
use Rattle.hotel_model.specs.Rows.{Rows}
use Rattle.hotel_model.specs.Refinement.Change.{made}
use Rattle.hotel_model.specs.Refinement.Fits.{Fits}
use Rattle.hotel_statements.specs.Tables.{rows_in}
use Rattle.hotel_statements.specs.Books.{IsKept}
use Rattle.hotel_tables.specs.Counted.{booked_by, CountsLess}
use Rattle.hotel_tables.specs.TableBooks.{Tabled, IsCounted}
use Rattle.hotel_tables.specs.Applied.{Applies}
use Rattle.hotel_tables.specs.Causes.{ChangingFails}
use Rattle.hotel_tables.proofs.Causes.{passed, making_from}
use Rattle.hotel_tables.proofs.KeptCounts.{counted_still, counted_back, counted_after}
use Rattle.hotel_tables.proofs.Applied.{then_applies}
use Rattle.hotel_tables.proofs.table_books.TableBooks.change_tables.Goals.{in-Some-2, in-None-2}
use Rattle.hotel_tables.proofs.table_books.TableBooks.change_tables.Goals as goal

pub invariant_of-self-in_default : goal.invariant_of-self-in_default
invariant_of-self-in_default g c = record {
  books = c.in_ok-ended.ensures.looks.books;
  counted = λ kept.
      let same = c.in_ok-ended.ensures.looks.keeps kept in
      subst (λ (d : Database). IsCounted c.count_added.new.kinds c.count_added.new.nights (rows_in d.trees)) (sym
      same.1)
      (counted_still (c.self.invariant.counted same.0) c.count_added.new.kinds c.count_added.new.nights
      c.count_added.ensures.rooms c.in_default.ensures.err);
  answered = λ clean yes. absurd (false≢true yes);
}

pub invariant_of-self-in-Ok-apply_change : goal.invariant_of-self-in-Ok-apply_change
invariant_of-self-in-Ok-apply_change g c = record {
  books = c.in-Ok-apply_change.ensures.applies.books;
  counted = λ kept.
      let change = c.args.change.now in
      let old = state g.S.Store c.self.inside.conn in
      let was = c.in-Ok-apply_change.ensures.applies.was kept in
      let same = c.in_ok-ended.ensures.looks.keeps was in
      let rows : Rows = rows_in old.now.trees in
      let fits : Fits change rows = subst (λ (b : Tabled g.row.S.Denot). IsKept (state g.S.Store b.conn) → Fits
      change (rows_in (state g.S.Store b.conn).now.trees)) (sym c.self.view_is) c.requires same.0 in
      let rows_are = c.in-Ok-apply_change.ensures.applies.whole kept ∙ ap (λ (d : Database). made change (rows_in
      d.trees)) same.1 in
      let less = subst (λ ended. CountsLess ended c.count_added.new.nights c.count_ended.new.nights)
      (c.in_ok-ended.ensures.looks.found was) c.count_ended.ensures in
      subst (IsCounted c.count_room.new.kinds c.count_ended.new.nights) (sym rows_are)
      (counted_after change rows c.self.inside.kinds c.count_added.new.kinds c.count_room.new.kinds
      c.self.inside.nights c.count_added.new.nights c.count_ended.new.nights
      (c.self.invariant.counted same.0) fits c.count_added.ensures.rooms c.in-Ok.ensures.kind c.in-Ok.ensures.stays
      c.count_room.ensures less);
  answered = λ clean yes. absurd (false≢true yes);
}

pub invariant_of-self-in-Err : goal.invariant_of-self-in-Err
invariant_of-self-in-Err g c = record {
  books = c.in-Err.ensures.applies.books;
  counted = λ kept.
      let same = c.in_ok-ended.ensures.looks.keeps (c.in-Err.ensures.applies.was kept) in
      subst (λ (d : Database). IsCounted c.count_added.new.kinds c.uncount_added.new.nights (rows_in d.trees)) (sym
      (c.in-Err.ensures.applies.same kept ∙ same.1))
      (counted_back (c.self.invariant.counted same.0) (booked_by c.args.change.now) c.count_added.new.kinds
      c.count_added.new.nights c.uncount_added.new.nights
      c.count_added.ensures.rooms c.in-Ok.ensures.stays c.uncount_added.ensures);
  answered = λ clean yes. absurd (false≢true yes);
}

pub invariant_of-self-in-Err-2 : goal.invariant_of-self-in-Err-2
invariant_of-self-in-Err-2 g c = record {
  books = c.in-Err.ensures.applies.books;
  counted = λ kept.
      let same = c.in_ok-ended.ensures.looks.keeps (c.in-Err.ensures.applies.was kept) in
      subst (λ (d : Database). IsCounted c.count_added.new.kinds c.uncount_added.new.nights (rows_in d.trees)) (sym
      (c.in-Err.ensures.applies.same kept ∙ same.1))
      (counted_back (c.self.invariant.counted same.0) (booked_by c.args.change.now) c.count_added.new.kinds
      c.count_added.new.nights c.uncount_added.new.nights
      c.count_added.ensures.rooms c.in-Ok.ensures.stays c.uncount_added.ensures);
  answered = λ clean yes. absurd (false≢true yes);
}

pub returns-in-Err-clause-applies : goal.returns-in-Err-clause-applies
returns-in-Err-clause-applies g c =
    let change = c.args.change.now in
    let new = state g.S.Store c.apply_change.new.conn in
    let whole = then_applies change (state g.S.Store c.self.inside.conn) (state g.S.Store c.ended_by.new.conn) _
    c.in_ok-ended.ensures.looks new (Err c.in-Err.why) c.in_ok-ended.ensures.looks.open_on
    c.in-Err.ensures.applies in
    let of_self : Applies change (state g.S.Store c.args.self.now.conn) new (Err c.in-Err.why) =
    subst (λ (b : Tabled g.row.S.Denot). Applies change (state g.S.Store b.conn) new (Err c.in-Err.why))
    c.self.view_is whole in
    elim c.match-ended-2.branch [
      | in-Some-2 w ↦ subst (λ (b : Tabled g.row.S.Denot). Applies change (state g.S.Store c.args.self.now.conn)
          (state g.S.Store b.conn) (Err c.in-Err.why)) (sym w.self-is) of_self
      | in-None-2 w ↦ subst (λ (b : Tabled g.row.S.Denot). Applies change (state g.S.Store c.args.self.now.conn)
          (state g.S.Store b.conn) (Err c.in-Err.why)) (sym w.self-is) of_self
    ]

pub returns-in_err-ended-clause-cause : goal.returns-in_err-ended-clause-cause
returns-in_err-ended-clause-cause g c =
    let fails : HasCleanDisk (state g.S.Store c.ended_by.new.conn) → IfErr c.from_residual.result
    (λ fault. fault ≡ why.Store → ChangingFails g.S.Store c.args.change.now c.self.inside.conn c.ended_by.new.conn) = λ
    clean.
    passed _ c.from_residual.result c.from_residual.ensures inl (c.in_err-ended.ensures.cause clean) in
    subst (λ (b : Tabled g.row.S.Denot). HasCleanDisk (state g.S.Store c.ended_by.new.conn) → IfErr
    c.from_residual.result
    (λ fault. fault ≡ why.Store → ChangingFails g.S.Store c.args.change.now b.conn c.ended_by.new.conn)) c.self.view_is
    fails

pub returns-in-Err-clause-cause : goal.returns-in-Err-clause-cause
returns-in-Err-clause-cause g c =
    let change = c.args.change.now in
    let why_not = c.in-Err.why in
    let new = c.apply_change.new.conn in
    let fails : HasCleanDisk (state g.S.Store new) → why_not ≡ why.Store → ChangingFails g.S.Store change
    c.self.inside.conn new = λ clean is.
    let before : HasCleanDisk (state g.S.Store c.ended_by.new.conn) = omega (
      arith,
      c.in-Err.ensures.applies.crash.clean,
      clean,
    ) in
    inr (making_from g.S.Store c.self.inside.conn c.ended_by.new.conn new change (c.in_ok-ended.ensures.asks before)
    (c.in-Err.ensures.cause clean is)) in
    let of_self : HasCleanDisk (state g.S.Store new) → why_not ≡ why.Store → ChangingFails g.S.Store change
    c.args.self.now.conn new =
    subst (λ (b : Tabled g.row.S.Denot). HasCleanDisk (state g.S.Store new) → why_not ≡ why.Store → ChangingFails
    g.S.Store change b.conn new) c.self.view_is fails in
    elim c.match-ended-2.branch [
      | in-Some-2 w ↦ subst (λ (b : Tabled g.row.S.Denot). HasCleanDisk (state g.S.Store b.conn) → why_not ≡
          why.Store → ChangingFails g.S.Store change c.args.self.now.conn b.conn) (sym w.self-is) of_self
      | in-None-2 w ↦ subst (λ (b : Tabled g.row.S.Denot). HasCleanDisk (state g.S.Store b.conn) → why_not ≡
          why.Store → ChangingFails g.S.Store change c.args.self.now.conn b.conn) (sym w.self-is) of_self
    ]
