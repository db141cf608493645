use Rattle.std.proofs.Common.{◌≡◌, ℕ, ◌+◌, ◌<◌, ◌≤◌, ◌++◌, ◌∙◌, sym, ap, subst, List, Ok, arith, rules}
use Rattle.std.proofs.lemmas.Bool.Decides.{nat_tests}
use Rattle.hotel_statements.specs.declared.version.TheConstants.{INDEXES}
use Rattle.hotel_statements.specs.Statements.{Statement, MakesBy, makes_indexes}
use Rattle.hotel_statements.specs.NewDesk.{AddsIndexes}
use Rattle.hotel_statements.proofs.Makers.{AddsSoFar, none_added, one_added, all_added, none_yet, and_one, and_others}
use Rattle.hotel_statements.proofs.InTurn.{none_ran, made_as, made_then, made_stopped, runs_on}
use Rattle.hotel_statements.proofs.indexes.add_indexes.Goals as goal

pub indexes-init : goal.indexes-init
indexes-init g c =
    let first = c.args.first in
    let low : first ≤ INDEXES = omega (arith, c.requires) in
    let even : first ≤ first = omega arith in (
      search rules,
      even,
      low,
      subst (λ (all : List Statement). MakesBy g.S.Store all (AddsSoFar first first) c.args.tx.now.conn.now
          c.args.tx.now.conn.now (Ok tt)) (sym (none_yet first c.requires))
          (none_ran g.S.Store c.args.tx.now.conn.now (none_added first _)),
    )

pub indexes-preserved : goal.indexes-preserved
indexes-preserved g c =
    let first = c.args.first in
    let at = c.indexes.at in
    let low : at < INDEXES = omega arith in
    let up : first ≤ at + 1 = omega (arith, c.indexes.invariant.1) in
    let past : at + 1 ≤ INDEXES = omega (arith, low) in (
      search rules,
      up,
      past,
      subst (λ (all : List Statement). MakesBy g.S.Store all (AddsSoFar first (at + 1)) c.args.tx.now.conn.now
          c.add_index.new.tx.conn.now (Ok tt)) (and_one first at c.indexes.invariant.1 low)
          (made_then (one_added first at _ _ _ c.indexes.invariant.1) c.indexes.invariant.3
          c.in_ok-add_index.ensures.makes),
    )

pub returns-in_err-add_index-clause-makes : goal.returns-in_err-add_index-clause-makes
returns-in_err-add_index-clause-makes g c =
    let first = c.args.first in
    let at = c.indexes.at in
    let low : at < INDEXES = omega arith in
    let up : first ≤ at + 1 = omega (arith, c.indexes.invariant.1) in
    let past : at + 1 ≤ INDEXES = omega (arith, low) in
    let result = c.from_residual.result in
    let ran = runs_on c.indexes.invariant.3 c.in_err-add_index.ensures.makes in
    subst (λ (all : List Statement). MakesBy g.S.Store all (AddsIndexes first INDEXES) c.args.tx.now.conn.now
    c.add_index.new.tx.conn.now result)
    (ap (λ (so_far : List Statement). so_far ++ makes_indexes (at + 1) INDEXES)
    (and_one first at c.indexes.invariant.1 low) ∙ and_others first (at + 1) up past)
    (made_stopped (makes_indexes (at + 1) INDEXES) result c.from_residual.ensures.0 c.from_residual.ensures.1 ran)

pub returns-clause-makes : goal.returns-clause-makes
returns-clause-makes g c =
    let first = c.args.first in
    let past = c.indexes-test.false in
    let all : INDEXES ≤ c.indexes.at = grind (arith, nat_tests, past) in
    let is : c.indexes.at ≡ INDEXES = omega (arith, all, c.indexes.invariant.2) in
    subst (λ (n : ℕ). MakesBy g.S.Store (makes_indexes first n) (AddsIndexes first INDEXES) c.args.tx.now.conn.now
    c.indexes.tx.conn.now (Ok tt)) is
    (made_as (all_added first c.indexes.at _ _ c.requires all c.indexes.invariant.2) c.indexes.invariant.3)
