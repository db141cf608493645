use Rattle.std.proofs.Common.{◌+◌, ◌<◌, ◌++◌, ◌∙◌, ap, subst, List, Ok, drop, map, length, arith, rules}
use Rattle.std.proofs.lemmas.Bool.Decides.{nat_tests}
use Rattle.std.proofs.lemmas.List.{take_all}
use Rattle.hotel_statements.specs.declared.version.Layout.TheVariants.{Eight}
use Rattle.hotel_statements.specs.Statements.{Statement, MakesBy, makes_second, adds_first_fit}
use Rattle.hotel_statements.specs.Upgrade.{Completes}
use Rattle.hotel_statements.proofs.InTurn.{made_as, made_then, made_stopped, runs_on}
use Rattle.hotel_statements.proofs.Upgraded.{GivesSoFar, room_then, all_given, one_more, with_others}
use Rattle.hotel_statements.proofs.upgrade.upgrade.Goals as goal

pub returns-in_err-upgrade_tables-clause-makes : goal.returns-in_err-upgrade_tables-clause-makes
returns-in_err-upgrade_tables-clause-makes g c =
    made_stopped (map adds_first_fit c.args.rooms.now) c.from_residual.result c.from_residual.ensures.0
    c.from_residual.ensures.1 c.in_err-upgrade_tables.ensures.makes

pub rooms-init : goal.rooms-init
rooms-init g c = (search rules, c.in_ok-upgrade_tables.ensures.makes)

pub rooms-preserved : goal.rooms-preserved
rooms-preserved g c =
    let rooms = c.args.rooms.now in
    let i = c.rooms.i in
    let low : i < length rooms = omega arith in (
      search rules,
      subst (λ (all : List Statement). MakesBy g.S.Store all (GivesSoFar rooms (i + 1)) c.args.tx.now.conn.now
          c.insert_first_fit.new.tx.conn.now (Ok tt))
          (one_more rooms i c.index-rooms-i.result low c.index-rooms-i.is)
          (made_then (room_then rooms i c.index-rooms-i.result low c.index-rooms-i.is)
          c.rooms.invariant.1 c.in_ok-insert_first_fit.ensures.makes),
    )

pub returns-in_err-insert_first_fit-clause-makes : goal.returns-in_err-insert_first_fit-clause-makes
returns-in_err-insert_first_fit-clause-makes g c =
    let rooms = c.args.rooms.now in
    let i = c.rooms.i in
    let low : i < length rooms = omega arith in
    let room = c.index-rooms-i.result in
    let old = c.args.tx.now.conn.now in
    let new = c.insert_first_fit.new.tx.conn.now in
    let result = c.from_residual-in_err-insert_first_fit.result in
    let ran = runs_on c.rooms.invariant.1 c.in_err-insert_first_fit.ensures.makes in
    subst (λ (all : List Statement). MakesBy g.S.Store all (Completes Eight rooms) old new result)
    (ap (λ (so_far : List Statement). so_far ++ map adds_first_fit (drop (i + 1) rooms))
    (one_more rooms i room low c.index-rooms-i.is) ∙ with_others rooms (i + 1))
    (made_stopped (map adds_first_fit (drop (i + 1) rooms)) result c.from_residual-in_err-insert_first_fit.ensures.0
    c.from_residual-in_err-insert_first_fit.ensures.1 ran)

pub returns-clause-makes : goal.returns-clause-makes
returns-clause-makes g c =
    let rooms = c.args.rooms.now in
    let past = c.rooms-test.false in
    subst (λ (all : List Statement). MakesBy g.S.Store all (Completes Eight rooms) c.args.tx.now.conn.now
    c.rooms.tx.conn.now (Ok tt)) (ap makes_second (take_all c.rooms.i rooms (grind (arith, nat_tests, past))))
    (made_as (all_given c.rooms.i (grind (arith, nat_tests, past))) c.rooms.invariant.1)
