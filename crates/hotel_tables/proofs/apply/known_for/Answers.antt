use Rattle.std.proofs.Common.{◌≡◌, ◌∙◌, sym, ap, subst, rules, false, Some, None}
use Rattle.std.specs.Prelude.{IsSome, if◌then◌else◌}
use Rattle.sqlite.specs.Held.{state}
use Rattle.hotel_statements.specs.Tables.{rows_in}
use Rattle.hotel_tables.specs.Applied.{can_count, known_after}
use Rattle.hotel_tables.proofs.MayMake.{is_known_by}
use Rattle.hotel_tables.proofs.Causes.{shows_open, told_is, told_asked}
use Rattle.hotel_tables.proofs.apply.known_for.Goals as goal

pub returns-in_default-clause-there : goal.returns-in_default-clause-there
returns-in_default-clause-there g c = λ clean.
    let change = c.args.change.now in
    let old = state g.S.Store c.args.conn.now in
    let looks = c.in_ok-known.ensures.looks in
    let none = ap (λ o. known_after change o) c.in_default.is in
    let kept = shows_open g.S.Store _ c.args.conn.now c.told_for.new.conn change none (c.in_ok-known.ensures.asks
    clean) clean in
    is_known_by change (rows_in old.now.trees) (c.requires.fits (looks.keeps kept).0) None
    (sym (looks.found kept) ∙ c.in_default.is)

pub returns-in_default-clause-known : goal.returns-in_default-clause-known
returns-in_default-clause-known g c = λ clean.
    let change = c.args.change.now in
    let none = ap (λ o. known_after change o) c.in_default.is in
    sym none
    ∙ ap (known_after change) (told_is g.S.Store _ c.args.conn.now c.told_for.new.conn clean change
    (c.in_ok-known.ensures.asks clean) c.in_ok-known.ensures.looks.found)

pub returns-in_default-clause-asked : goal.returns-in_default-clause-asked
returns-in_default-clause-asked g c = λ clean.
    told_asked g.S.Store _ c.args.conn.now c.told_for.new.conn c.args.change.now (c.in_ok-known.ensures.asks clean)

pub returns-else-can_count-clause-there : goal.returns-else-can_count-clause-there
returns-else-can_count-clause-there g c = λ clean.
    let change = c.args.change.now in
    let old = state g.S.Store c.args.conn.now in
    let known = c.in-Some.known in
    let looks = c.in_ok-known.ensures.looks in
    let cannot : can_count change known ≡ false = search rules in
    let none = ap (λ o. known_after change o) c.in-Some.is
    ∙ ap (λ b. if b then Some known else None) cannot in
    let kept = shows_open g.S.Store _ c.args.conn.now c.told_for.new.conn change none (c.in_ok-known.ensures.asks
    clean) clean in
    subst (λ b. IsSome (if b then Some known else None)) cannot
    (is_known_by change (rows_in old.now.trees) (c.requires.fits (looks.keeps kept).0) (Some known)
    (sym (looks.found kept) ∙ c.in-Some.is))

pub returns-else-can_count-clause-known : goal.returns-else-can_count-clause-known
returns-else-can_count-clause-known g c = λ clean.
    let change = c.args.change.now in
    let known = c.in-Some.known in
    let cannot : can_count change known ≡ false = search rules in
    let none = ap (λ o. known_after change o) c.in-Some.is
    ∙ ap (λ b. if b then Some known else None) cannot in
    sym none
    ∙ ap (known_after change) (told_is g.S.Store _ c.args.conn.now c.told_for.new.conn clean change
    (c.in_ok-known.ensures.asks clean) c.in_ok-known.ensures.looks.found)

pub returns-else-can_count-clause-asked : goal.returns-else-can_count-clause-asked
returns-else-can_count-clause-asked g c = λ clean.
    told_asked g.S.Store _ c.args.conn.now c.told_for.new.conn c.args.change.now (c.in_ok-known.ensures.asks clean)
