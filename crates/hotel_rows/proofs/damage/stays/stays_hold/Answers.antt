use Rattle.std.proofs.Common.{map, ap, sym, ◌∙◌}
use Rattle.hotel_rows.specs.Keys.{are_numbered, stay_key}
use Rattle.hotel_rows.proofs.OfCounts.Countable.{rooms_told, stays_told, nights_told}
use Rattle.hotel_rows.proofs.OfDamage.InTurn.{first_fails, second_fails, third_tells}
use Rattle.hotel_rows.proofs.OfDamage.StaysTogether.{stays_together}
use Rattle.hotel_rows.proofs.damage.stays.stays_hold.Goals as goal

pub returns-then-not-are_numbered : goal.returns-then-not-are_numbered
returns-then-not-are_numbered c =
    let order = c.are_numbered.ensures
    ∙ ap are_numbered (c.deref-2.ensures.value ∙ c.in_ok-keys.ensures ∙ ap (map stay_key) c.deref.ensures.value) in
    sym (first_fails _ _ (stays_together c.args.stored.now) (sym order ∙ c.if-not-are_numbered.true))

pub returns-then-not-stays_fit : goal.returns-then-not-stays_fit
returns-then-not-stays_fit c =
    let order = c.are_numbered.ensures
    ∙ ap are_numbered (c.deref-2.ensures.value ∙ c.in_ok-keys.ensures ∙ ap (map stay_key) c.deref.ensures.value) in
    sym (second_fails _ (stays_together c.args.stored.now) (sym order ∙ c.if-not-are_numbered.false)
    (sym c.stays_fit.ensures ∙ c.if-not-stays_fit.true))

pub counts_of-requires-clause-rooms : goal.counts_of-requires-clause-rooms
counts_of-requires-clause-rooms c = rooms_told c.args.stored.now c.requires.kinds_hold c.requires.rooms_hold

pub counts_of-requires-clause-stays : goal.counts_of-requires-clause-stays
counts_of-requires-clause-stays c =
    let order = c.are_numbered.ensures
    ∙ ap are_numbered (c.deref-2.ensures.value ∙ c.in_ok-keys.ensures ∙ ap (map stay_key) c.deref.ensures.value) in
    stays_told c.args.stored.now c.requires.kinds_hold c.requires.rooms_hold
    (sym order ∙ c.if-not-are_numbered.false) (sym c.stays_fit.ensures ∙ c.if-not-stays_fit.false)

pub nights_fit-requires-clause-told : goal.nights_fit-requires-clause-told
nights_fit-requires-clause-told c =
    nights_told c.args.stored.now c.in_ok-counts.counts c.requires.kinds_hold c.requires.rooms_hold
    c.in_ok-counts.ensures (sym c.stays_fit.ensures ∙ c.if-not-stays_fit.false)

pub returns-then-not-nights_fit : goal.returns-then-not-nights_fit
returns-then-not-nights_fit c =
    let order = c.are_numbered.ensures
    ∙ ap are_numbered (c.deref-2.ensures.value ∙ c.in_ok-keys.ensures ∙ ap (map stay_key) c.deref.ensures.value) in
    sym (third_tells (stays_together c.args.stored.now) (sym order ∙ c.if-not-are_numbered.false)
    (sym c.stays_fit.ensures ∙ c.if-not-stays_fit.false)) ∙ sym c.nights_fit.ensures ∙ c.if-not-nights_fit.true

pub returns : goal.returns
returns c =
    let order = c.are_numbered.ensures
    ∙ ap are_numbered (c.deref-2.ensures.value ∙ c.in_ok-keys.ensures ∙ ap (map stay_key) c.deref.ensures.value) in (
      sym (third_tells (stays_together c.args.stored.now) (sym order ∙ c.if-not-are_numbered.false)
          (sym c.stays_fit.ensures ∙ c.if-not-stays_fit.false)) ∙ sym c.nights_fit.ensures ∙ c.if-not-nights_fit.false,
      c.in_ok-counts.ensures,
    )
