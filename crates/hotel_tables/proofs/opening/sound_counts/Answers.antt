use Rattle.std.proofs.Common.{◌∙◌, sym, inr}
use Rattle.hotel_tables.proofs.Opened.{stored_meta}
use Rattle.hotel_tables.proofs.opening.sound_counts.Goals as goal

pub returns-in-Ok-Err-clause-err : goal.returns-in-Ok-Err-clause-err
returns-in-Ok-Err-clause-err c = λ version db stored.
    let tested = rw (c.in-Ok-Err.is, c.in-Ok-Err.field-0-is) at c.counts_if_sound.ensures in
    (c.args.stored.now, stored, tested)

pub returns-then-not-all_natural-clause-err : goal.returns-then-not-all_natural-clause-err
returns-then-not-all_natural-clause-err c = λ version db stored.
    let tested = rw (c.in-Ok-Ok.is, c.in-Ok-Ok.field-0-is) at c.counts_if_sound.ensures in
    inr (
      stored_meta c.args.stored.now db stored,
      inr (c.args.stored.now, stored, tested.0, sym c.all_natural.ensures ∙ c.if-not-all_natural.true),
    )

pub returns-clause-ok : goal.returns-clause-ok
returns-clause-ok c =
    let tested = rw (c.in-Ok-Ok.is, c.in-Ok-Ok.field-0-is) at c.counts_if_sound.ensures in
    (tested.1, tested.0, sym c.all_natural.ensures ∙ c.if-not-all_natural.false)
