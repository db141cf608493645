use Rattle.std.proofs.Common.{◌≡◌, ℕ, refl, inl, sym, ap, ◌∙◌, arith, ◌+◌, Some}
use Rattle.keycard_rules.specs.Draw.{Draw}
use Rattle.keycard_rules.proofs.Drawing.{past-zero, past-next, so_far_none, so_far_more, found, examines, moved_on}
use Rattle.keycard_rules.proofs.Drawing.{no_more, answer_at, draw_is}
use Rattle.keycard_rules.proofs.Sinces.{risen_later, since_refl, since_then, stays_then}
use Rattle.keycard_rules.specs.declared.issued.LookFault.TheVariants as look
use Rattle.keycard_rules.proofs.CallsTogether.{counted_none}
use Rattle.keycard_rules.proofs.draw.draw_fresh.Goals as goal

pub loop-init : goal.loop-init
loop-init g c = record {
  moved = sym (past-zero _);
  since = since_refl;
  vouched = λ some honest. absurd (omega arith);
  stays = λ honest clean. inl clean;
  counted = λ honest why. refl;
  kept = λ h. g.I.Kept.kept_refl _;
  stop = g.I.Kept.no_more_refl _;
  so_far = λ h. so_far_none _ _;
}

pub returns-in-Ok-false-clause-drawn : goal.returns-in-Ok-false-clause-drawn
returns-in-Ok-false-clause-drawn g c = λ honest.
    let clean = c.in-Ok-false.ensures.looks.leaves.vouched honest refl in
    let so_far = c.loop.invariant.so_far (c.is_issued.ensures.looks.leaves.since.was_honest honest) in
    let before = c.is_issued.ensures.looks.leaves.since.was_clean clean in
    let hit = answer_at _ _ _ _ _ _ (c.in-Ok-false.ensures.answer honest) c.in-Ok-false.field-0-test
    (g.I.Kept.kept_issued _ _ (c.loop.invariant.kept before)) c.of_word-code.ensures in
    let d = found _ _ _ _ _ _ so_far c.loop-test.true c.next_u64.ensures hit in
    let m = moved_on _ _ _ _ _ _ so_far c.loop-test.true c.next_u64.ensures in
    draw_is _ _ _ _ _ (d ∙ ap (λ (x : ℕ). let r : Draw = record { code = Some x; examined = c.loop.counter + 1 } in
    r) (sym c.of_word-code.ensures)) m

pub returns-in-Err-Memory-clause-drawn : goal.returns-in-Err-Memory-clause-drawn
returns-in-Err-Memory-clause-drawn g c = λ honest.
    let before = c.is_issued.ensures.looks.leaves.since.was_honest honest in (
      _,
      examines _ _ _ _ _ _ (c.loop.invariant.so_far before) c.loop-test.true c.next_u64.ensures,
      moved_on _ _ _ _ _ _ (c.loop.invariant.so_far before) c.loop-test.true c.next_u64.ensures,
    )

pub returns-in-Err-Store-clause-drawn : goal.returns-in-Err-Store-clause-drawn
returns-in-Err-Store-clause-drawn g c = λ honest.
    let before = c.is_issued.ensures.looks.leaves.since.was_honest honest in (
      _,
      examines _ _ _ _ _ _ (c.loop.invariant.so_far before) c.loop-test.true c.next_u64.ensures,
      moved_on _ _ _ _ _ _ (c.loop.invariant.so_far before) c.loop-test.true c.next_u64.ensures,
    )

pub returns-in-Err-Memory-clause-rose : goal.returns-in-Err-Memory-clause-rose
returns-in-Err-Memory-clause-rose g c =
    risen_later _ _ _ (c.loop.invariant.since.counted look.Memory)
    (rw c.in-Err-Memory.field-0-is at c.in-Err-Memory.ensures.looks.rose)

pub returns-in-Err-Store-clause-rose : goal.returns-in-Err-Store-clause-rose
returns-in-Err-Store-clause-rose g c =
    risen_later _ _ _ (c.loop.invariant.since.counted look.Store)
    (rw c.in-Err-Store.field-0-is at c.in-Err-Store.ensures.looks.rose)

pub loop-preserved : goal.loop-preserved
loop-preserved g c = record {
  moved = past-next _ _ _ _ _ c.loop.invariant.moved c.next_u64.ensures;
  since = since_then c.loop.invariant.since c.is_issued.ensures.looks.leaves.since;
  vouched = λ some honest. c.in-Ok-true.ensures.looks.leaves.vouched honest refl;
  stays = λ honest.
      stays_then (c.loop.invariant.stays (c.is_issued.ensures.looks.leaves.since.was_honest honest))
      c.is_issued.ensures.looks.leaves.since (c.is_issued.ensures.looks.leaves.stays honest) c.loop.invariant.since;
  counted = λ honest why.
      counted_none why _ _ _ (c.loop.invariant.counted (c.is_issued.ensures.looks.leaves.since.was_honest honest) why)
      (c.in-Ok-true.ensures.looks.leaves.counted honest why);
  kept = λ clean.
      g.I.Kept.kept_trans _ _ _ (c.loop.invariant.kept (c.is_issued.ensures.looks.leaves.since.was_clean clean))
      (c.is_issued.ensures.looks.kept clean);
  stop = g.I.Kept.no_more_trans _ _ _ c.loop.invariant.stop c.is_issued.ensures.looks.stop;
  so_far = λ honest.
      let clean = c.in-Ok-true.ensures.looks.leaves.vouched honest refl in
      let so_far = c.loop.invariant.so_far (c.is_issued.ensures.looks.leaves.since.was_honest honest) in
      let before = c.is_issued.ensures.looks.leaves.since.was_clean clean in
      let hit = answer_at _ _ _ _ _ _ (c.in-Ok-true.ensures.answer honest) c.in-Ok-true.field-0-test
      (g.I.Kept.kept_issued _ _ (c.loop.invariant.kept before)) c.of_word-code.ensures in
      so_far_more _ _ _ _ _ _ so_far c.loop-test.true c.next_u64.ensures hit;
}

pub returns-clause-drawn : goal.returns-clause-drawn
returns-clause-drawn g c = λ honest.
    let d = no_more _ _ _ _ (c.loop.invariant.so_far honest) c.loop-test.false in
    draw_is _ _ _ _ _ d ((c.loop.invariant.so_far honest).moved)

pub returns-in-Ok-false-clause-moved : goal.returns-in-Ok-false-clause-moved
returns-in-Ok-false-clause-moved g c =
    (c.loop.counter + 1, omega arith, past-next _ _ _ _ _ c.loop.invariant.moved c.next_u64.ensures)

pub returns-in-Err-Memory-clause-moved : goal.returns-in-Err-Memory-clause-moved
returns-in-Err-Memory-clause-moved g c =
    (c.loop.counter + 1, omega arith, past-next _ _ _ _ _ c.loop.invariant.moved c.next_u64.ensures)

pub returns-in-Err-Store-clause-moved : goal.returns-in-Err-Store-clause-moved
returns-in-Err-Store-clause-moved g c =
    (c.loop.counter + 1, omega arith, past-next _ _ _ _ _ c.loop.invariant.moved c.next_u64.ensures)

pub returns-clause-moved : goal.returns-clause-moved
returns-clause-moved g c = (c.loop.counter, omega arith, c.loop.invariant.moved)

pub returns-clause-none_moved : goal.returns-clause-none_moved
returns-clause-none_moved g c = λ is.
    let all : c.loop.counter ≡ 64 = omega arith in
    rw all at c.loop.invariant.moved
