use Rattle.std.proofs.Common.{◌≡◌, ◌≤◌}
use Rattle.keycard_rules.specs.{Since.Since, Leaves.StaysClean, Draw.past, Rise.Counts}
use Rattle.keycard_rules.proofs.Drawing.{SoFar}
use Rattle.keycard_rules.proofs.draw.draw_fresh.Given as goal

abbrev pub invariant-loop : goal.invariant-loop
invariant-loop g l =
    let issued = g.I.Kept.issued in
    let stream = g.R.Rng.stream in
    let is_clean = g.I.Kept.is_clean in
    let is_honest = g.I.Kept.is_honest in
    record {
      moved : stream l.source ≡ past l.counter (stream l.fn.source);
      since : Since g.I.Kept l.fn.issued l.issued;
      vouched : 1 ≤ l.counter → is_honest l.issued → is_clean l.issued;
      stays : is_honest l.issued → StaysClean g.I.Kept l.fn.issued l.issued;
      counted : is_honest l.issued → Counts (λ why. 0) (g.I.Kept.failures l.fn.issued) (g.I.Kept.failures l.issued);
      kept : is_clean l.issued → g.I.Kept.is_kept l.fn.issued l.issued;
      stop : g.I.Kept.leaves_no_more l.fn.issued l.issued;
      so_far : is_honest l.issued → SoFar (issued l.fn.issued) (stream l.fn.source) l.counter (stream l.source);
    }
