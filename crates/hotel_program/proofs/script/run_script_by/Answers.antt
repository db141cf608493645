use Rattle.std.proofs.Common.{ap, rules}
use Rattle.hotel_program.specs.Script.WholeScript.{IsInput}
use Rattle.hotel_streams.proofs.CallsLemmas.{then_none_forgotten}
use Rattle.hotel_program.proofs.OfScript.CountLemmas.{begun, not_cut, on_cut, the_err, unread_end}
use Rattle.hotel_program.proofs.OfScript.ScriptLemmas.{script_ran, unread_ran}
use Rattle.hotel_program.proofs.script.run_script_by.Goals as goal

pub returns-clause-ends : goal.returns-clause-ends
returns-clause-ends g c =
    let script = c.deref.result.now in
    let input : IsInput (g.I.Read.remaining c.args.reader.now) script = search rules in
    let ensured = c.answer_lines.ensures in
    script_ran g.B.Kept g.B.Books g.R.Rng.stream g.W.Write.contents _ _ _ script c.answer_lines.result input
    ensured.count ensured.ok ensured.cut ensured.sure

pub returns-clause-calls : goal.returns-clause-calls
returns-clause-calls g c = record {
  read = λ e. absurd (begun c.answer_lines.result c.answer_lines.ensures.sure e);
  write = on_cut _ c.answer_lines.result c.answer_lines.ensures.calls.failed;
  none_forgotten = then_none_forgotten _ _ _ c.in_ok-script.ensures.calls.none_forgotten
      c.answer_lines.ensures.calls.none_forgotten;
}

pub returns-in_err-script-clause-ends : goal.returns-in_err-script-clause-ends
returns-in_err-script-clause-ends g c =
    unread_ran g.B.Kept g.B.Books g.R.Rng.stream g.W.Write.contents _ _ c.from_residual.result _
    c.from_residual.ensures.1 (λ e. c.in_err-script.ensures.large (ap the_err e))

pub returns-in_err-script-clause-calls : goal.returns-in_err-script-clause-calls
returns-in_err-script-clause-calls g c = record {
  read = λ e. c.in_err-script.ensures.calls.failed
      (unread_end c.from_residual.result _ c.from_residual.ensures.1 e);
  write = not_cut _ c.from_residual.result _ c.from_residual.ensures.1;
  none_forgotten = c.in_err-script.ensures.calls.none_forgotten;
}
