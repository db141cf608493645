use Rattle.std.proofs.Common.{Result, ℕ, subst, ◌∙◌, ap}
use Rattle.hotel_program.specs.declared.faults.Fault.{Fault}
use Rattle.hotel_program.specs.Faults.{end_status, Reports}
use Rattle.hotel_program.proofs.ListRunLemmas.{answer_ends}
use Rattle.hotel_program.proofs.alone.list_runs.run_list.Goals as goal

pub returns : goal.returns
returns g c =
    let ended = c.write_list_or_refusal-end.ensures in
    let end = c.end_of_list.ensures in
    record {
      ends = (
        c.write_list_or_refusal-end.result,
        c.finish.ensures.status ∙ ap end_status end,
        subst (λ (e : Result ℕ Fault). Reports g.F.FaultSink.told c.args.faults.now e c.finish.new.faults) end
            c.finish.ensures.told,
        λ honest. answer_ends _ c.args.list.now _ _ _ (ended.text honest),
        ended.books,
      );
    }
