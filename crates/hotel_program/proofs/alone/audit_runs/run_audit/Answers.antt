use Rattle.std.proofs.Common.{Result, ℕ, subst, ap, ◌∙◌}
use Rattle.hotel_program.specs.declared.faults.Fault.{Fault}
use Rattle.hotel_program.specs.Faults.{end_status, Reports}
use Rattle.hotel_program.proofs.alone.audit_runs.run_audit.Goals as goal

pub returns : goal.returns
returns g c =
    let e = c.import_and_write-end.ensures.ends in
    record {
      ends = (
        e.0,
        e.1,
        c.finish.ensures.status ∙ ap end_status e.2,
        subst (λ (r : Result ℕ Fault). Reports g.F.FaultSink.told c.args.faults.now r c.finish.new.faults) e.2
            c.finish.ensures.told,
        e.3,
        e.4,
      );
    }
