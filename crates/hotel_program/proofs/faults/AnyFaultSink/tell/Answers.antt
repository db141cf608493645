use Rattle.hotel_program.specs.Faults.{fault_text}
use Rattle.hotel_program.proofs.FaultLemmas.{prefix_taken, taken_whole}
use Rattle.hotel_program.proofs.faults.AnyFaultSink.tell.Goals as goal

pub returns-clause-told : goal.returns-clause-told
returns-clause-told g c = prefix_taken c.write_fault.result _ _
    (fault_text c.args.fault.now) c.write_fault.ensures.writes.ok c.write_fault.ensures.writes.err

pub returns-clause-heard : goal.returns-clause-heard
returns-clause-heard g c = taken_whole c.write_fault.result _ _
    (fault_text c.args.fault.now) _ c.write_fault.ensures.writes.ok c.write_fault.ensures.writes.calls.failed
