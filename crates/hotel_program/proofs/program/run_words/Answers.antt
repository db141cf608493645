-- The status says whether the words are faulty.
use Rattle.std.proofs.Common.{Ok, Err, refl}
use Rattle.hotel_program.specs.Connections.{sockets}
use Rattle.hotel_program.specs.Plan.{ParseTo}
use Rattle.hotel_program.proofs.StatusLemmas.{of_plan}
use Rattle.hotel_program.proofs.WordsLemmas.{says_of_plan, says_of_usage}
use Rattle.hotel_program.proofs.program.run_words.Goals as goal

pub returns-in-Ok : goal.returns-in-Ok
returns-in-Ok g c =
    let e = c.in-Ok.ensures in
    let to : ParseTo _ (Ok c.in-Ok.plan) = record {
      clean = e.clean;
      act = e.act;
      db = e.db;
      seed = e.seed;
      value = tt;
      told = tt;
    } in
    let new = c.run_plan.new in (
      Ok c.in-Ok.plan,
      to,
      c.run_plan.ensures,
      says_of_plan _ _ _ to (of_plan g.I.Read.remaining g.W.Write.contents g.F.FaultSink
          (sockets g.E.Port.Listener g.E.Port.Caller.Caller) g.E.Surroundings g.E.Databases _ g.B.Kept g.B.Books
          c.in-Ok.plan c.run_plan.result
          (record {
            reader = c.args.reader.now;
            writer = c.args.writer.now;
            faults = c.args.faults.now;
            around = c.args.around.now;
          })
          (record { reader = new.reader; writer = new.writer; faults = new.faults; around = new.around })
          c.run_plan.ensures),
    )

pub returns-in-Err : goal.returns-in-Err
returns-in-Err g c =
    let e = c.in-Err.ensures in
    let to : ParseTo _ (Err c.in-Err.why) = record {
      clean = tt;
      act = tt;
      db = tt;
      seed = tt;
      value = e.value;
      told = e.told;
    } in (
      Err c.in-Err.why,
      to,
      (c.say_usage.ensures, refl, refl),
      says_of_usage g.W.Write.contents g.F.FaultSink.told g.F.FaultSink.shown _ c.in-Err.why c.say_usage.result
          c.args.writer.now c.say_usage.new.writer c.args.faults.now c.say_usage.new.faults to c.say_usage.ensures,
    )
