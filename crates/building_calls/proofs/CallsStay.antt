-- Commands, notes and runs over books that stand in a building.
use Rattle.std.proofs.Common.{List, [], ◌∷◌, refl}
use Rattle.rand_core.specs.Stream.{Stream}
use Rattle.keycard_rules.specs.declared.kept.Kept.{Ghosts as KeptOf}
use Rattle.hotel_model.specs.{Run.Runs, Run.Steps}
use Rattle.hotel_model.specs.{declared.command.Command.Command, declared.reply.Reply.Reply}
use Rattle.hotel_model.specs.declared.command.Command.TheVariants.{Reported}
use Rattle.hotel_books.specs.declared.books.Books.{Ghosts as BooksOf}
use Rattle.hotel_core.proofs.OfCode.Happens.{runs_follow}
use Rattle.hotel_building.specs.Calls.{Houses, IfAccepted, MayRun}
use Rattle.building_calls.specs.Calls.{CallsStay}
use Rattle.building_calls.proofs.Stays.{Known, LeadsOut, stays_by}

pub run_out : (houses : Houses) → Known houses → (source left : Stream) (commands : List Command)
    (replies : List Reply) → LeadsOut houses (λ b. MayRun houses b source commands)
    (λ h h'. Runs h source commands replies h' left)
run_out houses facts source left commands replies b later ok may reached runs =
    facts.run b source left commands replies later ok may reached runs

pub step_out : (houses : Houses) → Known houses → (source left : Stream) (command : Command) (reply : Reply)
    → LeadsOut houses (λ b. IfAccepted houses.may_ask b source command)
    (λ h h'. Steps h source command reply h' left)
step_out houses facts source left command reply b later ok may reached step =
    facts.run b source left (command ∷ []) (reply ∷ []) later ok (may, λ next r l can on s. tt) reached
    (later, left, step, (refl, refl))

pub calls_stay : (houses : Houses) → Known houses → {S : Type 0} (K : KeptOf S) (B : BooksOf S)
    → CallsStay houses K B
calls_stay houses facts K B = record {
  step = λ old new asked stepped. stays_by houses facts K B.rows _ _ old.0 new.0
      (step_out houses facts old.1 new.1 asked.0 asked.1) stepped.happened;
  note = λ old new note reply source noted. stays_by houses facts K B.rows _ _ old new
      (step_out houses facts source source (Reported note) reply) (noted source).happened;
  run = λ old new commands replies through. stays_by houses facts K B.rows _ _ old.0 new.0
      (run_out houses facts old.1 new.1 commands replies) (runs_follow K B old new commands replies through).happened;
}
