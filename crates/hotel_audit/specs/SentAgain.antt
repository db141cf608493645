-- What a file does that is sent again.
use Rattle.std.specs.Prelude.{◌≡◌, List, All, map}
use Rattle.rand_core.specs.Stream.{Stream}
use Rattle.hotel_model.specs.{declared.command.Command.Command, declared.reply.Reply.Reply, History.History, Run.Runs}
use Rattle.hotel_audit.specs.{declared.answer.LineAnswer.LineAnswer, declared.answer.LineAnswer.TheVariants.Taken}
use Rattle.hotel_audit.specs.{declared.answer.LineAnswer.TheVariants.Seen}
use Rattle.hotel_lock.specs.declared.line.Line.{Line}
use Rattle.hotel_audit.specs.Import.{AreAnswered, commands_of, replies_in}

-- the answer is Taken or Seen
abbrev pub IsTakenOrSeen : LineAnswer → Type 0
IsTakenOrSeen Taken = Unit {0}
IsTakenOrSeen Seen = Unit {0}
IsTakenOrSeen _ = ⊥

-- The lines with these answers lead from a history and a source to those at the end.
abbrev pub LinesLead : History → Stream → List Line → List LineAnswer → History → Stream → Type 0
LinesLead h s lines answers h' s' = AreAnswered lines answers × Runs h s (commands_of lines) (replies_in answers) h' s'

-- Lines that were all Taken or Seen, then whichever commands, then the same lines again: each is seen, and nothing
-- happens.
abbrev pub SeenAgain : Type 0
SeenAgain = (h mid later end : History) (s source rest s' : Stream) (lines : List Line)
    (answers again : List LineAnswer) (commands : List Command) (replies : List Reply)
    → All IsTakenOrSeen answers → LinesLead h s lines answers mid source → Runs mid source commands replies later rest
    → LinesLead later rest lines again end s'
    → (again ≡ map (λ line. Seen) lines) × (end ≡ later)
