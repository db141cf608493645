-- Commands, notes and runs over books that stand in a building.
use Rattle.std.specs.Prelude.{List}
use Rattle.rand_core.specs.Stream.{Stream}
use Rattle.keycard_rules.specs.{Note.Note, declared.kept.Kept.Ghosts as KeptOf}
use Rattle.hotel_model.specs.{declared.command.Command.Command, declared.reply.Reply.Reply, Run.Steps, Run.Runs}
use Rattle.hotel_model.specs.declared.command.Command.TheVariants.{Reported}
use Rattle.hotel_books.specs.declared.books.Books.{Ghosts as BooksOf}
use Rattle.hotel_core.specs.Books.Stepped.{Noted, RunThrough, Stepped}
use Rattle.hotel_building.specs.Calls.{Houses, IfAccepted, MayRun}
use Rattle.building_calls.specs.Stands.{StaysIn}

-- What a command, a note and commands one after the other promise.
pub record CallsStay {S : Type 0} (houses : Houses) (K : KeptOf S) (B : BooksOf S) : Type 0 where
  -- a command that may be asked, if the desk accepts it
  pub step : (old new : S × Stream) (asked : Command × Reply) → Stepped K B old asked new
      → StaysIn houses K B.rows old.0 (λ b. IfAccepted houses.may_ask b old.1 asked.0)
      (λ h h'. Steps h old.1 asked.0 asked.1 h' new.1) new.0
  -- a note, if the desk takes it, whatever the source
  pub note : (old new : S) (note : Note) (reply : Reply) (source : Stream) → Noted K B note old new reply
      → StaysIn houses K B.rows old (λ b. IfAccepted houses.may_ask b source (Reported note))
      (λ h h'. Steps h source (Reported note) reply h' source) new
  -- commands, each of which may be asked in its turn
  pub run : (old new : S × Stream) (commands : List Command) (replies : List Reply)
      → RunThrough K B old commands replies new
      → StaysIn houses K B.rows old.0 (λ b. MayRun houses b old.1 commands)
      (λ h h'. Runs h old.1 commands replies h' new.1) new.0
