-- What one command that is carried out alone comes to.
use Rattle.std.specs.Prelude.{ℕ, Bool, true, false, List, Option, Result, Ok, Err}
use Rattle.std.specs.Io.KnownBytes.{Appends}
use Rattle.hotel_core.specs.Texts.{reply_text}
use Rattle.hotel_model.specs.declared.reply.Reply.{Reply}
use Rattle.hotel_streams.specs.Bytes.{AppendsPrefix}
use Rattle.hotel_program.specs.Statuses.{exit_of_reply}
use Rattle.hotel_program.specs.declared.faults.Fault.{Fault}
use Rattle.hotel_program.specs.declared.faults.Fault.TheVariants.{Write}

-- The exit status of a reply; or the fault, where a write of it failed.
abbrev pub command_end : Reply → Bool → Result ℕ Fault
command_end reply false = Ok (exit_of_reply reply)
command_end reply true = Err Write

-- What a writer took of a reply: its text, or a prefix of it where a write failed.
abbrev pub WritesReply : Option (List ℕ) → Option (List ℕ) → Reply → Bool → Type 0
WritesReply old new reply false = Appends old new (reply_text reply)
WritesReply old new reply true = AppendsPrefix old new (reply_text reply)
