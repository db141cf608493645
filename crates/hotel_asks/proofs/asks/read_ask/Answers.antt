-- The number of values is refused only where it isn't the verb's.
use Rattle.std.proofs.Common.{rules}
use Rattle.hotel_asks.specs.{Asks.ask_of, Asks.ask_copies, Values.IsReading}
use Rattle.hotel_asks.proofs.Numbered.{misnumbered}
use Rattle.hotel_asks.proofs.asks.read_ask.Goals as goal

pub returns-in_err-read_command-clause-number : goal.returns-in_err-read_command-clause-number
returns-in_err-read_command-clause-number c =
    let wanted = ask_of c.args.verb c.args.values.now in
    let read : IsReading ask_copies wanted c.from_residual-in_err-read_command.result = search rules in
    misnumbered c.args.verb c.args.values.now ask_copies c.from_residual-in_err-read_command.result read
