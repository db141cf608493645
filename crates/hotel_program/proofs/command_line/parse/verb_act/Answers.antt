use Rattle.std.proofs.Common.{◌∙◌, ap, Err}
use Rattle.clap.specs.Words.{found_of, rows_of}
use Rattle.hotel_asks.specs.Names.{names_of}
use Rattle.hotel_program.proofs.PlanLemmas.{as_many_texts}
use Rattle.hotel_asks.specs.declared.values.AskFault.TheVariants.{Values}
use Rattle.hotel_program.proofs.command_line.parse.verb_act.Goals as goal

pub unreachable-requires : goal.unreachable-requires
unreachable-requires c =
    c.read_ask.ensures.number (c.in-Err-Values-Number.is
    ∙ ap Err (c.in-Err-Values-Number.field-0-is ∙ ap Values c.in-Err-Values-Number.field-0-0-is))
    (as_many_texts (rows_of (found_of c.args.matches.now)) (names_of c.args.verb) _ c.in_ok-texts.ensures)
