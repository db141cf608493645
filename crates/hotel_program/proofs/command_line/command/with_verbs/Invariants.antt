use Rattle.std.proofs.Common.{◌≡◌, map, take, false, fold}
use Rattle.clap.specs.Words.{app_of, with_subcommand}
use Rattle.clap.specs.declared.builder.Command.TheViews.{out-Command}
use Rattle.hotel_asks.specs.Verbs.{texts}
use Rattle.hotel_program.specs.CommandLine.{options, verb_leaf}
use Rattle.hotel_program.proofs.command_line.command.with_verbs.Given as goal

abbrev pub invariant-loop-row : goal.invariant-loop-row
invariant-loop-row l = record {
  shape : app_of l.command ≡ fold with_subcommand options (map verb_leaf (texts (take l.row-index l.verbs)));
  globals : (out-Command l.command).has_globals ≡ false;
}
