use Rattle.std.proofs.Common.{◌≡◌, take, [], false}
use Rattle.clap.specs.Words.{app_of}
use Rattle.clap.specs.declared.builder.Command.TheViews.{out-Command}
use Rattle.hotel_program.specs.CommandLine.{leaf}
use Rattle.hotel_program.proofs.command_line.command.with_values.Given as goal

abbrev pub invariant-loop-value : goal.invariant-loop-value
invariant-loop-value l = record {
  shape : app_of l.command ≡ record { top = leaf l.name (take l.value-index l.values); subs = [] };
  globals : (out-Command l.command).has_globals ≡ false;
}
