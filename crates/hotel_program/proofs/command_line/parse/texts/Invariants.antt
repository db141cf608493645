use Rattle.std.proofs.Common.{◌≡◌, take, Ok}
use Rattle.clap.specs.Words.{found_of, rows_of}
use Rattle.hotel_program.specs.Plans.{texts_in}
use Rattle.hotel_program.proofs.command_line.parse.texts.Given as goal

abbrev pub invariant-loop-name : goal.invariant-loop-name
invariant-loop-name l =
    texts_in (rows_of (found_of l.matches)) (take l.name-index l.name-items) ≡ Ok l.texts
