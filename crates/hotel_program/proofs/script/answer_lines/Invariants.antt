-- the lines that are done were answered, each in the state that the one before it left, and the others are left
use Rattle.std.proofs.Common.{◌≡◌, ◌+◌, ◌≤◌, length, take, drop}
use Rattle.hotel_streams.specs.Calls.{NoneForgotten}
use Rattle.hotel_program.specs.Script.Lines.{answered_lines}
use Rattle.hotel_program.specs.Script.WholeScript.{LinesAnswered}
use Rattle.hotel_program.proofs.script.answer_lines.Given as goal

abbrev pub invariant-loop-line : goal.invariant-loop-line
invariant-loop-line g l = record {
  fits : l.done + length l.rest ≤ length l.script;
  within : l.done ≤ length (answered_lines l.script);
  left : drop l.done (answered_lines l.script) ≡ answered_lines l.rest;
  went : LinesAnswered g.B.Kept g.B.Books g.R.Rng.stream g.W.Write.contents
      (l.initial.books, l.initial.source, l.initial.writer)
      (take l.done (answered_lines l.script)) (l.books, l.source, l.writer);
  calls : NoneForgotten l.initial.calls l.calls;
}

abbrev pub decreases-loop-line : goal.decreases-loop-line
decreases-loop-line g l = length l.rest
