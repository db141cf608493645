use Rattle.std.proofs.Common.{◌≡◌, ◌≤◌, take, length, vec_len, vec_capacity}
use Rattle.std.specs.Prelude.{zip}
use Rattle.keycard_rules.specs.Calls.{Passes}
use Rattle.hotel_audit.specs.Import.{AreAnswered, LineImported}
use Rattle.hotel_audit.proofs.imports.import_lines.Given as goal

abbrev pub invariant-loop-line : goal.invariant-loop-line
invariant-loop-line g l =
    record {
      room : length l.lines ≤ vec_capacity l.answers;
      number : vec_len l.answers ≡ l.line-index;
      each : AreAnswered (take l.line-index l.lines) l.answers.items;
      through : Passes (LineImported g.B.Kept g.B.Books) l.fn.books
          (zip (take l.line-index l.lines) l.answers.items) l.books;
    }
