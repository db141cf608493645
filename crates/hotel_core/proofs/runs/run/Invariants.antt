use Rattle.std.proofs.Common.{◌≡◌, ◌≤◌, take, length, vec_len, vec_capacity, zip}
use Rattle.keycard_rules.specs.Calls.{Passes}
use Rattle.hotel_core.specs.Books.Stepped.{Stepped}
use Rattle.hotel_core.proofs.runs.run.Given as goal

abbrev pub invariant-loop-command : goal.invariant-loop-command
invariant-loop-command g l =
    let stream = g.R.Rng.stream in
    record {
      through : Passes (Stepped g.B.Kept g.B.Books) (l.fn.books, stream l.fn.source)
          (zip (take l.command-index l.commands) l.replies.items) (l.books, stream l.source);
      room : length l.commands ≤ vec_capacity l.replies;
      answered : vec_len l.replies ≡ l.command-index;
    }
