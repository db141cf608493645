use Rattle.std.proofs.Common.{◌≡◌, ◌+◌, take, length, zip, ◌++◌, ◌∷◌, [], sym, ap, ◌∙◌, arith}
use Rattle.hotel_books.proofs.Names.{take_more}
use Rattle.hotel_core.proofs.OfCode.Happens.{zip-push}
use Rattle.std.proofs.lemmas.List.{take_all, length-take-le}
use Rattle.keycard_rules.proofs.CallsTogether.{passes_push}
use Rattle.hotel_core.specs.Books.Stepped.{Stepped}
use Rattle.hotel_core.proofs.runs.run.Goals as goal

pub loop-command-preserved : goal.loop-command-preserved
loop-command-preserved g c =
    let so_far = c.loop-command.invariant in
    let xs = c.args.commands.now in
    let i = c.loop-command.command-index in
    let replies = c.loop-command.replies in
    let command = c.command-item.result in
    let reply = c.step-reply.result in
    let e : take (i + 1) xs ≡ take i xs ++ command ∷ [] =
    take_more xs i command c.loop-command-test.true ∙ ap (λ x. take i xs ++ x ∷ []) (sym c.command-item.is) in
    record {
      through =
          let n : length replies.items ≡ length (take i xs) =
          omega (arith, length-take-le i xs (omega (arith, c.loop-command-test.true)), replies.ok.0, so_far.answered) in
          rw (e, c.in-Ok-push.ensures.items, zip-push (take i xs) replies.items command reply n)
          (passes_push (Stepped g.B.Kept g.B.Books) _
          (zip (take i xs) replies.items) so_far.through c.step-reply.ensures);
      room = omega (arith, c.in-Ok-push.ensures.capacity, so_far.room);
      answered = omega (arith, c.in-Ok-push.ensures.len, so_far.answered);
    }

pub returns-clause-through : goal.returns-clause-through
returns-clause-through g c =
    let xs = c.args.commands.now in
    let replies = c.loop-command.replies in
    let all : take c.loop-command.command-index xs ≡ xs = take_all _ _ c.loop-command-test.false in
    let n : length replies.items ≡ length xs = omega (
      arith,
      replies.ok.0,
      c.loop-command.invariant.answered,
      c.loop-command-test.false,
      c.loop-command.auto.command-index-end,
    ) in
    record { each = n; through = rw all at c.loop-command.invariant.through }
