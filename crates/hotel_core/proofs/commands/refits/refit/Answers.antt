use Rattle.std.proofs.Common.{◌≡◌, true, false, nat_le, is_some, refl, ap}
use Rattle.hotel_books.proofs.Names.{RoomTaken, FitsUsedUp, outcome_on, words, draw_from, codes_in, by_draw}
use Rattle.hotel_model.specs.declared.reply.Reply.TheVariants as reply
use Rattle.hotel_model.specs.declared.change.Change.TheVariants as change
use Rattle.hotel_core.proofs.OfCode.Parts.{begun, then_found, stopped, refuses}
use Rattle.hotel_core.proofs.{OfCode.DrawParts.undrawn, OfCode.DrawParts.drawn_ends, OfCode.AnswerParts.drawn_answers}
use Rattle.hotel_core.proofs.OfCode.FitParts.{used_up, is_left}
use Rattle.hotel_model.specs.declared.command.Command.TheVariants as command
use Rattle.hotel_core.proofs.commands.refits.refit.Goals as goal

pub returns-in_err-today : goal.returns-in_err-today
unfolding outcome_on
returns-in_err-today g c =
    stopped c.from_residual.result c.from_residual.ensures.1 begun c.in_err-today.ensures.finds (λ k e. rw e refl)

pub returns-in_err-row : goal.returns-in_err-row
unfolding outcome_on
returns-in_err-row g c =
    stopped c.from_residual-in_err-row.result c.from_residual-in_err-row.ensures.1
    (then_found begun c.in_ok-today.ensures.finds) c.in_err-row.ensures (λ k e. rw (k.1, e) refl)

pub returns-then-is_some : goal.returns-then-is_some
unfolding outcome_on
returns-then-is_some g c =
    let taken : is_some c.in_ok-row.row.party ≡ true = cc in
    refuses RoomTaken refl (then_found (then_found begun c.in_ok-today.ensures.finds) c.in_ok-row.ensures)
    (λ k. rw (k.0.1, k.1, taken) refl)

pub returns-in_default : goal.returns-in_default
unfolding outcome_on
returns-in_default g c =
    let free : is_some c.in_ok-row.row.party ≡ false = cc in
    let used : nat_le 99 c.in_ok-row.row.fit ≡ true = used_up c.in_ok-row.row.fit _ c.next.ensures c.in_default.is in
    refuses FitsUsedUp refl (then_found (then_found begun c.in_ok-today.ensures.finds) c.in_ok-row.ensures)
    (λ k. rw (k.0.1, k.1, free, used) refl)

pub returns-in_err-code : goal.returns-in_err-code
unfolding outcome_on
returns-in_err-code g c =
    let free : is_some c.in_ok-row.row.party ≡ false = cc in
    let left = is_left c.in_ok-row.row.fit c.in-Some.fit _ c.next.ensures c.in-Some.is in
    undrawn c.from_residual-in_err-code.result (λ code. reply.Refitted code c.in-Some.fit)
    (λ code. change.Refit c.args.room code c.in-Some.fit) c.from_residual-in_err-code.ensures.1
    (then_found (then_found begun c.in_ok-today.ensures.finds) c.in_ok-row.ensures) c.in_err-code.ensures
    (λ k. rw (k.0.1, k.1, free, left.0) (ap (λ n. by_draw
    (draw_from (codes_in (g.B.Books.rows c.args.books.now)) (words 64 (g.R.Rng.stream c.args.source.now)))
    (λ code. reply.Refitted code n) (λ code. change.Refit c.args.room code n)) left.1))

pub make-requires-clause-answered : goal.make-requires-clause-answered
unfolding outcome_on
make-requires-clause-answered g c =
    let free : is_some c.in_ok-row.row.party ≡ false = cc in
    let left = is_left c.in_ok-row.row.fit c.in-Some.fit _ c.next.ensures c.in-Some.is in
    drawn_answers (λ code. reply.Refitted code c.in-Some.fit) (λ code. change.Refit c.args.room code c.in-Some.fit)
    (then_found (then_found begun c.in_ok-today.ensures.finds) c.in_ok-row.ensures) c.in_ok-code.ensures
    (λ clean k. (
      words 64 (g.R.Rng.stream c.args.source.now),
      command.Refit c.args.room,
      tt,
      rw (k.0.1, k.1, free, left.0) (ap (λ n. by_draw
          (draw_from (codes_in (g.B.Books.rows c.args.books.now)) (words 64 (g.R.Rng.stream c.args.source.now)))
          (λ code. reply.Refitted code n) (λ code. change.Refit c.args.room code n)) left.1),
    ))

pub returns : goal.returns
unfolding outcome_on
returns g c =
    let free : is_some c.in_ok-row.row.party ≡ false = cc in
    let left = is_left c.in_ok-row.row.fit c.in-Some.fit _ c.next.ensures c.in-Some.is in
    drawn_ends g.met.B.Books.change_after
    (λ code. reply.Refitted code c.in-Some.fit) (λ code. change.Refit c.args.room code c.in-Some.fit)
    (then_found (then_found begun c.in_ok-today.ensures.finds) c.in_ok-row.ensures)
    c.in_ok-code.ensures (c.make.ensures.steps _)
    (λ k. rw (k.0.1, k.1, free, left.0) (ap (λ n. by_draw
    (draw_from (codes_in (g.B.Books.rows c.args.books.now)) (words 64 (g.R.Rng.stream c.args.source.now)))
    (λ code. reply.Refitted code n) (λ code. change.Refit c.args.room code n)) left.1))
