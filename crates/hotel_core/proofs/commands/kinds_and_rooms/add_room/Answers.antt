use Rattle.std.proofs.Common.{◌≡◌, true, false, is_some, refl}
use Rattle.hotel_books.proofs.Names.{NoKind, RoomExists, outcome_on, words}
use Rattle.hotel_model.specs.declared.reply.Reply.TheVariants as reply
use Rattle.hotel_model.specs.declared.change.Change.TheVariants as change
use Rattle.hotel_core.proofs.OfCode.Parts.{begun, then_found, stopped, refuses, only}
use Rattle.hotel_core.proofs.{OfCode.DrawParts.undrawn, OfCode.DrawParts.drawn_ends, OfCode.AnswerParts.drawn_answers}
use Rattle.hotel_model.specs.declared.command.Command.TheVariants as command
use Rattle.hotel_core.proofs.commands.kinds_and_rooms.add_room.Goals as goal

pub returns-in_err-today : goal.returns-in_err-today
unfolding outcome_on
returns-in_err-today g c =
    stopped c.from_residual.result c.from_residual.ensures.1 begun c.in_err-today.ensures.finds (λ k e. rw e refl)

pub returns-in_err-is_kind : goal.returns-in_err-is_kind
unfolding outcome_on
returns-in_err-is_kind g c =
    stopped c.from_residual-in_err-is_kind.result c.from_residual-in_err-is_kind.ensures.1
    (then_found begun c.in_ok-today.ensures.finds) c.in_err-is_kind.ensures (λ k e. cc)

pub returns-then-not-branch : goal.returns-then-not-branch
unfolding outcome_on
returns-then-not-branch g c =
    refuses NoKind refl (then_found (then_found begun c.in_ok-today.ensures.finds) c.in_ok-is_kind.ensures)
    (λ k. rw (k.0.1, only k.1, c.if-not-branch.true) refl)

pub returns-in_err-room_if_there : goal.returns-in_err-room_if_there
unfolding outcome_on
returns-in_err-room_if_there g c =
    stopped c.from_residual-in_err-room_if_there.result c.from_residual-in_err-room_if_there.ensures.1
    (then_found (then_found begun c.in_ok-today.ensures.finds) c.in_ok-is_kind.ensures)
    c.in_err-room_if_there.ensures (λ k e. cc)

pub returns-then-is_some : goal.returns-then-is_some
unfolding outcome_on
returns-then-is_some g c =
    let there : is_some c.in_ok-room_if_there.field-0 ≡ true = cc in
    refuses RoomExists refl (then_found
    (then_found (then_found begun c.in_ok-today.ensures.finds) c.in_ok-is_kind.ensures) c.in_ok-room_if_there.ensures)
    (λ k. rw (k.0.0.1, only k.0.1, c.if-not-branch.false, only k.1, there) refl)

pub returns-in_err-code : goal.returns-in_err-code
unfolding outcome_on
returns-in_err-code g c =
    let there : is_some c.in_ok-room_if_there.field-0 ≡ false = cc in
    undrawn c.from_residual-in_err-code.result (λ code. reply.RoomAdded code)
    (λ code. change.Room c.args.room c.args.kind.now code) c.from_residual-in_err-code.ensures.1
    (then_found (then_found (then_found begun c.in_ok-today.ensures.finds) c.in_ok-is_kind.ensures)
    c.in_ok-room_if_there.ensures) c.in_err-code.ensures
    (λ k. rw (k.0.0.1, only k.0.1, c.if-not-branch.false, only k.1, there) refl)

pub make-requires-clause-answered : goal.make-requires-clause-answered
unfolding outcome_on
make-requires-clause-answered g c =
    let there : is_some c.in_ok-room_if_there.field-0 ≡ false = cc in
    drawn_answers (λ code. reply.RoomAdded code) (λ code. change.Room c.args.room c.args.kind.now code)
    (then_found (then_found (then_found begun c.in_ok-today.ensures.finds) c.in_ok-is_kind.ensures)
    c.in_ok-room_if_there.ensures) c.in_ok-code.ensures
    (λ clean k. (
      words 64 (g.R.Rng.stream c.args.source.now),
      command.AddRoom c.args.room c.args.kind.now,
      c.requires,
      rw (k.0.0.1, only k.0.1, c.if-not-branch.false, only k.1, there) refl,
    ))

pub returns : goal.returns
unfolding outcome_on
returns g c =
    let there : is_some c.in_ok-room_if_there.field-0 ≡ false = cc in
    drawn_ends g.met.B.Books.change_after
    (λ code. reply.RoomAdded code) (λ code. change.Room c.args.room c.args.kind.now code)
    (then_found (then_found (then_found begun c.in_ok-today.ensures.finds) c.in_ok-is_kind.ensures)
    c.in_ok-room_if_there.ensures) c.in_ok-code.ensures (c.make.ensures.steps _)
    (λ k. rw (k.0.0.1, only k.0.1, c.if-not-branch.false, only k.1, there) refl)
