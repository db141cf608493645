use Rattle.std.proofs.Common.{◌≡◌, ◌==◌, ◌&&◌, true, false, nat_lt, refl, sym, ◌∙◌}
use Rattle.hotel_books.proofs.Names.{IsUntaken, refused}
use Rattle.hotel_model.specs.declared.reply.Refusal.TheVariants as refusal
use Rattle.hotel_core.proofs.OfCode.Parts.{given, then_found, stopped, halted, refuses, ends}
use Rattle.hotel_model.proofs.OfTables.Tests.{not_true}
use Rattle.hotel_core.proofs.{OfCode.NoteParts.not_false, OfCode.AnswerParts.answers, OfCode.AnswerParts.comes_of}
use Rattle.hotel_books.proofs.OfCode.NoteFields.{room_is}
use Rattle.hotel_core.proofs.commands.recodings.recode.Goals as goal

pub returns-in_err-held : goal.returns-in_err-held
returns-in_err-held g c = λ source.
    halted c.from_residual.result c.from_residual.ensures.1 (given (IsUntaken c.args.note.now c.args.row.now)
    c.requires.untaken) (rw (room_is c.note.view_is) at c.in_err-held.ensures) (λ w k. w.held _ _ k.0)

pub returns-then-ne : goal.returns-then-ne
returns-then-ne g c = λ source.
    let differ : (c.in_ok-held.held == c.args.from) ≡ false = not_true _ (sym c.if-ne.ensures) in
    refuses refusal.HeldDiffers refl (then_found (given (IsUntaken c.args.note.now c.args.row.now) c.requires.untaken)
    (rw (room_is c.note.view_is) at c.in_ok-held.ensures))
    (λ k. rw (k.0.0, k.1, differ) (refl {a = refused refusal.HeldDiffers}))

pub returns-in_err-awaited : goal.returns-in_err-awaited
returns-in_err-awaited g c = λ source.
    let same : (c.in_ok-held.held == c.args.from) ≡ true = not_false _ (sym c.if-ne.ensures) in
    stopped c.from_residual-in_err-awaited.result c.from_residual-in_err-awaited.ensures.1
    (then_found (given (IsUntaken c.args.note.now c.args.row.now) c.requires.untaken)
    (rw (room_is c.note.view_is) at c.in_ok-held.ensures))
    c.in_err-awaited.ensures (λ k e. rw (k.0.0, k.1, same, e) refl)

pub returns-then-not-is_awaited : goal.returns-then-not-is_awaited
returns-then-not-is_awaited g c = λ source.
    let same : (c.in_ok-held.held == c.args.from) ≡ true = not_false _ (sym c.if-ne.ensures) in
    let passed : ((c.in_ok-awaited.awaited.room == c.args.note.now.room)
    && nat_lt c.args.row.now.lock_place c.in_ok-awaited.awaited.place) ≡ false =
    rw (room_is c.note.view_is) at (sym c.is_awaited.ensures ∙ c.if-not-is_awaited.true) in
    refuses refusal.NotAwaited refl (then_found (then_found (given (IsUntaken c.args.note.now c.args.row.now)
    c.requires.untaken) (rw (room_is c.note.view_is) at c.in_ok-held.ensures)) c.in_ok-awaited.ensures)
    (λ k. rw (k.0.0.0, k.0.1, same, k.1, passed) (refl {a = refused refusal.NotAwaited}))

pub make-requires-clause-answered : goal.make-requires-clause-answered
make-requires-clause-answered g c =
    let same : (c.in_ok-held.held == c.args.from) ≡ true = not_false _ (sym c.if-ne.ensures) in
    let later : ((c.in_ok-awaited.awaited.room == c.args.note.now.room)
    && nat_lt c.args.row.now.lock_place c.in_ok-awaited.awaited.place) ≡ true =
    rw (room_is c.note.view_is) at (sym c.is_awaited.ensures ∙ c.if-not-is_awaited.false) in
    answers (then_found (then_found (given (IsUntaken c.args.note.now c.args.row.now) c.requires.untaken)
    (rw (room_is c.note.view_is) at c.in_ok-held.ensures)) c.in_ok-awaited.ensures)
    (λ clean k. comes_of _ _ _ (c.requires.outcome clean) (rw (k.0.0.0, k.0.1, same, k.1, later, c.note.view_is) refl))

pub returns : goal.returns
returns g c = λ source.
    let same : (c.in_ok-held.held == c.args.from) ≡ true = not_false _ (sym c.if-ne.ensures) in
    let later : ((c.in_ok-awaited.awaited.room == c.args.note.now.room)
    && nat_lt c.args.row.now.lock_place c.in_ok-awaited.awaited.place) ≡ true =
    rw (room_is c.note.view_is) at (sym c.is_awaited.ensures ∙ c.if-not-is_awaited.false) in
    ends g.met.B.Books.change_after
    (then_found (then_found (given (IsUntaken c.args.note.now c.args.row.now) c.requires.untaken)
    (rw (room_is c.note.view_is) at c.in_ok-held.ensures)) c.in_ok-awaited.ensures)
    (c.make.ensures.steps source) (λ k. rw (k.0.0.0, k.0.1, same, k.1, later, c.note.view_is) refl)
