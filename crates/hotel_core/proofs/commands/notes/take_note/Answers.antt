use Rattle.std.proofs.Common.{Some, None, refl, sym, ap, ◌∙◌, [], arith, if◌then◌else◌}
use Rattle.hotel_books.proofs.Names.{outcome_on, reported_on, said, refused}
use Rattle.hotel_model.specs.declared.reply.Refusal.TheVariants as refusal
use Rattle.hotel_model.specs.declared.reply.Reply.TheVariants as reply
use Rattle.hotel_core.proofs.OfCode.Parts.{begun, at_now, then_found, stopped}
use Rattle.hotel_core.proofs.OfCode.Parts.{refuses, ends, only}
use Rattle.hotel_core.proofs.OfCode.NoteParts.{reported_there, later_there, says}
use Rattle.hotel_core.proofs.OfCode.NoteParts.{not_next}
use Rattle.hotel_core.proofs.OfCode.AnswerParts.{comes_now}
use Rattle.hotel_model.specs.declared.command.Command.TheVariants as command
use Rattle.hotel_books.proofs.OfCode.NoteFields.{room_is}
use Rattle.hotel_core.proofs.commands.notes.take_note.Goals as goal

pub returns-in_err-today : goal.returns-in_err-today
unfolding outcome_on
returns-in_err-today g c = λ source.
    stopped c.from_residual.result c.from_residual.ensures.1 begun c.in_err-today.ensures.finds (λ k e. rw e refl)

pub returns-in_err-row : goal.returns-in_err-row
unfolding outcome_on
returns-in_err-row g c = λ source.
    stopped c.from_residual-in_err-row.result c.from_residual-in_err-row.ensures.1
    (then_found begun c.in_ok-today.ensures.finds)
    (rw (room_is c.note.view_is) at c.in_err-row.ensures) (λ k e. rw (k.1, e) refl)

pub returns-then-not-is_fit : goal.returns-then-not-is_fit
returns-then-not-is_fit g c = λ source.
    refuses refusal.NoFit refl
    (then_found (then_found begun c.in_ok-today.ensures.finds) (rw (room_is c.note.view_is) at c.in_ok-row.ensures))
    (λ k. later_there _ _ _ _ _ k.0.1 k.1 (sym c.is_fit.ensures ∙ c.if-not-is_fit.true))

pub returns-in_err-kept : goal.returns-in_err-kept
unfolding outcome_on
returns-in_err-kept g c = λ source.
    stopped c.from_residual-in_err-kept.result c.from_residual-in_err-kept.ensures.1
    (then_found (then_found begun c.in_ok-today.ensures.finds) (rw (room_is c.note.view_is) at c.in_ok-row.ensures))
    c.in_err-kept.ensures (λ k e. cc)

pub returns-in-Some : goal.returns-in-Some
returns-in-Some g c = λ source.
    says reply.Seen refl (then_found (then_found (then_found begun c.in_ok-today.ensures.finds)
    (rw (room_is c.note.view_is) at c.in_ok-row.ensures)) c.in_ok-kept.ensures)
    (λ k. reported_there _ _ _ _ _ (Some c.in-Some.kept) k.0.0.1 k.0.1
    (sym c.is_fit.ensures ∙ c.if-not-is_fit.false) (only k.1 ∙ c.in-Some.is)
    ∙ ap (λ b. if b then said reply.Seen else refused refusal.Conflict) (sym c.if-same_note.ensures))

pub returns-in-Some-2 : goal.returns-in-Some-2
returns-in-Some-2 g c = λ source.
    refuses refusal.Conflict refl (then_found (then_found (then_found begun c.in_ok-today.ensures.finds)
    (rw (room_is c.note.view_is) at c.in_ok-row.ensures)) c.in_ok-kept.ensures)
    (λ k. reported_there _ _ _ _ _ (Some c.in-Some.kept) k.0.0.1 k.0.1
    (sym c.is_fit.ensures ∙ c.if-not-is_fit.false) (only k.1 ∙ c.in-Some.is)
    ∙ ap (λ b. if b then said reply.Seen else refused refusal.Conflict) (sym c.if-same_note.ensures))

pub take_next-requires-clause-outcome : goal.take_next-requires-clause-outcome
take_next-requires-clause-outcome g c =
    comes_now (λ rs. reported_on rs c.args.note.now None)
    (then_found (then_found (then_found begun c.in_ok-today.ensures.finds)
    (rw (room_is c.note.view_is) at c.in_ok-row.ensures))
    c.in_ok-kept.ensures)
    (λ clean k. (
      [],
      command.Reported c.args.note.now,
      c.requires,
      reported_there _ _ _ _ _ None k.0.0.1 k.0.1
          (sym c.is_fit.ensures ∙ c.if-not-is_fit.false) (only k.1 ∙ c.in-None.is),
    ))

pub returns-in_err-check_next-in-None : goal.returns-in_err-check_next-in-None
returns-in_err-check_next-in-None g c = λ source.
    not_next c.from_residual-in_err-check_next-in-None.result c.from_residual-in_err-check_next-in-None.ensures.1
    c.args.note.now _ (sym c.in_err-check_next-in-None.ensures) (omega arith)
    (then_found (then_found (then_found begun c.in_ok-today.ensures.finds)
    (rw (room_is c.note.view_is) at c.in_ok-row.ensures))
    c.in_ok-kept.ensures)
    (λ k. (
      (k.0.1, only k.1 ∙ c.in-None.is),
      reported_there _ _ _ _ _ None k.0.0.1 k.0.1
          (sym c.is_fit.ensures ∙ c.if-not-is_fit.false) (only k.1 ∙ c.in-None.is),
    ))

pub returns-in_ok-check_next-in-None : goal.returns-in_ok-check_next-in-None
returns-in_ok-check_next-in-None g c = λ source.
    ends g.met.B.Books.change_after (then_found (then_found (then_found begun c.in_ok-today.ensures.finds)
    (rw (room_is c.note.view_is) at c.in_ok-row.ensures)) c.in_ok-kept.ensures)
    (c.take_next.ensures source) (λ k. reported_there _ _ _ _ _ None k.0.0.1 k.0.1
    (sym c.is_fit.ensures ∙ c.if-not-is_fit.false) (only k.1 ∙ c.in-None.is))

pub kept_note-requires-clause-there : goal.kept_note-requires-clause-there
kept_note-requires-clause-there g c = λ clean. (at_now (then_found (then_found begun c.in_ok-today.ensures.finds)
    (rw (room_is c.note.view_is) at c.in_ok-row.ensures)) clean).1
