use Rattle.std.proofs.Common.{◌∙◌, sym}
use Rattle.hotel_books.proofs.Names.{IsUntaken}
use Rattle.hotel_core.proofs.OfCode.Parts.{given, ends}
use Rattle.hotel_core.proofs.{OfCode.NoteParts.next_told, OfCode.AnswerParts.comes_of}
use Rattle.hotel_books.proofs.OfCode.NoteFields.{act_is}
use Rattle.hotel_core.proofs.commands.notes.take_next.Goals as goal

pub enter-requires-clause-outcome : goal.enter-requires-clause-outcome
enter-requires-clause-outcome g c = λ clean.
    comes_of _ _ _ (c.requires.outcome clean) (next_told (g.B.Books.rows c.args.books.now) c.args.note.now
    c.args.row.now _ c.requires.next (c.requires.untaken clean).0 (sym c.in-Entered.is ∙ act_is c.note.view_is))

pub returns-in-Entered : goal.returns-in-Entered
returns-in-Entered g c = λ source.
    ends g.met.B.Books.change_after
    (given (IsUntaken c.args.note.now c.args.row.now) c.requires.untaken) (c.enter.ensures source)
    (λ k. next_told (g.B.Books.rows c.args.books.now) c.args.note.now c.args.row.now _ c.requires.next k.0
    (sym c.in-Entered.is ∙ act_is c.note.view_is))

pub leave-requires-clause-outcome : goal.leave-requires-clause-outcome
leave-requires-clause-outcome g c = λ clean.
    comes_of _ _ _ (c.requires.outcome clean) (next_told (g.B.Books.rows c.args.books.now) c.args.note.now
    c.args.row.now _ c.requires.next (c.requires.untaken clean).0 (sym c.in-Left.is ∙ act_is c.note.view_is))

pub returns-in-Left : goal.returns-in-Left
returns-in-Left g c = λ source.
    ends g.met.B.Books.change_after
    (given (IsUntaken c.args.note.now c.args.row.now) c.requires.untaken) (c.leave.ensures source)
    (λ k. next_told (g.B.Books.rows c.args.books.now) c.args.note.now c.args.row.now _ c.requires.next k.0
    (sym c.in-Left.is ∙ act_is c.note.view_is))

pub recode-requires-clause-outcome : goal.recode-requires-clause-outcome
recode-requires-clause-outcome g c = λ clean.
    comes_of _ _ _ (c.requires.outcome clean) (next_told (g.B.Books.rows c.args.books.now) c.args.note.now
    c.args.row.now _ c.requires.next (c.requires.untaken clean).0 (sym c.in-Recoded.is ∙ act_is c.note.view_is))

pub returns-in-Recoded : goal.returns-in-Recoded
returns-in-Recoded g c = λ source.
    ends g.met.B.Books.change_after
    (given (IsUntaken c.args.note.now c.args.row.now) c.requires.untaken) (c.recode.ensures source)
    (λ k. next_told (g.B.Books.rows c.args.books.now) c.args.note.now c.args.row.now _ c.requires.next k.0
    (sym c.in-Recoded.is ∙ act_is c.note.view_is))
