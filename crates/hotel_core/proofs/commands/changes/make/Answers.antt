use Rattle.hotel_core.proofs.OfCode.Parts.{makes, fails}
use Rattle.hotel_model.proofs.RowsAfter.FitsAfter.{fits_after}
use Rattle.hotel_core.proofs.commands.changes.make.Goals as goal

pub apply-requires : goal.apply-requires
apply-requires g c = λ clean.
    fits_after (g.B.Books.rows c.args.books.now) c.args.change c.args.reply
    (c.known_sound.ensures clean) c.known_reply.ensures (c.requires.answered clean)

pub returns-in-Ok-clause-steps : goal.returns-in-Ok-clause-steps
returns-in-Ok-clause-steps g c = λ source.
    makes c.args.reply c.args.change source c.known_reply.ensures c.requires.is_answer c.in-Ok.ensures.whole
    c.in-Ok.ensures.leaves c.in-Ok.ensures.stop

pub returns-in-Err-clause-steps : goal.returns-in-Err-clause-steps
returns-in-Err-clause-steps g c = λ source.
    fails c.args.reply c.args.change c.in-Err.fault c.refusal_of.result source c.known_reply.ensures
    c.requires.is_answer c.refusal_of.ensures c.in-Err.ensures.whole c.in-Err.ensures.leaves c.in-Err.ensures.stop
