use Rattle.std.proofs.Common.{sym, subst}
use Rattle.sqlite.specs.Held.{state}
use Rattle.hotel_books.proofs.Names.{Note}
use Rattle.hotel_statements.specs.LookUps.{HasCause}
use Rattle.hotel_statements.specs.Failures.{FitFails}
use Rattle.hotel_tables.specs.Causes.{ToldFails}
use Rattle.hotel_tables.proofs.apply.told_for.Goals as goal

pub returns-in-Noted-clause-cause : goal.returns-in-Noted-clause-cause
returns-in-Noted-clause-cause g c =
    let old = state g.S.Store c.args.conn.now in
    let new = state g.S.Store c.known_by_fit.new.conn in
    subst (λ change. HasCause (ToldFails change) old new c.known_by_fit.result) (sym c.in-Noted.is)
    (subst (λ (note : Note). HasCause (FitFails note.room note.fit) old new c.known_by_fit.result) c.note.view_is
    c.known_by_fit.ensures.cause)
