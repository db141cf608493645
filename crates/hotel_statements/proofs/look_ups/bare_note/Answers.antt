use Rattle.std.proofs.Common.{[], ◌∷◌, IfOk}
use Rattle.std.proofs.lemmas.Result.{IfOk-weaker}
use Rattle.sqlite.specs.Query.{Query}
use Rattle.sqlite.specs.Held.{state}
use Rattle.hotel_statements.specs.Values.{int}
use Rattle.hotel_statements.specs.Columns.{note_row_of}
use Rattle.hotel_statements.specs.Books.{IsKept}
use Rattle.hotel_statements.specs.LookUps.{Asks, AnswersFirst, HasCause}
use Rattle.hotel_statements.specs.Failures.{BareNoteFails}
use Rattle.hotel_statements.specs.Texts as text
use Rattle.hotel_statements.proofs.Statements.Selects as selects
use Rattle.hotel_statements.proofs.Keyed.{finds_to}
use Rattle.hotel_statements.proofs.Finds.{note_finds}
use Rattle.hotel_statements.proofs.look_ups.bare_note.Goals as goal

pub look-requires-clause-asks : goal.look-requires-clause-asks
look-requires-clause-asks g c = (_, selects.select_note)

pub returns : goal.returns
returns g c =
    let old = state g.S.Store c.args.conn.now in
    let new = state g.S.Store c.look.new.conn in
    let finds : IsKept new → (p : Query) → Asks text.select_note p
    → IfOk c.look.result (AnswersFirst note_row_of p (int c.args.room ∷ int c.args.at ∷ []) old.now.trees) =
    rw (c.small.ensures, c.number.ensures, c.value.ensures.same) at c.look.ensures.found in
    let cause : HasCause (BareNoteFails c.args.room c.args.at) old new c.look.result =
    rw (c.small.ensures, c.number.ensures, c.value.ensures.same) at c.look.ensures.cause in
    finds_to text.select_note (int c.args.room ∷ int c.args.at ∷ []) old new note_row_of _ c.look.result _
    c.requires.books c.look.ensures.books c.look.ensures.keeps finds c.look.ensures.unchanged cause c.look.ensures.crash
    selects.select_note (λ tables. IfOk-weaker c.look.result _ _
    (λ o a. note_finds old.now.trees tables c.args.room c.args.at o a))
