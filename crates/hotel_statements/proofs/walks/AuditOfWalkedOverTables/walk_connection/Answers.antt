use Rattle.std.proofs.Common.{◌≡◌, List, [], ◌∷◌, All, inl, inr, sym, subst}
use Rattle.sqlite.specs.Effect.{Database}
use Rattle.sqlite.specs.Held.{state}
use Rattle.sqlite.specs.State.{HasCleanDisk, IsUnchanged}
use Rattle.keycard_rules.specs.Note.{Note}
use Rattle.hotel_model.specs.Rows.{notes_at}
use Rattle.hotel_model.specs.Rows.{fits_at}
use Rattle.hotel_statements.specs.Values.{int}
use Rattle.hotel_statements.specs.Tables.{rows_in}
use Rattle.hotel_statements.specs.Books.{IsKept}
use Rattle.hotel_statements.specs.LookUps.{AnswersAll}
use Rattle.hotel_statements.specs.Texts as text
use Rattle.hotel_statements.specs.Failures.{IsNoteUnder}
use Rattle.hotel_statements.specs.Walks.{SaysRows, WalkFails, WalksRows, note_under}
use Rattle.hotel_statements.proofs.Statements.Walks as walks
use Rattle.hotel_statements.proofs.Since.{walk_fails_later, walk_unread}
use Rattle.hotel_statements.proofs.Walked.{then_walks, not_begun}
use Rattle.hotel_statements.proofs.ByRoom.{notes_said, audit_query}
use Rattle.hotel_statements.proofs.walks.AuditOfWalkedOverTables.walk_connection.Goals as goal

pub walk-requires-clause-asks : goal.walk-requires-clause-asks
walk-requires-clause-asks g c = (_, walks.walk_audit)

pub returns : goal.returns
returns g c =
    let room = c.args.self.now.0 in
    let old = state g.S.Store c.args.conn.now in
    let mid = state g.S.Store c.fits_of_room.new.conn in
    let fits = c.in_ok-fits.fits.items in
    let rows = notes_at (rows_in old.now.trees).notes room in
    let are : IsKept mid → fits ≡ fits_at (rows_in old.now.trees).fits room =
    λ kept. c.in_ok-fits.ensures.found kept in
    let unchanged : HasCleanDisk mid → IsUnchanged old mid =
    λ clean. c.in_ok-fits.ensures.unchanged tt clean in
    let walked : (all : List Note) → SaysRows (note_under fits) text.walk_audit (int room ∷ []) mid all
    → WalksRows (WalkFails (IsNoteUnder fits) text.walk_audit
    (int room ∷ [])) g.K.Sink.after g.K.Sink.after_stop all mid (state g.S.Store c.walk.new.conn) c.args.sink.now
    c.walk.new.sink c.walk.result = rw c.numbered.ensures at c.walk.ensures in
    then_walks g.K.Sink.after g.K.Sink.after_stop rows old mid c.args.sink.now (state g.S.Store c.walk.new.conn)
    c.walk.new.sink c.walk.result
    c.fits_of_room.ensures.keeps (λ clean. (unchanged clean).0.is_open) c.fits_of_room.ensures.crash
    (λ was clean fails.
    let still = walk_fails_later old mid (state g.S.Store c.walk.new.conn) was unchanged c.fits_of_room.ensures.crash
    text.walk_audit (int room ∷ []) _ walks.walk_audit c.fits_of_room.ensures.books
    clean (IsNoteUnder fits) fails in
    let same : fits ≡ fits_at (rows_in old.now.trees).fits room =
    are (was clean, (unchanged (was clean)).0.is_open) in
    inr (walk_unread (IsNoteUnder fits) (IsNoteUnder (fits_at (rows_in old.now.trees).fits room)) text.walk_audit
    (int room ∷ []) old (state g.S.Store c.walk.new.conn)
    (λ _ rows all. subst (λ fs. All (IsNoteUnder fs) rows) (sym same) all) still))
    (walked rows (
      _,
      walks.walk_audit,
      λ kept all answers.
          let was = c.fits_of_room.ensures.keeps kept in
          notes_said old.now.trees (c.requires.books.desk was.0).tables room fits (are kept) all
          (subst (λ (d : Database). AnswersAll (note_under fits) audit_query (int room ∷ []) d.trees all) was.1
          answers),
    ))

pub returns-in_err-fits : goal.returns-in_err-fits
returns-in_err-fits g c =
    not_begun g.K.Sink.after g.K.Sink.after_stop _ (state g.S.Store c.args.conn.now)
    (state g.S.Store c.fits_of_room.new.conn) c.args.sink.now c.from_residual.result _ c.from_residual.ensures.1
    c.fits_of_room.ensures.books c.fits_of_room.ensures.keeps c.fits_of_room.ensures.crash
    (λ clean cause. inl (c.in_err-fits.ensures.cause clean cause))
