use Rattle.std.proofs.Common.{◌≡◌, ◌∙◌, List, [], ◌∷◌, None, Some, IsTrue, inl, inr, refl, sym, ap, subst, option_map}
use Rattle.std.specs.Prelude.{filter_map}
use Rattle.std.specs.List.{range_with_len}
use Rattle.sqlite.specs.Effect.{Database}
use Rattle.sqlite.specs.Held.{state}
use Rattle.sqlite.specs.State.{HasCleanDisk, IsUnchanged}
use Rattle.hotel_model.specs.declared.list_rows.ChainRow.{ChainRow}
use Rattle.hotel_model.specs.Refinement.ListsOnRows.{chain_row_on, chain_on}
use Rattle.hotel_model.specs.declared.rows.RoomRow.{RoomRow}
use Rattle.hotel_model.specs.Words.{said_of}
use Rattle.hotel_model.specs.Rows.{at_number}
use Rattle.hotel_model.specs.Refinement.Lookups.{room_at}
use Rattle.hotel_rows.proofs.OfJoined.{room_joined}
use Rattle.hotel_statements.specs.Values.{int}
use Rattle.hotel_statements.specs.Tables.{rows_in, fits_in, bare_rooms_in}
use Rattle.hotel_statements.specs.Books.{IsKept}
use Rattle.hotel_statements.specs.LookUps.{AnswersAll}
use Rattle.hotel_statements.specs.Texts as text
use Rattle.hotel_statements.specs.Readable.{IsOfChain}
use Rattle.hotel_statements.specs.Walks.{SaysRows, WalkFails, WalksRows, chain_row_of}
use Rattle.hotel_statements.proofs.Statements.Walks as walks
use Rattle.hotel_statements.proofs.Since.{walk_fails_later}
use Rattle.hotel_statements.proofs.Walked.{then_walks, not_begun}
use Rattle.hotel_statements.proofs.Fitted.{room_lost}
use Rattle.hotel_statements.proofs.Joins.{fitted}
use Rattle.hotel_statements.proofs.OfWalks.Chain.{codes_said, chain_query}
use Rattle.hotel_statements.proofs.walks.ChainOfWalkedOverTables.walk_connection.Goals as goal

pub walk-requires-clause-asks : goal.walk-requires-clause-asks
walk-requires-clause-asks g c = (_, walks.walk_chain)

pub returns : goal.returns
returns g c =
    let room = c.args.self.now.0 in
    let old = state g.S.Store c.args.conn.now in
    let mid = state g.S.Store c.bare_room.new.conn in
    let db = old.now.trees in
    let bare = c.in-Some.row in
    let row = fitted (fits_in db) room bare in
    let rows = chain_on (rows_in db) room in
    let found : IsKept mid → Some bare ≡ at_number (bare_rooms_in db) room =
    λ kept. sym c.in-Some.is ∙ c.in_ok-row.ensures.found kept in
    let there : IsKept mid → Some row ≡ room_at (rows_in db) room =
    λ kept. ap (option_map (fitted (fits_in db) room)) (found kept)
    ∙ sym (room_joined (fits_in db) (bare_rooms_in db) room) in
    let unchanged : HasCleanDisk mid → IsUnchanged old mid =
    λ clean. c.in_ok-row.ensures.unchanged clean in
    let walked : (all : List ChainRow)
    → SaysRows (chain_row_of row.lock_place) text.walk_chain (int room ∷ []) mid all
    → WalksRows (WalkFails IsOfChain text.walk_chain
    (int room ∷ [])) g.K.Sink.after g.K.Sink.after_stop all mid (state g.S.Store c.walk.new.conn) c.args.sink.now
    c.walk.new.sink
    c.walk.result = rw (c.numbered.ensures, c.lock_place.ensures) at c.walk.ensures in
    then_walks g.K.Sink.after g.K.Sink.after_stop rows old mid c.args.sink.now
    (state g.S.Store c.walk.new.conn) c.walk.new.sink c.walk.result
    c.bare_room.ensures.keeps (λ clean. (unchanged clean).0.is_open) c.bare_room.ensures.crash
    (λ was clean fails. inr (walk_fails_later old mid (state g.S.Store c.walk.new.conn) was unchanged
    c.bare_room.ensures.crash text.walk_chain (int room ∷ []) _ walks.walk_chain c.bare_room.ensures.books clean
    IsOfChain fails))
    (walked rows (
      _,
      walks.walk_chain,
      λ kept all answers.
          let was = c.bare_room.ensures.keeps kept in
          codes_said db (c.requires.books.desk was.0).tables (c.requires.sound was.0) room row
          (sym (there kept)) all
          (subst (λ (d : Database). AnswersAll (chain_row_of row.lock_place) chain_query
          (int room ∷ []) d.trees all) was.1 answers),
    ))

pub returns-in_default : goal.returns-in_default
returns-in_default g c =
    let db = (state g.S.Store c.args.conn.now).now.trees in
    let mid = state g.S.Store c.bare_room.new.conn in
    let open_on : HasCleanDisk mid → IsTrue mid.is_open = λ clean. c.in_ok-row.ensures.open_on clean in
    let none : IsKept mid → None ≡ room_at (rows_in db) c.args.self.now.0 =
    λ kept. room_lost db c.args.self.now.0 (sym c.in_default.is ∙ c.in_ok-row.ensures.found kept) in
    record {
      books = c.bare_room.ensures.books;
      keeps = c.bare_room.ensures.keeps;
      hands = (
        [],
        refl,
        λ clean. ap (λ o. said_of o []
            (λ (row : RoomRow). filter_map (chain_row_on (rows_in db) row) (range_with_len 0 row.codes)))
            (none (clean, open_on clean)),
      );
      open_on = λ clean _. open_on clean;
      cause = λ _ store. absurd (let k = store in cc);
      crash = c.bare_room.ensures.crash;
    }

pub returns-in_err-row : goal.returns-in_err-row
returns-in_err-row g c =
    not_begun g.K.Sink.after g.K.Sink.after_stop _ (state g.S.Store c.args.conn.now)
    (state g.S.Store c.bare_room.new.conn) c.args.sink.now c.from_residual.result _ c.from_residual.ensures.1
    c.bare_room.ensures.books c.bare_room.ensures.keeps c.bare_room.ensures.crash
    (λ clean cause. inl (c.in_err-row.ensures.cause clean cause))
