use Rattle.std.proofs.Common.{◌≡◌, [], ◌∷◌, Result, refl, subst}
use Rattle.sqlite.specs.Held.{Held}
use Rattle.sqlite.specs.declared.error.Error.{Error}
use Rattle.sqlite_trees.specs.declared.store.Store.{Ghosts}
use Rattle.hotel_model.specs.Rows.{Rows}
use Rattle.hotel_statements.specs.Statements.{Statement, WritesBy, adds_fit, adds_room}
use Rattle.hotel_statements.specs.Steps.{IsNewRoom, IsNextFit, IsWithoutFit, fit_added, room_added}
use Rattle.hotel_statements.proofs.InTurn.{writes_then, writes_then_if, writes_stopped, writes_as}
use Rattle.hotel_statements.proofs.Made.Rooms.{room_is, still_next}
use Rattle.hotel_statements.proofs.changes.add_room.Goals as goal

module _ {S : Type 0} {g : Ghosts S} {old new : Held S} {result : Result (Unit {0}) Error} where
  -- one was added, and it is this one
  adds_same : {X : Type 0} {one other : X} (adds : X → Statement) (Fits : X → Rows → Type 0) (added : X → Rows → Rows)
      → one ≡ other → WritesBy g (adds one ∷ []) (Fits one) (added one) old new result
      → WritesBy g (adds other ∷ []) (Fits other) (added other) old new result
  adds_same adds Fits added same =
      subst (λ x. WritesBy g (adds x ∷ []) (Fits x) (added x) old new result) same

pub returns-in_err-insert_room-clause-makes : goal.returns-in_err-insert_room-clause-makes
returns-in_err-insert_room-clause-makes g c = writes_stopped _ c.from_residual.result c.from_residual.ensures.0
    c.from_residual.ensures.1
    (adds_same adds_room (λ row. IsWithoutFit row.room) room_added c.of_new_room.ensures
    c.in_err-insert_room.ensures.makes)

pub returns-in_err-insert_code-clause-makes : goal.returns-in_err-insert_code-clause-makes
returns-in_err-insert_code-clause-makes g c =
    writes_stopped _ c.from_residual-in_err-insert_code.result c.from_residual-in_err-insert_code.ensures.0
    c.from_residual-in_err-insert_code.ensures.1
    (writes_then (adds_same adds_room (λ row. IsWithoutFit row.room) room_added c.of_new_room.ensures
    c.in_ok-insert_room.ensures.makes) c.in_err-insert_code.ensures.makes)

pub returns-clause-makes : goal.returns-clause-makes
returns-clause-makes g c =
    let room = c.args.room in
    let kind = c.args.kind in
    let code = c.args.code in
    let first = adds_same adds_room (λ row. IsWithoutFit row.room) room_added c.of_new_room.ensures
    c.in_ok-insert_room.ensures.makes in
    let last = adds_same adds_fit IsNextFit fit_added c.of_new_room-2.ensures c.insert_fit.ensures.makes in
    writes_as (λ rows is. is) (λ rows is. room_is room kind code rows)
    (writes_then_if (still_next room kind code) (writes_as {others = IsNewRoom room} (λ rows is. is.fits)
    (λ rows _. refl) (writes_then first c.in_ok-insert_code.ensures.makes)) last)
