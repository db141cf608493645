use Rattle.std.proofs.Common.{[], ◌∷◌, refl}
use Rattle.sqlite_value.specs.declared.value.Value.TheVariants.{Text}
use Rattle.hotel_model.specs.Stays.{room_of_state}
use Rattle.hotel_statements.specs.Values.{int, maybe_int}
use Rattle.hotel_statements.specs.Columns.{state_number}
use Rattle.hotel_statements.proofs.InTurn.{writes_row}
use Rattle.hotel_statements.proofs.Made.Reads.{bound_maybe}
use Rattle.hotel_statements.proofs.Made.Inserts.{stay_step}
use Rattle.hotel_statements.proofs.steps.insert_stay.Goals as goal

pub returns-clause-makes : goal.returns-clause-makes
returns-clause-makes g c =
    let s = c.args.stay.now in
    writes_row (int s.party ∷ Text s.guest ∷ Text s.kind ∷ int s.arrive ∷ int s.depart ∷ int (state_number s.state)
    ∷ maybe_int (room_of_state s.state) ∷ []) c.run.ensures.runs c.run.ensures.answers (stay_step _ _ s)
    (rw (
      c.numbered.ensures,
      c.text-2.ensures,
      c.text-3.ensures,
      c.dated.ensures,
      c.dated-2.ensures,
      c.standing.ensures,
      c.room_of.ensures,
      c.as_bytes.ensures.value,
      c.text.ensures.same,
      c.as_bytes-2.ensures.same,
      bound_maybe (room_of_state s.state),
    ) refl)
