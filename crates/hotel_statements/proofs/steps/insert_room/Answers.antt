use Rattle.std.proofs.Common.{[], ◌∷◌, refl}
use Rattle.sqlite_value.specs.declared.value.Value.TheVariants.{Text}
use Rattle.hotel_statements.specs.Values.{int, maybe_int}
use Rattle.hotel_statements.specs.Columns.{bit_of}
use Rattle.hotel_statements.proofs.InTurn.{writes_row}
use Rattle.hotel_statements.proofs.Made.Reads.{bound_maybe}
use Rattle.hotel_statements.proofs.Made.Inserts.{room_step}
use Rattle.hotel_statements.proofs.steps.insert_room.Goals as goal

pub returns-clause-makes : goal.returns-clause-makes
returns-clause-makes g c =
    let r = c.args.row in
    writes_row (int r.room ∷ Text r.kind ∷ int r.lock_place ∷ int r.codes ∷ int (bit_of r.secured) ∷ maybe_int r.party
    ∷ int r.notes ∷ []) c.run.ensures.runs c.run.ensures.answers (room_step _ _ r)
    (rw (
      c.numbered.ensures,
      c.text.ensures,
      c.small.ensures,
      c.small-2.ensures,
      c.bit.ensures,
      c.maybe.ensures,
      c.small-3.ensures,
      c.as_bytes.ensures.same,
      bound_maybe r.party,
    ) refl)
