use Rattle.std.proofs.Common.{◌+◌, ap, sym, ◌∙◌}
use Rattle.hotel_model.specs.declared.rows.RoomRow.{RoomRow}
use Rattle.hotel_books.proofs.OfTables.RowsChanged.{room_written, room_absent}
use Rattle.hotel_memory.proofs.row_changes.note_at.Goals as goal

pub returns-in-Some : goal.returns-in-Some
returns-in-Some c =
    let f : RoomRow → RoomRow =
    λ row. record row { lock_place = c.args.lock_place; secured = c.args.secured; notes = row.before + c.args.count } in
    (c.get_mut.follows.holds (f c.in-Some.row.now)).0
    ∙ room_written c.args.room f c.in-Some.row.now c.args.rooms.now.entries (sym c.in-Some.ensures.value)

pub returns-in_default : goal.returns-in_default
returns-in_default c =
    let f : RoomRow → RoomRow =
    λ row. record row { lock_place = c.args.lock_place; secured = c.args.secured; notes = row.before + c.args.count } in
    ap (λ m. m.entries) c.get_mut.follows.holds-at-none
    ∙ sym (room_absent c.args.room f c.args.rooms.now.entries (sym c.in_default.ensures.value))
