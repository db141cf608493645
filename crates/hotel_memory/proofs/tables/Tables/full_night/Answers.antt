use Rattle.std.proofs.Common.{◌-◌, ap, ◌∙◌}
use Rattle.hotel_books.proofs.Names.{values_of, first_day, is_full, Rows}
use Rattle.hotel_memory.proofs.tables.Tables.full_night.Goals as goal

pub returns : goal.returns
returns c =
    let n = c.args.depart - c.args.arrive in
    let kind = c.args.kind.now in
    c.full_night.ensures
    ∙ ap (λ (rows : Rows). first_day (is_full (values_of rows.stays) kind c.rooms_of_kind-rooms.result) c.args.arrive n)
    c.self.view_is
    ∙ ap (λ rooms. first_day (is_full (values_of c.args.self.now.stays) kind rooms) c.args.arrive n)
    c.rooms_of_kind-rooms.ensures
