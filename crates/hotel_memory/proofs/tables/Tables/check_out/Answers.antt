use Rattle.std.proofs.Common.{◌≤◌, None, refl, sym, subst, arith}
use Rattle.hotel_books.proofs.Names.{RoomRow, RoomsKnown}
use Rattle.hotel_memory.proofs.OfTables.LaterPlaces.{free_on}
use Rattle.hotel_memory.specs.Tables.{LaterPlacesFree}
use Rattle.hotel_memory.proofs.OfTables.LaterPlaces.{codes_changed}
use Rattle.hotel_books.proofs.OfNights.RoomsByKind.{known_changed}
use Rattle.hotel_memory.proofs.tables.Tables.check_out.Goals as goal

pub invariant_of-self : goal.invariant_of-self
invariant_of-self c =
    let f : RoomRow → RoomRow = λ row. record row { party = None } in
    let rooms = c.self.inside.rooms.entries in
    record {
      places = subst (λ later. LaterPlacesFree later c.self.inside.codes)
          (sym c.leave.ensures) (free_on rooms _ c.self.inside.codes c.self.invariant.places
          (λ r. codes_changed (λ m n. m ≤ n) (λ n. omega arith) f (λ row. omega arith) c.args.room r rooms));
      rooms_known = subst (λ later. RoomsKnown c.self.inside.kinds later) (sym c.leave.ensures)
          (known_changed f (λ row. refl) c.self.inside.kinds c.args.room rooms c.self.invariant.rooms_known);
    }
