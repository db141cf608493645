use Rattle.std.proofs.Common.{sym, subst}
use Rattle.hotel_tables.specs.Counted.{CountsItsRoom}
use Rattle.hotel_tables.proofs.counted.count_room.Goals as goal

pub returns-in-Room : goal.returns-in-Room
returns-in-Room c = subst (λ change. CountsItsRoom change c.args.kinds.now c.add_room.new.self) (sym c.in-Room.is)
    (record { kinds = c.add_room.ensures.kinds; rooms = c.add_room.ensures.rooms })
