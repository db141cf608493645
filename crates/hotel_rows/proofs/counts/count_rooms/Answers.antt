use Rattle.std.proofs.Common.{◌≡◌, ◌<◌, length, get_or, false, rules}
use Rattle.keycard_rules.specs.declared.issued.LookFault.TheVariants.{Store}
use Rattle.hotel_rows.specs.Counts.{are_rooms_of}
use Rattle.hotel_rows.proofs.OfCounts.Countable.{not_rooms_of, passed_on}
use Rattle.hotel_rows.proofs.counts.count_rooms.Goals as goal

pub returns-in_err-add_room-clause-err : goal.returns-in_err-add_room-clause-err
returns-in_err-add_room-clause-err c =
    let rooms = c.args.rooms.now in
    let low : c.loop-i.i < length rooms = search rules in
    let is : c.index-rooms-i.result ≡ get_or rooms c.loop-i.i c.index-rooms-i.result = search rules in
    passed_on _ (λ why. why ≡ Store → are_rooms_of c.args.kinds.now rooms ≡ false)
    c.from_residual-in_err-add_room.ensures.1
    (λ store. not_rooms_of c.args.kinds.now rooms c.loop-i.counts c.loop-i.i c.index-rooms-i.result low is
    c.loop-i.invariant.0 c.loop-i.invariant.1 c.in_err-add_room.ensures.err.1)
