use Rattle.std.proofs.Common.{ap, ◌∙◌}
use Rattle.hotel_books.specs.KindRooms.{is_there}
use Rattle.hotel_books.proofs.OfNights.KindKeys.{known_kind}
use Rattle.hotel_books.proofs.kind_rooms.KindRooms.has.Goals as goal

pub returns : goal.returns
returns c = c.contains_key.ensures ∙ known_kind c.self.inside.counts.entries c.args.kind.now
    ∙ ap (λ counts. is_there counts c.args.kind.now) c.self.view_is
