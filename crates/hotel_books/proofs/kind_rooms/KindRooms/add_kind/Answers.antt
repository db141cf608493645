use Rattle.std.proofs.Common.{◌≡◌, false, ap, ◌∙◌, nat_cmp}
use Rattle.hotel_books.proofs.Names.{slice_cmp, insert_key, keys_of, is_there, rooms_in}
use Rattle.hotel_books.proofs.OfNights.KindKeys.{keys_inserted, new_kind}
use Rattle.hotel_books.proofs.kind_rooms.KindRooms.add_kind.Goals as goal

pub returns-clause-kinds : goal.returns-clause-kinds
returns-clause-kinds c =
    ap (λ es. keys_of es) c.in-Ok.ensures.entries
    ∙ keys_inserted (slice_cmp nat_cmp) c.args.kind 0 c.self.inside.counts.entries
    ∙ ap (λ es. insert_key (slice_cmp nat_cmp) (keys_of es) c.args.kind) c.self.view_is

pub returns-clause-rooms : goal.returns-clause-rooms
returns-clause-rooms c =
    let new : is_there c.self.inside.counts.entries c.args.kind ≡ false =
    ap (λ es. is_there es c.args.kind) c.self.view_is ∙ c.requires in
    λ k. new_kind c.self.inside.counts.entries c.insert.new.self.entries c.args.kind new c.in-Ok.ensures.updates.0 k
    ∙ ap (λ es. rooms_in es k) c.self.view_is
