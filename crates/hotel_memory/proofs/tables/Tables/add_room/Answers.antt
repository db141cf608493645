use Rattle.std.proofs.Common.{◌≡◌, ℕ, List, None, ap, sym, ◌∙◌, subst, arith, nat_cmp}
use Rattle.hotel_books.proofs.Names.{FitRow, CodeRow, pair_cmp, lookup, fit_at, is_at, remove_entry, keys_of}
use Rattle.hotel_books.proofs.Names.{nat_cmp_total, RoomRow, said_of, IsNumberUpTo, Rows, has_kind, room_at, code_place}
use Rattle.hotel_books.proofs.Names.{RoomsKnown, one_if}
use Rattle.hotel_memory.specs.Tables.{LaterPlacesFree, TablesAgree}
use Rattle.hotel_books.specs.KindRooms.{rooms_in}
use Rattle.std.proofs.Common.{◌+◌, bytes_eq}
use Rattle.hotel_books.proofs.OfTables.MapEntries.{taken_back, pair_total}
use Rattle.hotel_memory.proofs.OfTables.LaterPlaces.{free_after, codes_added, codes_new, codes_there}
use Rattle.hotel_books.proofs.OfNights.RoomsByKind.{few_rooms, known_added}
use Rattle.hotel_memory.proofs.tables.Tables.add_room.Goals as goal

pub invariant_of-self-2 : goal.invariant_of-self-2
invariant_of-self-2 c =
    let absent = ap (λ rows. room_at rows c.args.room) c.self.view_is ∙ c.requires.new_room in
    let row = c.of_new_room-row.result in
    let rooms = c.self.inside.rooms.entries in
    let none : codes_there rooms c.args.room ≡ 0 = ap (λ o. said_of o 0 (λ (row : RoomRow). row.codes)) absent in
    let of_kind : row.kind ≡ c.args.kind = ap (λ (r : RoomRow). r.kind) c.of_new_room-row.ensures in
    let kind_there = ap (λ (rows : Rows). has_kind rows c.args.kind) c.self.view_is ∙ c.requires.there in
    let few =
    few_rooms c.self.inside.kinds rooms c.args.kind c.self.invariant.rooms_known c.in-Ok.ensures.was_ordered in
    let of_row : row.codes ≡ 1 = ap (λ (r : RoomRow). r.codes) c.of_new_room-row.ensures in
    let one = codes_new rooms c.insert.new.self.entries c.args.room row (λ q. c.in-Ok.ensures.updates.0 q) in
    record {
      places = subst (λ codes. LaterPlacesFree c.insert.new.self.entries codes) (sym c.in-Ok-insert-2.ensures.ok)
          (free_after rooms c.insert.new.self.entries c.self.inside.codes c.args.code
          (record { room = c.args.room; place = 0 }) c.self.invariant.places
          (codes_added rooms c.insert.new.self.entries c.args.room row absent (λ q. c.in-Ok.ensures.updates.0 q))
          (omega (arith, none))
          (omega (arith, of_row, one))
          (ap (λ rows. code_place rows c.args.code) c.self.view_is ∙ c.requires.new_code));
      rooms_known = subst (λ later. RoomsKnown c.add_room.new.self later) (sym c.in-Ok.ensures.entries)
          (known_added c.self.inside.kinds c.add_room.new.self rooms c.args.room row c.self.invariant.rooms_known absent
          (subst (IsNumberUpTo 9999) c.value-in_range.ensures.same c.value-in_range.ensures.known)
          (subst (λ kind. (k : List ℕ)
          → rooms_in c.add_room.new.self k ≡ rooms_in c.self.inside.kinds k + one_if (bytes_eq kind k))
          (sym of_kind) (c.add_room.ensures.rooms kind_there few)));
    }

pub returns-in_default-insert-clause-err : goal.returns-in_default-insert-clause-err
returns-in_default-insert-clause-err c =
    let absent = ap (λ rows. room_at rows c.args.room) c.self.view_is ∙ c.requires.new_room in
    let row = c.of_new_room-row.result in
    let t = c.self.inside in
    let before : List (ℕ × RoomRow) → Rows = λ rooms. record {
      day = t.day;
      kinds = keys_of t.kinds;
      rooms = rooms;
      codes = t.codes;
      stays = t.stays;
      cards = t.cards;
      inside = t.inside;
      notes = t.notes;
      fits = c.insert-2.new.self.entries;
    } in
    ap before (c.remove.ensures.entries ∙ ap (remove_entry (is_at (nat_cmp c.args.room))) c.in-Ok.ensures.entries
    ∙ taken_back nat_cmp nat_cmp_total c.args.room row t.rooms.entries absent)
    ∙ ap (λ (fits : List ((ℕ × ℕ) × FitRow)). let rows : Rows = record {
      day = t.day;
      kinds = keys_of t.kinds;
      rooms = t.rooms.entries;
      codes = t.codes;
      stays = t.stays;
      cards = t.cards;
      inside = t.inside;
      notes = t.notes;
      fits = fits;
    } in rows) c.in_default-insert.ensures.err
    ∙ c.self.view_is

pub invariant_of-self-in_default-insert : goal.invariant_of-self-in_default-insert
invariant_of-self-in_default-insert c =
    let absent = ap (λ rows. room_at rows c.args.room) c.self.view_is ∙ c.requires.new_room in
    let row = c.of_new_room-row.result in
    let t = c.self.inside in
    let back = c.remove.ensures.entries ∙ ap (remove_entry (is_at (nat_cmp c.args.room))) c.in-Ok.ensures.entries
    ∙ taken_back nat_cmp nat_cmp_total c.args.room row t.rooms.entries absent in
    subst (λ rooms. TablesAgree t.kinds rooms t.codes) (sym back) c.self.invariant

pub returns-in_default-insert-2-clause-err : goal.returns-in_default-insert-2-clause-err
returns-in_default-insert-2-clause-err c =
    let absent = ap (λ rows. room_at rows c.args.room) c.self.view_is ∙ c.requires.new_room in
    let row = c.of_new_room-row.result in
    let first = c.of_new_room-first.result in
    let t = c.self.inside in
    let one : first.fit ≡ 1 = ap (λ (f : FitRow). f.fit) c.of_new_room-first.ensures in
    let no_fit : lookup (is_at (pair_cmp (c.args.room, first.fit))) t.fits.entries ≡ None =
    ap (λ n. lookup (is_at (pair_cmp (c.args.room, n))) t.fits.entries) one
    ∙ ap (λ rows. fit_at rows c.args.room 1) c.self.view_is ∙ c.requires.new_fit in
    let fits_back : c.remove-in_default-insert-2.new.self.entries ≡ t.fits.entries =
    c.remove-in_default-insert-2.ensures.entries
    ∙ ap (remove_entry (is_at (pair_cmp (c.args.room, first.fit)))) c.in-Ok-insert.ensures.entries
    ∙ taken_back pair_cmp pair_total (c.args.room, first.fit) first t.fits.entries no_fit in
    let rooms_back : c.remove-in_default-insert-2-2.new.self.entries ≡ t.rooms.entries =
    c.remove-in_default-insert-2-2.ensures.entries
    ∙ ap (remove_entry (is_at (nat_cmp c.args.room))) c.in-Ok.ensures.entries
    ∙ taken_back nat_cmp nat_cmp_total c.args.room row t.rooms.entries absent in
    let by : List (ℕ × RoomRow) → List (ℕ × CodeRow) → List ((ℕ × ℕ) × FitRow) → Rows = λ rooms codes fits. record {
      day = t.day;
      kinds = keys_of t.kinds;
      rooms = rooms;
      codes = codes;
      stays = t.stays;
      cards = t.cards;
      inside = t.inside;
      notes = t.notes;
      fits = fits;
    } in
    (λ i. by (rooms_back i) (c.in_default-insert-2.ensures.err i) (fits_back i)) ∙ c.self.view_is

pub invariant_of-self-in_default-insert-2 : goal.invariant_of-self-in_default-insert-2
invariant_of-self-in_default-insert-2 c =
    let absent = ap (λ rows. room_at rows c.args.room) c.self.view_is ∙ c.requires.new_room in
    let row = c.of_new_room-row.result in
    let t = c.self.inside in
    let back = c.remove-in_default-insert-2-2.ensures.entries
    ∙ ap (remove_entry (is_at (nat_cmp c.args.room))) c.in-Ok.ensures.entries
    ∙ taken_back nat_cmp nat_cmp_total c.args.room row t.rooms.entries absent in
    subst (λ rooms. TablesAgree t.kinds rooms c.insert-3.new.self) (sym back) (subst
    (λ codes. TablesAgree t.kinds t.rooms.entries codes) (sym c.in_default-insert-2.ensures.err) c.self.invariant)
