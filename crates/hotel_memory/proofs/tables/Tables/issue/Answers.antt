use Rattle.std.proofs.Common.{◌≤◌, ◌<◌, ◌+◌, ◌-◌, ◌^◌, ℕ, List, Some, false, IsSome, refl, ap, sym, ◌∙◌, subst, arith}
use Rattle.std.proofs.Common.{nat_cmp}
use Rattle.hotel_books.proofs.Names.{is_at, remove_entry, keys_of, nat_cmp_total, RoomRow, CodeRow, Rows, at_number}
use Rattle.hotel_books.proofs.Names.{room_at, code_place, first_code_at, codes_of, freed_by, room_changed}
use Rattle.hotel_books.proofs.Names.{RoomsKnown}
use Rattle.hotel_memory.specs.Tables.{LaterPlacesFree, TablesAgree}
use Rattle.hotel_books.proofs.OfTables.MapEntries.{taken_back, found}
use Rattle.hotel_books.proofs.OfNights.RoomsByKind.{known_changed, known_left}
use Rattle.hotel_memory.proofs.OfTables.LaterPlaces.{free_after, codes_left, codes_changed, codes_there, one_more_code}
use Rattle.hotel_memory.proofs.OfTables.LaterPlaces.{there_left}
use Rattle.hotel_memory.proofs.tables.Tables.issue.Goals as goal

pub remove-requires-clause-there : goal.remove-requires-clause-there
remove-requires-clause-there c =
    ap (λ es. at_number es c.args.card.now.link.new_code) c.in-Ok.ensures.ok
    ∙ found nat_cmp nat_cmp_total c.args.card.now.link.new_code
    (record { room = c.args.room; place = c.codes_issued-place.result }) c.self.inside.codes

pub remove-requires-clause-alone : goal.remove-requires-clause-alone
remove-requires-clause-alone c =
    let absent = ap (λ rows. code_place rows c.args.card.now.link.new_code) c.self.view_is ∙ c.requires.new_code in
    ap (λ es. first_code_at (remove_entry (is_at (nat_cmp c.args.card.now.link.new_code)) es) c.args.room
    c.codes_issued-place.result) c.in-Ok.ensures.ok
    ∙ ap (λ es. first_code_at es c.args.room c.codes_issued-place.result)
    (taken_back nat_cmp nat_cmp_total c.args.card.now.link.new_code
    (record { room = c.args.room; place = c.codes_issued-place.result }) c.self.inside.codes absent)
    ∙ c.self.invariant.places c.args.room c.codes_issued-place.result (omega (arith, c.codes_issued-place.ensures))

pub invariant_of-self-in_default-push : goal.invariant_of-self-in_default-push
invariant_of-self-in_default-push c =
    let absent = ap (λ rows. code_place rows c.args.card.now.link.new_code) c.self.view_is ∙ c.requires.new_code in
    subst (λ codes. TablesAgree c.self.inside.kinds c.self.inside.rooms.entries codes)
    (sym (c.remove.ensures ∙ ap (remove_entry (is_at (nat_cmp c.args.card.now.link.new_code))) c.in-Ok.ensures.ok
    ∙ taken_back nat_cmp nat_cmp_total c.args.card.now.link.new_code
    (record { room = c.args.room; place = c.codes_issued-place.result }) c.self.inside.codes absent))
    c.self.invariant

pub returns-in_default-push-clause-err : goal.returns-in_default-push-clause-err
returns-in_default-push-clause-err c =
    let absent = ap (λ rows. code_place rows c.args.card.now.link.new_code) c.self.view_is ∙ c.requires.new_code in
    let t = c.self.inside in
    let before : List (ℕ × CodeRow) → Rows = λ codes. record {
      day = t.day;
      kinds = keys_of t.kinds;
      rooms = t.rooms.entries;
      codes = codes;
      stays = t.stays;
      cards = c.push.new.self;
      inside = t.inside;
      notes = t.notes;
      fits = t.fits.entries;
    } in
    ap before (c.remove.ensures ∙ ap (remove_entry (is_at (nat_cmp c.args.card.now.link.new_code))) c.in-Ok.ensures.ok
    ∙ taken_back nat_cmp nat_cmp_total c.args.card.now.link.new_code
    (record { room = c.args.room; place = c.codes_issued-place.result }) c.self.inside.codes absent)
    ∙ ap (λ cards. let rows : Rows = record {
      day = t.day;
      kinds = keys_of t.kinds;
      rooms = t.rooms.entries;
      codes = t.codes;
      stays = t.stays;
      cards = cards;
      inside = t.inside;
      notes = t.notes;
      fits = t.fits.entries;
    } in rows) c.in_default-push.ensures.err
    ∙ c.self.view_is

pub issue_at-requires : goal.issue_at-requires
issue_at-requires c =
    let few = subst (λ rows. codes_of rows c.args.room < 2 ^ 32 - 1) (sym c.self.view_is) c.requires.few in
    let same = codes_left c.args.leaves c.self.inside.rooms.entries c.args.room in
    subst (λ rooms. codes_there rooms c.args.room < 2 ^ 32 - 1) (sym c.leave_any.ensures) (omega (arith, few, same))

pub invariant_of-self-2 : goal.invariant_of-self-2
invariant_of-self-2 c =
    let there = subst (λ rows. IsSome (room_at rows c.args.room)) (sym c.self.view_is) c.requires.there in
    let absent = ap (λ rows. code_place rows c.args.card.now.link.new_code) c.self.view_is ∙ c.requires.new_code in
    let f : RoomRow → RoomRow =
    λ row. record row { codes = row.codes + 1; secured = false; party = Some c.args.card.now.party } in
    let left : List (ℕ × RoomRow) = freed_by c.args.leaves c.self.inside.rooms.entries in
    let up : (r : ℕ) → codes_there c.self.inside.rooms.entries r ≤ codes_there c.issue_at.new.rooms.entries r =
    λ r. let a = codes_left c.args.leaves c.self.inside.rooms.entries r in
    let b = codes_changed (λ m n. m ≤ n) (λ n. omega arith) f (λ row. omega arith) c.args.room r left in
    subst (λ rooms. codes_there c.self.inside.rooms.entries r ≤ codes_there rooms r)
    (sym (c.issue_at.ensures ∙ ap (λ rooms. room_changed c.args.room f rooms) c.leave_any.ensures))
    (omega (arith, a, b)) in
    let places : LaterPlacesFree c.issue_at.new.rooms.entries c.insert.new.self =
    subst (λ codes. LaterPlacesFree c.issue_at.new.rooms.entries codes) (sym c.in-Ok.ensures.ok)
    (free_after c.self.inside.rooms.entries c.issue_at.new.rooms.entries
    c.self.inside.codes c.args.card.now.link.new_code
    (record { room = c.args.room; place = c.codes_issued-place.result }) c.self.invariant.places up
    (omega (arith, c.codes_issued-place.ensures))
    (let a = codes_left c.args.leaves c.self.inside.rooms.entries c.args.room in
    let b = one_more_code c.args.room f left (λ row. refl)
    (there_left c.args.leaves c.self.inside.rooms.entries c.args.room there) in
    subst (λ rooms. c.codes_issued-place.result < codes_there rooms c.args.room)
    (sym (c.issue_at.ensures ∙ ap (λ rooms. room_changed c.args.room f rooms) c.leave_any.ensures))
    (omega (arith, a, b, c.codes_issued-place.ensures)))
    absent) in
    record {
      places = places;
      rooms_known = subst (λ rooms. RoomsKnown c.self.inside.kinds rooms)
          (sym (c.issue_at.ensures ∙ ap (λ rooms. room_changed c.args.room f rooms) c.leave_any.ensures))
          (known_changed f (λ row. refl) c.self.inside.kinds c.args.room left
          (known_left c.args.leaves c.self.inside.kinds c.self.inside.rooms.entries c.self.invariant.rooms_known));
    }
