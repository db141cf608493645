use Rattle.std.proofs.Common.{◌≤◌, ◌<◌, ◌+◌, ℕ, List, false, IsSome, refl, ap, sym, ◌∙◌, subst, arith, nat_cmp}
use Rattle.hotel_books.proofs.Names.{is_at, remove_entry, keys_of, nat_cmp_total, RoomRow, CodeRow, FitRow, Rows}
use Rattle.hotel_books.proofs.Names.{at_number, room_at, code_place, first_code_at, RoomsKnown}
use Rattle.hotel_memory.specs.Tables.{LaterPlacesFree}
use Rattle.hotel_memory.specs.Tables.{TablesAgree}
use Rattle.hotel_books.proofs.OfTables.MapEntries.{taken_back, found}
use Rattle.hotel_books.proofs.OfNights.RoomsByKind.{known_changed}
use Rattle.hotel_memory.proofs.OfTables.LaterPlaces.{free_after, codes_changed, codes_there, one_more_code}
use Rattle.hotel_memory.proofs.tables.Tables.refit.Goals as goal

pub remove-requires-clause-there : goal.remove-requires-clause-there
remove-requires-clause-there c =
    ap (λ es. at_number es c.args.code) c.in-Ok.ensures.ok
    ∙ found nat_cmp nat_cmp_total c.args.code
    (record { room = c.args.room; place = c.codes_issued-place.result }) c.self.inside.codes

pub remove-requires-clause-alone : goal.remove-requires-clause-alone
remove-requires-clause-alone c =
    let absent = ap (λ rows. code_place rows c.args.code) c.self.view_is ∙ c.requires.new_code in
    ap (λ es. first_code_at (remove_entry (is_at (nat_cmp c.args.code)) es) c.args.room c.codes_issued-place.result)
    c.in-Ok.ensures.ok
    ∙ ap (λ es. first_code_at es c.args.room c.codes_issued-place.result) (taken_back nat_cmp nat_cmp_total c.args.code
    (record { room = c.args.room; place = c.codes_issued-place.result }) c.self.inside.codes absent)
    ∙ c.self.invariant.places c.args.room c.codes_issued-place.result (omega (arith, c.codes_issued-place.ensures))

pub invariant_of-self-in_default-insert : goal.invariant_of-self-in_default-insert
invariant_of-self-in_default-insert c =
    let absent = ap (λ rows. code_place rows c.args.code) c.self.view_is ∙ c.requires.new_code in
    subst (λ codes. TablesAgree c.self.inside.kinds c.self.inside.rooms.entries codes)
    (sym (c.remove.ensures ∙ ap (remove_entry (is_at (nat_cmp c.args.code))) c.in-Ok.ensures.ok
    ∙ taken_back nat_cmp nat_cmp_total c.args.code
    (record { room = c.args.room; place = c.codes_issued-place.result }) c.self.inside.codes absent))
    c.self.invariant

pub returns-in_default-insert-clause-err : goal.returns-in_default-insert-clause-err
returns-in_default-insert-clause-err c =
    let absent = ap (λ rows. code_place rows c.args.code) c.self.view_is ∙ c.requires.new_code in
    let t = c.self.inside in
    let before : List (ℕ × CodeRow) → Rows = λ codes. record {
      day = t.day;
      kinds = keys_of t.kinds;
      rooms = t.rooms.entries;
      codes = codes;
      stays = t.stays;
      cards = t.cards;
      inside = t.inside;
      notes = t.notes;
      fits = c.insert-2.new.self.entries;
    } in
    ap before (c.remove.ensures ∙ ap (remove_entry (is_at (nat_cmp c.args.code))) c.in-Ok.ensures.ok
    ∙ taken_back nat_cmp nat_cmp_total c.args.code
    (record { room = c.args.room; place = c.codes_issued-place.result }) c.self.inside.codes absent)
    ∙ ap (λ (fits : List ((ℕ × ℕ) × FitRow)). let rows : Rows = record {
      day = t.day;
      kinds = keys_of t.kinds;
      rooms = t.rooms.entries;
      codes = t.codes;
      stays = t.stays;
      cards = t.cards;
      inside = t.inside;
      notes = t.notes;
      fits = fits;
    } in rows) c.in_default-insert.ensures.err
    ∙ c.self.view_is

pub invariant_of-self-2 : goal.invariant_of-self-2
invariant_of-self-2 c =
    let there = subst (λ rows. IsSome (room_at rows c.args.room)) (sym c.self.view_is) c.requires.there in
    let absent = ap (λ rows. code_place rows c.args.code) c.self.view_is ∙ c.requires.new_code in
    let f : RoomRow → RoomRow = λ row. record row {
      lock_place = row.codes;
      codes = row.codes + 1;
      secured = false;
      fit = c.args.fit;
      before = row.notes;
    } in
    let rooms = c.self.inside.rooms.entries in
    let up : (r : ℕ) → codes_there rooms r ≤ codes_there c.refit_at.new.rooms.entries r =
    λ r. let b = codes_changed (λ m n. m ≤ n) (λ n. omega arith) f (λ row. omega arith) c.args.room r rooms in
    subst (λ later. codes_there rooms r ≤ codes_there later r) (sym c.refit_at.ensures) b in
    let places : LaterPlacesFree c.refit_at.new.rooms.entries c.insert.new.self =
    subst (λ codes. LaterPlacesFree c.refit_at.new.rooms.entries codes) (sym c.in-Ok.ensures.ok)
    (free_after rooms c.refit_at.new.rooms.entries c.self.inside.codes c.args.code
    (record { room = c.args.room; place = c.codes_issued-place.result }) c.self.invariant.places up
    (omega (arith, c.codes_issued-place.ensures))
    (let b = one_more_code c.args.room f rooms (λ row. refl) there in
    subst (λ later. c.codes_issued-place.result < codes_there later c.args.room) (sym c.refit_at.ensures)
    (omega (arith, b, c.codes_issued-place.ensures)))
    absent) in
    record {
      places = places;
      rooms_known = subst (λ later. RoomsKnown c.self.inside.kinds later) (sym c.refit_at.ensures)
          (known_changed f (λ row. refl) c.self.inside.kinds c.args.room rooms c.self.invariant.rooms_known);
    }
