use Rattle.std.proofs.Common.{◌≡◌, ◌≤◌, ◌+◌, ℕ, List, refl, ap, sym, ◌∙◌, subst, arith}
use Rattle.hotel_books.proofs.Names.{is_at, at_number, said_of, insert_entry, remove_entry, keys_of, Note, RoomRow}
use Rattle.hotel_books.proofs.Names.{pair_cmp, Rows, note_numbered, before_in, RoomsKnown}
use Rattle.hotel_memory.specs.Tables.{LaterPlacesFree}
use Rattle.hotel_books.proofs.OfTables.MapEntries.{taken_back, pair_total}
use Rattle.hotel_memory.proofs.OfTables.LaterPlaces.{free_on, codes_changed}
use Rattle.hotel_books.proofs.OfNights.RoomsByKind.{known_changed}
use Rattle.hotel_books.proofs.OfCode.NoteFields.{count_is, room_is}
use Rattle.hotel_memory.proofs.tables.Tables.add_note.Goals as goal

pub invariant_of-self-2 : goal.invariant_of-self-2
invariant_of-self-2 c =
    let f : RoomRow → RoomRow = λ row. record row {
      lock_place = c.args.lock_place;
      secured = c.args.secured;
      notes = row.before + c.value-count.result;
    } in
    let rooms = c.self.inside.rooms.entries in
    record {
      places = subst (λ later. LaterPlacesFree later c.self.inside.codes)
          (sym c.note_at.ensures) (free_on rooms _ c.self.inside.codes c.self.invariant.places
          (λ r. codes_changed (λ m n. m ≤ n) (λ n. omega arith) f (λ row. omega arith) c.note.inside.room r rooms));
      rooms_known = subst (λ later. RoomsKnown c.self.inside.kinds later) (sym c.note_at.ensures)
          (known_changed f (λ row. refl) c.self.inside.kinds c.note.inside.room rooms c.self.invariant.rooms_known);
    }

pub returns-in_default-change-clause-err : goal.returns-in_default-change-clause-err
returns-in_default-change-clause-err c =
    let t = c.self.inside in
    let note : Note = c.args.note.now in
    let count : c.value-count.result ≡ note.count = c.value-count.ensures.same ∙ count_is c.note.view_is in
    let number : c.notes_before.result + c.value-count.result ≡ before_in c.args.self.now note.room + note.count =
    (λ i. c.notes_before.ensures i + count i)
    ∙ ap (λ r. said_of (at_number t.rooms.entries r) 0 (λ (x : RoomRow). x.before) + note.count)
    (room_is c.note.view_is)
    ∙ ap (λ (rows : Rows). before_in rows note.room + note.count) c.self.view_is in
    let key : ℕ × ℕ = (note.room, before_in c.args.self.now note.room + note.count) in
    let own : (c.note.inside.room, c.notes_before.result + c.value-count.result) ≡ key =
    (λ i. ((room_is c.note.view_is) i, number i)) in
    let kept : (note.room, c.notes_before.result + c.value-count.result) ≡ key = (λ i. (note.room, number i)) in
    let absent = ap (λ (rows : Rows). note_numbered rows key.0 key.1) c.self.view_is ∙ c.requires.untaken in
    let before : List ((ℕ × ℕ) × Note) → Rows = λ notes. record {
      day = t.day;
      kinds = keys_of t.kinds;
      rooms = t.rooms.entries;
      codes = t.codes;
      stays = t.stays;
      cards = t.cards;
      inside = c.change.new.self;
      notes = notes;
      fits = t.fits.entries;
    } in
    ap before (c.remove.ensures ∙ ap (λ k. remove_entry (is_at (pair_cmp k)) c.insert.new.self) own
    ∙ ap (remove_entry (is_at (pair_cmp key))) (c.in-Ok.ensures.ok
    ∙ ap (λ k. insert_entry pair_cmp t.notes k note) kept) ∙ taken_back pair_cmp pair_total key note t.notes absent)
    ∙ ap (λ inside. let rows : Rows = record {
      day = t.day;
      kinds = keys_of t.kinds;
      rooms = t.rooms.entries;
      codes = t.codes;
      stays = t.stays;
      cards = t.cards;
      inside = inside;
      notes = t.notes;
      fits = t.fits.entries;
    } in rows) c.in_default-change.ensures.err
    ∙ c.self.view_is

pub overflow_add-number : goal.overflow_add-number
overflow_add-number c =
    let count : c.value-count.result ≡ c.args.note.now.count = c.value-count.ensures.same ∙ count_is c.note.view_is in
    let before : c.notes_before.result ≡ before_in c.args.self.now c.args.note.now.room =
    c.notes_before.ensures
    ∙ ap (λ r. said_of (at_number c.self.inside.rooms.entries r) 0 (λ (x : RoomRow). x.before)) (room_is c.note.view_is)
    ∙ ap (λ (rows : Rows). before_in rows c.args.note.now.room) c.self.view_is in
    omega (arith, count, before, c.requires.few)

pub note_at-requires : goal.note_at-requires
note_at-requires c =
    let count : c.value-count.result ≡ c.args.note.now.count = c.value-count.ensures.same ∙ count_is c.note.view_is in
    let before : said_of (at_number c.self.inside.rooms.entries c.note.inside.room) 0 (λ (x : RoomRow). x.before)
    ≡ before_in c.args.self.now c.args.note.now.room =
    ap (λ r. said_of (at_number c.self.inside.rooms.entries r) 0 (λ (x : RoomRow). x.before)) (room_is c.note.view_is)
    ∙ ap (λ (rows : Rows). before_in rows c.args.note.now.room) c.self.view_is in
    omega (arith, count, before, c.requires.few)
