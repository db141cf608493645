use Rattle.std.proofs.Common.{ℕ, ◌≡◌, List, map, ap, sym, ◌∙◌}
use Rattle.hotel_books.proofs.Names.{Included, entries_between, rest_more, Note, pair_cmp, notes_at}
use Rattle.std.specs.Map.Iter.{deref_pair}
use Rattle.hotel_books.proofs.OfCode.Walking.{begun, one_more, as_rest}
use Rattle.hotel_memory.proofs.OfTables.RoomNotes.{part_of_room}
use Rattle.hotel_memory.proofs.note_table.NoteTable.walk.Goals as goal

pub loop-note-init : goal.loop-note-init
loop-note-init g c =
    let notes : List ((ℕ × ℕ) × Note) → List Note = λ es. map (λ (p : (ℕ × ℕ) × Note). p.1) es in
    let part : ℕ × ℕ → ℕ × ℕ → List Note =
    λ low high. notes (entries_between pair_cmp (Included low) (Included high) c.self.inside.notes.entries) in
    let rows : notes_at c.args.self.now c.args.room ≡ notes c.into_iter-note-iterator.result =
    sym (ap notes (c.into_iter-note-iterator.ensures.into_iter_gives
    ∙ c.range-note-items.ensures.between c.new.ensures.exhausted)
    ∙ (λ i. part (c.new.ensures.start i) (c.new.ensures.end i))
    ∙ sym (part_of_room c.args.room c.self.inside.notes.entries c.self.invariant)
    ∙ ap (λ es. notes_at es c.args.room) c.self.view_is) in
    as_rest g.S.Sink.after _ _ _ _ _ rows (begun g.S.Sink.after (notes_at c.args.self.now c.args.room) c.args.sink.now)

pub loop-note-preserved : goal.loop-note-preserved
loop-note-preserved g c =
    let e = rest_more deref_pair c.loop-note.note-iterator c.next.new.self c.next.result
    (c.in-Some.field-0-0, c.in-Some.note) c.in-Some.is c.next.ensures.steps in
    one_more g.S.Sink.after _ c.in-Some.note.now _ _ _ _
    (as_rest g.S.Sink.after _ _ _ _ _
    (ap (λ (es : List ((ℕ × ℕ) × Note)). map (λ (p : (ℕ × ℕ) × Note). p.1) es) e) c.loop-note.invariant)
    c.in_ok-take.ensures.taken
