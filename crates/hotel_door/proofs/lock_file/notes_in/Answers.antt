use Rattle.std.proofs.Common.{◌≡◌, [], ◌∷◌, ◌++◌, ◌∙◌, ap, sym, map, refl, rules, Ok}
use Rattle.hotel_lock.specs.declared.line.Line.TheVariants as line
use Rattle.hotel_door.proofs.ReadBack.{all_are_notes, one_note_more, unread_at}
use Rattle.hotel_door.proofs.lock_file.notes_in.Goals as goal

pub loop-line-init : goal.loop-line-init
loop-line-init c = rw c.new-notes.ensures.items refl

pub returns-in-Unread-clause-err : goal.returns-in-Unread-clause-err
returns-in-Unread-clause-err c = λ differs wanted read.
    let lines = c.deref-line-items.result.now in
    let found = c.in-Ok.ensures.lines in
    let value = c.deref-line-items.ensures.value in
    let same : lines ≡ map line.Note wanted = cc in
    unread_at lines c.loop-line.line-index c.loop-line.notes.items wanted c.in-Unread.field-0 c.loop-line-test.true
    (rw c.in-Unread.is at c.line-item.is) c.loop-line.invariant same

pub loop-line-preserved : goal.loop-line-preserved
loop-line-preserved c =
    let pushed : c.push.new.self.items ≡ c.loop-line.notes.items ++ (c.in-Note.note ∷ []) = search rules in
    one_note_more c.deref-line-items.result.now c.loop-line.line-index c.loop-line.notes.items c.push.new.self.items
    c.in-Note.note c.loop-line-test.true (rw c.in-Note.is at c.line-item.is) pushed c.loop-line.invariant

pub returns-clause-ok : goal.returns-clause-ok
returns-clause-ok c =
    let lines = all_are_notes c.deref-line-items.result.now c.loop-line.line-index c.loop-line.notes.items
    c.loop-line-test.false c.loop-line.invariant in
    c.in-Ok.ensures.lines ∙ ap Ok (sym c.deref-line-items.ensures.value ∙ lines)
