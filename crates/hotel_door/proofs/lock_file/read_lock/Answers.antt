use Rattle.std.proofs.Common.{◌∙◌, sym}
use Rattle.hotel_door.proofs.ReadBack.{head_of, is_found, is_lock, is_text, lines_of, not_unlike, too_short}
use Rattle.hotel_door.proofs.lock_file.read_lock.Goals as goal

pub returns-then-bytes-lt-HEAD_BYTES-clause-err : goal.returns-then-bytes-lt-HEAD_BYTES-clause-err
returns-then-bytes-lt-HEAD_BYTES-clause-err c = λ differs l f same.
    too_short l c.args.bytes.now same c.if-bytes-lt-HEAD_BYTES.true

pub returns-in_default-clause-err : goal.returns-in_default-clause-err
returns-in_default-clause-err c = λ differs l f same.
    c.in_default.not-Some _ (c.read_head.ensures ∙ head_of l c.args.bytes.now f same)

pub returns-in-Err-clause-err : goal.returns-in-Err-clause-err
returns-in-Err-clause-err c = λ differs l f same.
    c.in-Err.ensures.err differs l.notes (lines_of l c.args.bytes.now f same)

pub returns-in_default-found-clause-err : goal.returns-in_default-found-clause-err
returns-in_default-found-clause-err c = λ differs l f same.
    let none = rw c.in_default-found.is at c.in-Ok-replayed.ensures.none in
    none l.lock (is_found l c.args.bytes.now c.in-Some.head c.in-Ok.notes.items
    c.deref.result.now f same (sym c.in-Some.is ∙ c.read_head.ensures, c.in-Ok.ensures.ok) c.deref.ensures.value)

pub returns-then-ne-clause-err : goal.returns-then-ne-clause-err
returns-then-ne-clause-err c = λ differs l f same.
    let some = rw c.in-Some-found.is at c.in-Ok-replayed.ensures.some in
    let written = c.as_slice.ensures.value ∙ c.in-Ok-lock_text.ensures.text in
    not_unlike c.as_slice.result.now c.args.bytes.now c.ne.result c.ne.ensures c.if-ne.true
    (is_text l c.in-Some-found.logged c.args.bytes.now c.as_slice.result.now
    c.in-Some.head c.in-Ok.notes.items c.deref.result.now f same
    (sym c.in-Some.is ∙ c.read_head.ensures, c.in-Ok.ensures.ok) c.deref.ensures.value some written)

pub returns-clause-only : goal.returns-clause-only
returns-clause-only c = λ other f same.
    let some = rw c.in-Some-found.is at c.in-Ok-replayed.ensures.some in
    sym (is_lock other c.in-Some-found.logged c.args.bytes.now
    c.in-Some.head c.in-Ok.notes.items c.deref.result.now f same
    (sym c.in-Some.is ∙ c.read_head.ensures, c.in-Ok.ensures.ok) c.deref.ensures.value some)
