use Rattle.std.proofs.Common.{rules, ◌≡◌, ◌∙◌, ◌∷◌, ◌++◌, ◌+◌, Err, ap, drop, sym, take, take-append-drop}
use Rattle.std.proofs.lemmas.List.{take_all}
use Rattle.hotel_streams.proofs.CallsLemmas.{none_forgotten, then_none_forgotten}
use Rattle.hotel_lock.specs.LogWriter.{LogEnds}
use Rattle.hotel_lock.specs.declared.log_writer.LogFault.TheVariants as fault
use Rattle.hotel_lock.proofs.Logs.{drop_one, take_one}
use Rattle.hotel_lock.proofs.LogWritten.{begun, header_failed, line_added, line_failed, rest_ended}
use Rattle.hotel_lock.proofs.log_writer.write_notes.Goals as goal

pub returns-in_err-write_bytes-clause-log : goal.returns-in_err-write_bytes-clause-log
returns-in_err-write_bytes-clause-log g c =
    let stop : LogEnds c.args.notes.now (g.W.Write.contents c.args.writer.now)
    (g.W.Write.contents c.write_bytes.new.writer) (Err fault.Write) =
    header_failed _ _ c.args.notes.now (rw c.audit_header.ensures at c.in_err-write_bytes.ensures.writes.err) in
    search rules

pub loop-note-init : goal.loop-note-init
loop-note-init g c =
    let first = begun (g.W.Write.contents c.args.writer.now) (g.W.Write.contents c.write_bytes.new.writer)
    (rw c.audit_header.ensures at c.in_ok-write_bytes.ensures.writes.ok) in
    (rw c.none-lines.ensures first, none_forgotten c.write_bytes.new.calls)

pub returns-in_err-add_note-clause-log : goal.returns-in_err-add_note-clause-log
returns-in_err-add_note-clause-log g c =
    let all = c.args.notes.now in
    let i = c.loop-note.note-index in
    let note = c.note-item.result in
    let whole : all ≡ take i all ++ (note ∷ drop (i + 1) all) = sym (take-append-drop i all)
    ∙ ap (λ rest. take i all ++ rest) (drop_one all i note c.loop-note-test.true c.note-item.is) in
    let stop : LogEnds all (g.W.Write.contents c.args.writer.now) (g.W.Write.contents c.add_note.new.writer)
    (Err c.in_err-add_note.field-0.0) =
    line_failed (g.W.Write.contents c.args.writer.now) (g.W.Write.contents c.loop-note.writer)
    (g.W.Write.contents c.add_note.new.writer) c.loop-note.lines c.add_note.new.lines (take i all) all
    (drop (i + 1) all) note c.in_err-add_note.field-0.0 c.loop-note.invariant.0 whole
    c.in_err-add_note.ensures.line in
    search rules

pub loop-note-preserved : goal.loop-note-preserved
loop-note-preserved g c =
    let all = c.args.notes.now in
    let i = c.loop-note.note-index in
    let note = c.note-item.result in
    let more = line_added (g.W.Write.contents c.args.writer.now) (g.W.Write.contents c.loop-note.writer)
    (g.W.Write.contents c.add_note.new.writer) c.loop-note.lines c.add_note.new.lines (take i all) note
    c.in_ok-add_note.field-0 c.loop-note.invariant.0 c.in_ok-add_note.ensures.line in (
      rw (take_one all i note c.loop-note-test.true c.note-item.is) more,
      then_none_forgotten _ _ _ c.loop-note.invariant.1 c.in_ok-add_note.ensures.calls.none_forgotten,
    )

pub returns-clause-log : goal.returns-clause-log
returns-clause-log g c =
    let all = c.args.notes.now in
    let taken = take_all c.loop-note.note-index all c.loop-note-test.false in
    rest_ended (g.W.Write.contents c.args.writer.now) (g.W.Write.contents c.loop-note.writer)
    (g.W.Write.contents c.write_lines.new.writer) c.loop-note.lines all c.write_lines.result
    (rw taken at c.loop-note.invariant.0) c.write_lines.ensures.lines
