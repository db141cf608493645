use Rattle.std.proofs.Common.{◌<◌, ◌-◌, ◌==◌, nat_lt, Some, None, refl, inl, ap, sym, ◌∙◌, arith}
use Rattle.hotel_books.proofs.Names.{note_at, since_refl}
use Rattle.hotel_core.proofs.OfCode.LaterNotes.{no_later_note}
use Rattle.hotel_core.proofs.{OfCode.Counting.none_more, OfCode.LookUps.knows}
use Rattle.hotel_model.proofs.{OfTables.Tests.and_true, OfTables.Tests.eq_from, OfTables.Tests.lt_from}
use Rattle.hotel_books.proofs.OfCode.NoteFields.{count_is, fit_is, room_is}
use Rattle.hotel_core.proofs.commands.lock_codes.kept_note.Goals as goal

pub returns-then-is_past : goal.returns-then-is_past
returns-then-is_past g c =
    let note = c.args.note.now in
    let row = c.args.row.now in
    let p = and_true (note.fit == row.fit) (nat_lt (row.notes - row.before) note.count)
    (sym c.is_past.ensures ∙ c.if-is_past.true) in
    let later : row.notes - row.before < note.count = lt_from (row.notes - row.before) note.count p.1 in
    record {
      answer = λ clean. ap Some
          (ap (λ z. note_at (g.B.Books.rows c.args.books.now) note.room z note.count) (eq_from note.fit row.fit p.0)
          ∙ no_later_note (g.B.Books.rows c.args.books.now) (c.known_sound.ensures clean) note.room note.count row
          (omega arith) later (c.requires.there clean));
      same = λ clean. refl;
      since = since_refl;
      vouched = λ honest _. c.requires.vouched honest;
      stays = λ honest clean. inl clean;
      counted = λ honest w why. none_more None why _ _ refl refl;
      stop = g.B.Kept.no_more_refl _;
    }

pub returns : goal.returns
returns g c =
    let note = c.args.note.now in
    knows g.met.B.Books.kept_rows (λ rows. note_at rows note.room note.fit note.count)
    c.note-kept.result c.known.result
    (rw (room_is c.note.view_is, fit_is c.note.view_is, count_is c.note.view_is) at c.note-kept.ensures)
    c.known.ensures
