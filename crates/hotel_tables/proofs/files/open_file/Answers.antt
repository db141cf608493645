use Rattle.std.proofs.Common.{refl, inl, inr}
use Rattle.hotel_tables.proofs.files.open_file.Goals as goal

pub returns-in-Ok-books_of-clause-books : goal.returns-in-Ok-books_of-clause-books
returns-in-Ok-books_of-clause-books g c = (c.in-Ok.conn, c.in-Ok.ensures.answer, c.in-Ok-books_of.ensures.books)

pub returns-in-Err-clause-fault : goal.returns-in-Err-clause-fault
returns-in-Err-clause-fault g c =
    inl ((c.in-Err.error, c.in-Err._left), c.in-Err.ensures.answer, c.connect_fault.ensures)

pub returns-in-Err-books_of-clause-fault : goal.returns-in-Err-books_of-clause-fault
returns-in-Err-books_of-clause-fault g c =
    let no = c.in-Err-books_of in
    inr (c.in-Ok.conn, no._conn, no.why, c.in-Ok.ensures.answer, refl, no.ensures.fault)
