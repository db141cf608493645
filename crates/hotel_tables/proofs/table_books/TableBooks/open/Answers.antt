use Rattle.hotel_tables.proofs.table_books.TableBooks.open.Goals as goal

pub returns-in-Err-clause-left : goal.returns-in-Err-clause-left
returns-in-Err-clause-left g c = (c.in-Err._conn, c.in-Err.ensures.left)
