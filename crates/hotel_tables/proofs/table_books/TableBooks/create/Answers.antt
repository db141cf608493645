use Rattle.hotel_tables.proofs.table_books.TableBooks.create.Goals as goal

pub returns-in-Err-clause-left : goal.returns-in-Err-clause-left
returns-in-Err-clause-left g c bare = (_, c.in-Err.ensures.left bare)
