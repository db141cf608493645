use Rattle.hotel_tables.proofs.Reopened as law
use Rattle.hotel_tables.proofs.laws.files_keep_books.Goals as goal

pub returns : goal.returns
returns g c = law.files_keep_books
