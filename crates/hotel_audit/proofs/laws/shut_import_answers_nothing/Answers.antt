use Rattle.hotel_audit.proofs.ShutImports.{imports_nothing}
use Rattle.hotel_audit.proofs.laws.shut_import_answers_nothing.Goals as goal

pub returns : goal.returns
returns g c = imports_nothing g.B.Kept g.B.Books
