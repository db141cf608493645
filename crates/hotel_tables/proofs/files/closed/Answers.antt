use Rattle.std.proofs.lemmas.Result.{IfOk-weaker}
use Rattle.hotel_tables.proofs.OfFiles.{holds_books, still_there}
use Rattle.hotel_tables.proofs.files.closed.Goals as goal

pub returns-clause-copied : goal.returns-clause-copied
returns-clause-copied g c =
    IfOk-weaker c.close_files.result _ _ (λ files copied. holds_books _ _ files c.close.ensures.conn
    c.close.ensures.books c.close.ensures.live copied) c.close_files.ensures.copied

pub returns-clause-left : goal.returns-clause-left
returns-clause-left g c = still_there _ _ c.close_files.result c.close.ensures.conn c.close_files.ensures.err
