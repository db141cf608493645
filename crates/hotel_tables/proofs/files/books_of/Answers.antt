use Rattle.hotel_tables.proofs.OfFiles.{all_made, all_found, none_found}
use Rattle.hotel_tables.proofs.files.books_of.Goals as goal

pub returns-in_default-2-clause-books : goal.returns-in_default-2-clause-books
returns-in_default-2-clause-books g c =
    all_made g.S.Store c.args.conn c.create_or_return.result c.create_or_return.ensures.created
    c.create_or_return.ensures.taken

pub returns-in-Err-NotADesk-default-clause-books : goal.returns-in-Err-NotADesk-default-clause-books
returns-in-Err-NotADesk-default-clause-books g c =
    let back = c.in-Err-NotADesk-default in
    all_found g.S.Store c.args.conn back.conn back.field-0-0 back.field-0-0-is back.ensures.left back.ensures.taken
    c.open_or_return.result c.open_or_return.ensures.opened

pub returns-in-Err-NotADesk-default-clause-fault : goal.returns-in-Err-NotADesk-default-clause-fault
returns-in-Err-NotADesk-default-clause-fault g c =
    let back = c.in-Err-NotADesk-default in
    none_found g.S.Store c.args.conn back.conn back.field-0-0 back.field-0-0-is back.ensures.left back.ensures.taken
    c.open_or_return.result c.open_or_return.ensures.left
