use Rattle.std.proofs.Common.{not, ap, ◌∙◌, rules}
use Rattle.sqlite.specs.Held.{state}
use Rattle.hotel_tables.proofs.Entered.{ours_of, unread, left_of}
use Rattle.hotel_tables.proofs.table_books.TableBooks.open_or_return.Goals as goal

pub enter-requires-clause-ours : goal.enter-requires-clause-ours
enter-requires-clause-ours g c =
    ours_of c.in-Ok.layout (state g.S.Store c.args.conn) c.requires.alone
    (c.is_autocommit-settled.ensures.settled (c.is_autocommit-settled.ensures.value ∙ ap not c.requires.alone))
    c.in-Ok.ensures.ok

pub returns-in-Err-enter-clause-left : goal.returns-in-Err-enter-clause-left
returns-in-Err-enter-clause-left g c =
    left_of g.S.Store c.in-Ok.layout c.args.conn c.enter.new.conn c.in-Err-enter.why
    c.in-Ok.ensures.ok c.in-Err-enter.ensures

pub returns-in-Err-clause-left : goal.returns-in-Err-clause-left
returns-in-Err-clause-left g c =
    unread g.S.Store c.args.conn c.in-Err.why c.requires.alone
    c.in-Err.ensures.err c.in-Err.ensures.foreign (search rules)
