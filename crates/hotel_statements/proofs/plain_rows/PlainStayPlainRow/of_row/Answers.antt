use Rattle.std.proofs.Common.{rules}
use Rattle.std.proofs.lemmas.Str.{IsUtf8-string_bytes}
use Rattle.hotel_statements.proofs.plain_rows.PlainStayPlainRow.of_row.Goals as goal

pub returns-in_err-get-2-clause-unread : goal.returns-in_err-get-2-clause-unread
returns-in_err-get-2-clause-unread c = search (rules, IsUtf8-string_bytes)

pub returns-in_err-get-3-clause-unread : goal.returns-in_err-get-3-clause-unread
returns-in_err-get-3-clause-unread c = search (rules, IsUtf8-string_bytes)
