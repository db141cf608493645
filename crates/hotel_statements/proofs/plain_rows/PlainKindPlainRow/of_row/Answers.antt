use Rattle.std.proofs.Common.{rules}
use Rattle.std.proofs.lemmas.Str.{IsUtf8-string_bytes}
use Rattle.hotel_statements.proofs.plain_rows.PlainKindPlainRow.of_row.Goals as goal

pub returns-in_err-get-clause-unread : goal.returns-in_err-get-clause-unread
returns-in_err-get-clause-unread c = search (rules, IsUtf8-string_bytes)
