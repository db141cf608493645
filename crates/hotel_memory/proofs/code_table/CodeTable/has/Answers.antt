use Rattle.std.proofs.Common.{ap, ◌∙◌}
use Rattle.std.specs.Map.{keys_of}
use Rattle.keycard_rules.specs.Words.{is_one_of}
use Rattle.hotel_books.proofs.OfTables.MapEntries.{known_key}
use Rattle.hotel_memory.proofs.code_table.CodeTable.has.Goals as goal

pub returns : goal.returns
returns c = c.contains_key.ensures ∙ known_key c.self.inside.codes.entries c.args.code
    ∙ ap (λ es. is_one_of c.args.code (keys_of es)) c.self.view_is
