-- The text of lines in a CSV writer over memory.
use Rattle.std.specs.Prelude.{◌≡◌, ℕ, false, List, ◌++◌, Vec}
use Rattle.std.specs.declared.alloc.Global.{Global}
use Rattle.csv.specs.declared.writer.Writer.{Writer}
use Rattle.csv.specs.Writing.{default_writer, writer_setup, fields_written, has_written, row_text, writer_under}
use Rattle.csv.specs.Writing.{writer_pending}

-- the line of these fields
abbrev pub line_of : List (List ℕ) → List ℕ
line_of fields = row_text default_writer fields

-- what the vector holds, and then what the writer still does
abbrev pub gathered_text : Writer (Vec ℕ Global) → List ℕ
gathered_text csv = (writer_under csv).items ++ writer_pending csv

-- no line is begun
abbrev pub IsBetweenLines : Writer (Vec ℕ Global) → Type 0
IsBetweenLines csv = (writer_setup csv ≡ default_writer) × (fields_written csv ≡ 0) × (has_written csv ≡ false)
