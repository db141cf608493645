-- An audit file: its records are those of `csv`, the first is the header, each later one is a line.
use Rattle.std.specs.Prelude.{ℕ, List, [], ◌∷◌, Option, Some, None, length, map, nat_lt, if◌then◌else◌, Result, Ok, Err}
use Rattle.csv.specs.Reading.{default_config, records, strip_bom}
use Rattle.hotel_lock.specs.{declared.audit_file.AuditFault.AuditFault, declared.line.Line.Line}
use Rattle.hotel_lock.specs.{declared.header.Columns.Columns, Header.columns_of, Line.read_line}
use Rattle.hotel_lock.specs.declared.audit_file.AuditFault.TheVariants.{TooLarge, NoHeader, WrongHeader}
use Rattle.hotel_lock.specs.declared.audit_file.TheConstants.{AUDIT_BYTES}

-- the records of the bytes, without a byte order mark at their start
abbrev pub file_records : List ℕ → List (List (List ℕ))
file_records bytes = records default_config (strip_bom bytes)

-- the lines of records under these columns, if there are any
abbrev pub lines_under : Option Columns → List (List (List ℕ)) → Result (List Line) AuditFault
lines_under None later = Err WrongHeader
lines_under (Some columns) later = Ok (map (read_line columns) later)

-- the lines of records whose first is the header
abbrev pub lines_of : List (List (List ℕ)) → Result (List Line) AuditFault
lines_of [] = Err NoHeader
lines_of (first ∷ later) = lines_under (columns_of first) later

-- what the bytes are read as: their lines, or why they are no audit file
abbrev pub audit_lines : List ℕ → Result (List Line) AuditFault
audit_lines bytes = if nat_lt AUDIT_BYTES (length bytes) then Err TooLarge else lines_of (file_records bytes)
