-- What is said of a store, or a file, that gives no books.
use Rattle.std.specs.Prelude.{ℕ, List, ◌++◌, codes}
use Rattle.hotel_rows.specs.declared.open_fault.OpenFault.{OpenFault}
use Rattle.hotel_rows.specs.declared.open_fault.OpenFault.TheVariants as fault
use Rattle.hotel_rows.specs.declared.open_fault.FileFault.{FileFault}
use Rattle.hotel_rows.specs.declared.open_fault.FileFault.TheVariants as file
use Rattle.hotel_rows.specs.declared.stored.TableName.{TableName}
use Rattle.hotel_rows.specs.declared.stored.TableName.TheVariants as table

-- the name of a table in the database
abbrev pub table_name : TableName → List ℕ
table_name table.Meta = codes "meta"
table_name table.Kind = codes "kind"
table_name table.Room = codes "room"
table_name table.Stay = codes "stay"
table_name table.Code = codes "code"
table_name table.Card = codes "card"
table_name table.Inside = codes "inside"
table_name table.Note = codes "note"
table_name table.Fit = codes "fit"

abbrev pub open_fault_text : OpenFault → List ℕ
open_fault_text fault.Memory = codes "memory"
open_fault_text fault.Store = codes "store"
open_fault_text fault.NotADesk = codes "not a desk"
open_fault_text (fault.Damaged table) = codes "damaged " ++ table_name table

abbrev pub file_fault_text : FileFault → List ℕ
file_fault_text file.File = codes "file"
file_fault_text (file.Desk why) = open_fault_text why
