-- What is read of files.
use Rattle.hotel_streams.specs.declared.bytes.ReadFault.{ReadFault}
use Rattle.hotel_streams.specs.declared.bytes.ReadFault.TheVariants as more
use Rattle.hotel_program.specs.declared.faults.Fault.{Fault}
use Rattle.hotel_program.specs.declared.faults.Fault.TheVariants as fault

-- The fault of a file that couldn't be read.
abbrev pub read_fault : ReadFault → Fault
read_fault more.Read = fault.File
read_fault more.Memory = fault.Memory
