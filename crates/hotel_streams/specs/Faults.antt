-- What faults print.
use Rattle.std.specs.Prelude.{ℕ, List, codes}
use Rattle.hotel_streams.specs.declared.bytes.ReadFault.{ReadFault}
use Rattle.hotel_streams.specs.declared.bytes.ReadFault.TheVariants as read
use Rattle.hotel_streams.specs.declared.bytes.WholeFault.{WholeFault}
use Rattle.hotel_streams.specs.declared.bytes.WholeFault.TheVariants as whole

abbrev pub read_fault_text : ReadFault → List ℕ
read_fault_text read.Read = codes "read"
read_fault_text read.Memory = codes "memory"

abbrev pub whole_fault_text : WholeFault → List ℕ
whole_fault_text whole.Read = codes "read"
whole_fault_text whole.TooLarge = codes "too large"
whole_fault_text whole.Memory = codes "memory"
