-- The faults of lists, as texts and as refusals.
use Rattle.std.specs.Prelude.{ℕ, List, Option, Some, None, codes}
use Rattle.hotel_model.specs.declared.reply.Refusal.{Refusal}
use Rattle.hotel_model.specs.declared.reply.Refusal.TheVariants as refusal
use Rattle.keycard_rules.specs.declared.issued.LookFault.{LookFault}
use Rattle.keycard_rules.specs.declared.issued.LookFault.TheVariants as look
use Rattle.hotel_lists.specs.declared.fault.ListFault.{ListFault}
use Rattle.hotel_lists.specs.declared.fault.ListFault.TheVariants as fault

-- what a list's fault prints
abbrev pub fault_text : ListFault → List ℕ
fault_text fault.NoRoom = codes "refused 6 NoRoom"
fault_text fault.Memory = codes "memory"
fault_text fault.Store = codes "store"
fault_text fault.Write = codes "write"

-- The refusal that a list's fault is answered by; none where the writer itself failed.
abbrev pub told_refusal : ListFault → Option Refusal
told_refusal fault.NoRoom = Some refusal.NoRoom
told_refusal fault.Memory = Some refusal.Memory
told_refusal fault.Store = Some refusal.Store
told_refusal fault.Write = None

-- the fault of a list that a call of the books ended
abbrev pub list_fault : LookFault → ListFault
list_fault look.Memory = fault.Memory
list_fault look.Store = fault.Store
