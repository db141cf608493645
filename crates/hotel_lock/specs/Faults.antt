-- What faults print.
use Rattle.std.specs.Prelude.{ℕ, List, codes}
use Rattle.hotel_lock.specs.declared.audit_file.AuditFault.{AuditFault}
use Rattle.hotel_lock.specs.declared.audit_file.AuditFault.TheVariants as audit
use Rattle.hotel_lock.specs.declared.log_writer.LogFault.{LogFault}
use Rattle.hotel_lock.specs.declared.log_writer.LogFault.TheVariants as log

-- what the fault of an audit file prints
abbrev pub audit_fault_text : AuditFault → List ℕ
audit_fault_text audit.TooLarge = codes "too large"
audit_fault_text audit.NoHeader = codes "no header"
audit_fault_text audit.WrongHeader = codes "wrong header"
audit_fault_text audit.Memory = codes "memory"

-- what the fault of a log that isn't written whole prints
abbrev pub log_fault_text : LogFault → List ℕ
log_fault_text log.Memory = codes "memory"
log_fault_text log.Write = codes "write"
