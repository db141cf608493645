-- How an import ended.
use Rattle.std.proofs.Common.{◌≡◌}
use Rattle.hotel_lock.specs.declared.audit_file.AuditFault.TheVariants as file
use Rattle.hotel_audit.specs.declared.imports.ImportFault.{ImportFault}
use Rattle.hotel_audit.specs.declared.imports.ImportFault.TheVariants.{File, Memory, Store}
use Rattle.hotel_program.specs.Alone.AuditRuns.{import_fault}
use Rattle.hotel_program.specs.declared.faults.Fault.TheVariants as fault

-- no import ends by a failed write
pub no_failed_write : (why : ImportFault) → import_fault why ≡ fault.Write → ⊥
no_failed_write (File file.TooLarge) e = cc
no_failed_write (File file.NoHeader) e = cc
no_failed_write (File file.WrongHeader) e = cc
no_failed_write (File file.Memory) e = cc
no_failed_write (Memory answered taken) e = cc
no_failed_write (Store answered taken) e = cc
