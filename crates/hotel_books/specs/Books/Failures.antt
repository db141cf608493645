-- The failures of memory and of the store that replies tell.
use Rattle.std.specs.Prelude.{Option, Some, None}
use Rattle.keycard_rules.specs.declared.issued.LookFault.{LookFault}
use Rattle.keycard_rules.specs.declared.issued.LookFault.TheVariants as look
use Rattle.hotel_model.specs.{declared.reply.Reply.Reply, declared.reply.Reply.TheVariants.Refused}
use Rattle.hotel_model.specs.{declared.reply.Refusal.Refusal}
use Rattle.hotel_model.specs.declared.reply.Refusal.TheVariants.{Memory, Store}

-- the refusal that reports this cause
abbrev pub refusal_of : LookFault → Refusal
refusal_of look.Memory = Memory
refusal_of look.Store = Store

-- the failure that a reply reports, if it reports one
abbrev pub failure_in : Reply → Option LookFault
failure_in (Refused Memory) = Some look.Memory
failure_in (Refused Store) = Some look.Store
failure_in _ = None
