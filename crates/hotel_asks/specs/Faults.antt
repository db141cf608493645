-- What faults print.
use Rattle.std.specs.Prelude.{ℕ, List, ◌++◌, codes}
use Rattle.hotel_asks.specs.Names.{name_text}
use Rattle.hotel_asks.specs.declared.values.AskFault.{AskFault}
use Rattle.hotel_asks.specs.declared.values.AskFault.TheVariants as ask
use Rattle.hotel_asks.specs.declared.values.ValueFault.{ValueFault}
use Rattle.hotel_asks.specs.declared.values.ValueFault.TheVariants as value

abbrev pub value_fault_text : ValueFault → List ℕ
value_fault_text value.Number = codes "too few or too many values"
value_fault_text (value.Value name) = codes "unread " ++ name_text name

abbrev pub ask_fault_text : AskFault → List ℕ
ask_fault_text (ask.Values why) = value_fault_text why
ask_fault_text ask.Memory = codes "memory"
