-- The reads and writes of a script.
use Rattle.std.proofs.Common.{◌≡◌, ◌∙◌, sym, ap, refl, ℕ, Result, Ok, Err}
use Rattle.std.specs.Prelude.{IsErrAnd, OnErr}
use Rattle.hotel_streams.specs.Calls.{Calls, CountsCalls, OnErrOf}
use Rattle.hotel_streams.specs.declared.bytes.WholeFault.{WholeFault}
use Rattle.hotel_streams.specs.declared.bytes.WholeFault.TheVariants as whole
use Rattle.hotel_program.specs.Program.{script_end}
use Rattle.hotel_program.specs.Script.WholeScript.{IfCut, IfUnbegun, fault_of_script}
use Rattle.hotel_program.specs.declared.faults.Fault.{Fault}
use Rattle.hotel_program.specs.declared.faults.Fault.TheVariants as fault
use Rattle.hotel_program.specs.declared.script.ScriptEnd.{ScriptEnd}
use Rattle.hotel_program.specs.declared.script.ScriptFault.{ScriptFault}
use Rattle.hotel_program.specs.declared.script.ScriptFault.TheVariants.{Read, TooLarge, Memory, Write}

-- a script that wasn't read whole for a read that failed
pub unread : (why : WholeFault) → fault_of_script why ≡ Read → why ≡ whole.Read
unread whole.Read e = refl
unread whole.TooLarge e = absurd (cc)
unread whole.Memory e = absurd (cc)

-- of a script that was begun no read failed
pub begun : (end : Result ScriptEnd ScriptFault) → IfUnbegun end ⊥ → end ≡ Err Read → ⊥
begun (Ok end) u e = absurd (cc)
begun (Err (Write done)) u e = absurd (cc)
begun (Err Read) u e = u
begun (Err TooLarge) u e = u
begun (Err Memory) u e = u

-- what holds on a fault holds where a write failed
pub on_cut : (P : Type 0) (end : Result ScriptEnd ScriptFault) → OnErr end P → IfCut end (λ _. P)
on_cut P (Ok end) p = tt
on_cut P (Err (Write done)) p = p
on_cut P (Err Read) p = tt
on_cut P (Err TooLarge) p = tt
on_cut P (Err Memory) p = tt

abbrev pub the_err : {A : Type 0} → WholeFault → Result A WholeFault
the_err why = Err why

abbrev fault_in : Result ScriptEnd ScriptFault → ScriptFault
fault_in (Ok end) = Memory
fault_in (Err fault) = fault

pub unread_end : {A : Type 0} (end : Result ScriptEnd ScriptFault) (why : WholeFault)
    → IsErrAnd end (λ e. e ≡ fault_of_script why) → end ≡ Err Read → the_err {A = A} why ≡ the_err whole.Read
unread_end (Ok end) why p e = absurd p
unread_end (Err fault) why p e = ap the_err (unread why (sym p ∙ ap fault_in e))

-- it isn't cut
pub not_cut : (P : Type 0) (end : Result ScriptEnd ScriptFault) (why : WholeFault)
    → IsErrAnd end (λ e. e ≡ fault_of_script why) → IfCut end (λ _. P)
not_cut P (Ok end) why p = absurd p
not_cut P (Err Read) why p = tt
not_cut P (Err TooLarge) why p = tt
not_cut P (Err Memory) why p = tt
not_cut P (Err (Write done)) whole.Read p = absurd (cc)
not_cut P (Err (Write done)) whole.TooLarge p = absurd (cc)
not_cut P (Err (Write done)) whole.Memory p = absurd (cc)

end_read : (end : Result ScriptEnd ScriptFault) → script_end end ≡ Err fault.Read → end ≡ Err Read
end_read (Ok end) e = absurd (cc)
end_read (Err Read) e = refl
end_read (Err TooLarge) e = absurd (cc)
end_read (Err Memory) e = absurd (cc)
end_read (Err (Write done)) e = absurd (cc)

end_write : {P : Type 0} (end : Result ScriptEnd ScriptFault) → IfCut end (λ _. P) → script_end end ≡ Err fault.Write
    → P
end_write (Ok end) p e = absurd (cc)
end_write (Err Read) p e = absurd (cc)
end_write (Err TooLarge) p e = absurd (cc)
end_write (Err Memory) p e = absurd (cc)
end_write (Err (Write done)) p e = p

-- the reads and writes of a script are those of the program's end
pub calls_of : (before after : Calls) (end : Result ScriptEnd ScriptFault) (told : Result ℕ Fault)
    → told ≡ script_end end → CountsCalls before after (OnErrOf end Read) (λ fact. IfCut end (λ _. fact))
    → CountsCalls before after (OnErrOf told fault.Read) (OnErrOf told fault.Write)
calls_of before after end told is counted = record {
  read = λ e. counted.read (end_read end (sym is ∙ e));
  write = λ e. end_write end counted.write (sym is ∙ e);
  none_forgotten = counted.none_forgotten;
}
