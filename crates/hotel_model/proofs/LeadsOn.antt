-- What calls over books that may fail for good led to.
use Rattle.hotel_model.proofs.Names.{Rows, History}
use Rattle.hotel_model.specs.Leads.{Leads, LeadsOn}

-- where the later rows are kept
pub leads_of : {was is : Type 0} {rows later : Rows} {went : History → History → Type 0}
    → is → LeadsOn was rows went is later → Leads rows went later
leads_of kept on = λ h stands.
    let k = on h stands.0 (λ _. stands.1) in
    (k.0, (k.1, k.2 kept), k.3, k.4)

-- what went so went in another way too
pub leads_as : {was is : Type 0} {rows later : Rows} {went other : History → History → Type 0}
    → ((h h' : History) → went h h' → other h h') → LeadsOn was rows went is later
    → LeadsOn was rows other is later
leads_as too on = λ h reached stands.
    let k = on h reached stands in
    (k.0, k.1, k.2, too h k.0 k.3, k.4)
