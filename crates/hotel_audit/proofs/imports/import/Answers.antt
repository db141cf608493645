use Rattle.std.proofs.Common.{◌≡◌, Err, ap, refl, inl, inr, ◌≢◌, ◌⊎◌}
use Rattle.hotel_lock.specs.{declared.audit_file.AuditFault.AuditFault, AuditFile.audit_lines}
use Rattle.hotel_audit.specs.{declared.imports.ImportFault.TheVariants.File}
use Rattle.hotel_lock.specs.declared.audit_file.AuditFault.TheVariants.{TooLarge, NoHeader, WrongHeader, Memory}
use Rattle.hotel_audit.proofs.ImportEnds.{none_begun}
use Rattle.hotel_audit.proofs.imports.import.Goals as goal

-- Memory ran out, or the fault is known
by_fault : (why : AuditFault) (P : AuditFault → Type 0) → (why ≢ Memory → P why) → (why ≡ Memory) ⊎ P why
by_fault TooLarge P known = inr (known (λ e. cc e))
by_fault NoHeader P known = inr (known (λ e. cc e))
by_fault WrongHeader P known = inr (known (λ e. cc e))
by_fault Memory P known = inl refl

pub returns-in-Err-clause-imported : goal.returns-in-Err-clause-imported
returns-in-Err-clause-imported g c =
    let why = by_fault c.in-Err.fault (λ fault. audit_lines c.args.bytes.now ≡ Err fault) c.in-Err.ensures.fault in
    none_begun g.B.Kept g.B.Books c.args.books.now (audit_lines c.args.bytes.now) c.in-Err.fault why

pub returns-in-Err-clause-large : goal.returns-in-Err-clause-large
returns-in-Err-clause-large g c = λ big.
    let same : c.in-Err.fault ≡ TooLarge = cc (c.in-Err.ensures.large.1 big) in
    ap (λ why. Err (File why)) same
