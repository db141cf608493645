-- Why a column isn't read.
use Rattle.std.proofs.Common.{◌≡◌, ◌≢◌, ◌∙◌, ◌<◌, ℕ, List, length, sym, ap, subst, get_or, Result, Ok, Err, IfErr, All}
use Rattle.std.specs.Result.{IsErr, IsErrAnd}
use Rattle.sqlite.specs.declared.error.Error.{Error}
use Rattle.sqlite.specs.declared.error.Error.TheVariants.{SqliteFailure}
use Rattle.sqlite.specs.declared.error.ErrorCode.TheVariants.{OutOfMemory}
use Rattle.keycard_rules.specs.declared.issued.LookFault.{LookFault}
use Rattle.keycard_rules.specs.declared.issued.LookFault.TheVariants as why
use Rattle.sqlite.specs.State.{State}
use Rattle.hotel_statements.specs.LookUps.{fault_of, HasCause}

pub not_wanting : (e : Error) → fault_of e ≢ why.Memory → e ≢ SqliteFailure OutOfMemory
not_wanting e other is = other (ap fault_of is)

-- what `?` hands over is the error
pub err_is : {T : Type 0} (r : Result T LookFault) (fault : LookFault) → IsErr r × IsErrAnd r (λ given. given ≡ fault)
    → r ≡ Err fault
err_is (Ok value) fault h = absurd h.1
err_is (Err given) fault h = ap Err h.1

-- so its cause is the cause of the error
pub cause_passed : {T P : Type 0} (r : Result T LookFault) (fault : LookFault)
    → IsErr r × IsErrAnd r (λ given. given ≡ fault)
    → (fault ≢ why.Memory → P) → IfErr r (λ given. given ≢ why.Memory → P)
cause_passed (Ok value) fault h fails = tt
cause_passed (Err given) fault h fails = λ other. fails (λ is. other (h.1 ∙ is))

-- one element that isn't such is enough
pub unread_at : {X : Type 0} (Is : X → Type 0) (xs : List X) (i : ℕ) (x : X) → i < length xs → x ≡ get_or xs i x
    → ¬ Is x → ¬ All Is xs
unread_at Is xs i x low is unread all = unread (subst Is (sym is) (all i x low))

-- ---- the cause of a look-up whose error is handed over

-- the same where what `?` met was this answer
pub cause_of : {T U : Type 0} (Fails : State → State → Type 0) (old new : State)
    (answer : Result T LookFault) (r : Result U LookFault)
    (fault : LookFault) → answer ≡ Err fault → IsErr r × IsErrAnd r (λ given. given ≡ fault)
    → HasCause Fails old new answer → HasCause Fails old new r
cause_of {T = T} Fails old new answer r fault was h cause clean =
    let fails : IfErr {T = T} (Err fault) (λ given. given ≢ why.Memory → Fails old new) =
    subst (λ (x : Result T LookFault). IfErr x (λ given. given ≢ why.Memory → Fails old new)) was (cause clean) in
    cause_passed r fault h fails
