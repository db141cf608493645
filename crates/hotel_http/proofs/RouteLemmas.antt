-- Routes that are added one after the other.
use Rattle.std.proofs.Common.{◌≡◌, ◌∙◌, refl, true, Option, Some, is_none, Result, Ok, Err, OnOk, IfErr, IsErrAnd}
use Rattle.matchit.specs.{Rows.RowsOf, Route.Scan, Router.RouteOf, Router.InsertsRead}
use Rattle.matchit.specs.{declared.error.InsertError.InsertError}
use Rattle.matchit.specs.declared.error.InsertError.TheVariants.{Conflict, InvalidParam, InvalidParamSegment}
use Rattle.matchit.specs.declared.error.InsertError.TheVariants.{InvalidCatchAll, OutOfMemory}
use Rattle.hotel_http.specs.{Routes.added, Routes.is_free_in, declared.routes.Target.Target}

pub added_rows : (read : Result Scan InsertError) (target : Target) (old new : RowsOf (RouteOf Target))
    (r : Result (Unit {0}) InsertError) → InsertsRead read target old new r
    → OnOk r (new ≡ added read target old)
added_rows (Ok s) target old new (Ok u) h = h.1
added_rows (Ok s) target old new (Err e) h = tt
added_rows (Err e) target old new (Ok u) h = h.0
added_rows (Err e) target old new (Err f) h = tt

is_no_row : {T : Type 0} {found : Option T} {row : T} → found ≡ Some row → is_none found ≡ true → ⊥
is_no_row e free = cc

pub only_memory : (read : Result Scan InsertError) (target : Target) (old new : RowsOf (RouteOf Target))
    (r : Result (Unit {0}) InsertError) → InsertsRead read target old new r
    → IfErr r (λ fault. is_free_in read old ≡ true → fault ≡ OutOfMemory)
only_memory (Ok s) target old new (Ok u) h = tt
only_memory (Ok s) target old new (Err OutOfMemory) h = λ free. refl
only_memory (Ok s) target old new (Err (Conflict with)) h = λ free. absurd (is_no_row h.1.1 free)
only_memory (Ok s) target old new (Err InvalidParam) h = λ free. absurd h.1
only_memory (Ok s) target old new (Err InvalidParamSegment) h = λ free. absurd h.1
only_memory (Ok s) target old new (Err InvalidCatchAll) h = λ free. absurd h.1
only_memory (Err e) target old new (Ok u) h = tt
only_memory (Err e) target old new (Err f) h = λ free. cc

pub is_memory : {T : Type 0} (r : Result T InsertError) {fault : InsertError}
    → IsErrAnd r (λ e. e ≡ fault) → fault ≡ OutOfMemory → IfErr r (λ e. e ≡ OutOfMemory)
is_memory (Ok t) p q = absurd p
is_memory (Err e) p q = p ∙ q
