-- Requests over books that stand in a building.
use Rattle.std.specs.Prelude.{◌≡◌, List, Option, Result, Ok, Err, ℕ}
use Rattle.rand_core.specs.Stream.{Stream}
use Rattle.keycard_rules.specs.{declared.kept.Kept.Ghosts as KeptOf, Calls.Told}
use Rattle.hotel_books.specs.declared.books.Books.{Ghosts as BooksOf}
use Rattle.hotel_asks.specs.declared.asked.Ask.TheVariants as ask
use Rattle.hotel_lock.specs.AuditFile.{audit_lines}
use Rattle.hotel_http.specs.{declared.origins.Origins.Origins, declared.serve.Served.Served}
use Rattle.hotel_http.specs.declared.serve.ServeFault.{ServeFault}
use Rattle.hotel_http.specs.declared.tasks.Task.TheVariants as task
use Rattle.hotel_http.specs.{Body.interim_where, Request.Wanted}
use Rattle.hotel_http.specs.Serve.{Answered, Comes, Serves, ServesOver}
use Rattle.hotel_building.specs.Building.{Building}
use Rattle.hotel_building.specs.Calls.{Houses, IfAccepted}
use Rattle.building_calls.specs.{Imports.MayImport, Stands.EndsIn, Stands.InBuildings}

-- What a request asks for may be asked: its command, if the desk accepts it, or each note of its audit file in its
-- turn. A list asks for no step, and neither does what is rejected.
abbrev pub MayWant : Houses → Building → Stream → Wanted → Type 0
MayWant houses b source (Ok (task.Asks (ask.Command command), body)) = IfAccepted houses.may_ask b source command
MayWant houses b source (Ok (task.Asks (ask.List its_list), body)) = Unit {0}
MayWant houses b source (Ok (task.Audit, body)) = MayImport houses b source (audit_lines body)
MayWant houses b source (Err why) = Unit {0}

-- A request was served in a building. It asked for something that its bytes ask for, as far as they are known. If this
-- may be asked, the books stay in buildings, and it was answered so. Where no request was begun, nothing moved.
abbrev pub ServedIn : {S R : Type 0} → Houses → KeptOf S → BooksOf S → (R → Stream) → Origins → Option (List ℕ)
    → Option (List ℕ) → Option (List ℕ) → Option (List ℕ) → S × R → S × R → Result Served ServeFault → Building → Type 0
ServedIn houses K own words origins known left written new before after end b =
    Serves origins known left written new ((after.0 ≡ before.0) × (after.1 ≡ before.1))
    (λ wanted awaited ended. MayWant houses b (words before.1) wanted
    → EndsIn houses K own.rows b (λ h h'. (told : Told) × Answered (Comes wanted) (words before.1) (words after.1)
    (interim_where awaited) written new ended told h h') after.0) end

-- What a request promises.
abbrev pub RequestsStay : {S R : Type 0} → Houses → KeptOf S → BooksOf S → (R → Stream) → Type 0
RequestsStay {S = S} {R = R} houses K own words = (origins : Origins) (known left written new : Option (List ℕ))
    (before after : S × R) (end : Result Served ServeFault)
    → ServesOver origins K own words known left written new before after end
    → InBuildings houses K own.rows before.0
    (ServedIn houses K own words origins known left written new before after end) after.0
