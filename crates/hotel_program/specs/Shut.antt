-- What scripts and servers answer behind a failure that shut the books, where nobody else wrote what they are kept in.
use Rattle.std.specs.Prelude.{◌≡◌, ℕ, true, false, List, [], ◌∷◌, Option, Some, IsSome, Ok, Err, ⊤}
use Rattle.std.specs.List.{AllByRecursion, concat}
use Rattle.std.specs.Io.KnownBytes.{Appends}
use Rattle.rand_core.specs.Stream.{Stream}
use Rattle.keycard_rules.specs.{declared.kept.Kept.Ghosts as KeptOf, Calls.BeganShut, Calls.Passes}
use Rattle.hotel_books.specs.declared.books.Books.{Ghosts as BooksOf}
use Rattle.hotel_model.specs.{History.History}
use Rattle.hotel_http.specs.declared.serve.ServeFault.TheVariants.{Write}
use Rattle.keycard_rules.specs.Calls.{Told}
use Rattle.hotel_program.specs.Script.{Asks.ask_in, ListAnswers.tells_failure, WholeScript.LinesAnswered}
use Rattle.hotel_program.specs.Connections.{ConnectionCame, ConnectionEnd, ConnectionHappens}

-- Each of these lines that asks something is answered by a text that reports a failure.
abbrev pub TellFailures : List (List ℕ) → List (List ℕ) → Type 0
TellFailures [] [] = ⊤
TellFailures (line ∷ lines) (text ∷ texts) =
    (IsSome (ask_in line) → tells_failure text ≡ true) × TellFailures lines texts
TellFailures [] (text ∷ texts) = ⊥
TellFailures (line ∷ lines) [] = ⊥

-- Lines that were answered one after the other, from a state on that was not clean: their answers were written, and
-- tell failures.
abbrev pub ScriptsNothing : {S R W : Type 0} → KeptOf S → BooksOf S → (R → Stream) → (W → Option (List ℕ)) → Type 0
ScriptsNothing {S = S} {R = R} {W = W} K own stream contents = (old new : S × R × W) (lines : List (List ℕ))
    → LinesAnswered K own stream contents old lines new → BeganShut K old.0 new.0
    → (texts : List (List ℕ)) × TellFailures lines texts × Appends (contents old.2) (contents new.2) (concat texts)

-- nothing of a connection's request was taken
abbrev pub TookNothing : ConnectionEnd → Type 0
TookNothing (Some (Ok served)) = served.acted ≡ false
TookNothing (Some (Err (Write acted))) = acted ≡ false
TookNothing _ = ⊤

-- A connection ended so, each of its calls reported a failure, and nothing was taken.
abbrev pub ComesToNothing : ConnectionEnd → Type 0
ComesToNothing end = (h h' : History) × (s s' : Stream) × (told : Told) × ConnectionCame end h s told h' s'
    × AllByRecursion (λ t. IsSome t) told × TookNothing end

-- connections that were served one after the other, from such a state on: each came to nothing
abbrev pub ServesNothing : {S R : Type 0} → KeptOf S → BooksOf S → (R → Stream) → Type 0
ServesNothing {S = S} {R = R} K own stream = (old new : S × R) (ends : List ConnectionEnd)
    → Passes (ConnectionHappens K own stream) old ends new → BeganShut K old.0 new.0
    → AllByRecursion ComesToNothing ends
