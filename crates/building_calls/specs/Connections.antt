-- The connections of a server, over books that stand in a building.
use Rattle.std.specs.Prelude.{Result}
use Rattle.rand_core.specs.Stream.{Stream}
use Rattle.keycard_rules.specs.declared.kept.Kept.{Ghosts as KeptOf}
use Rattle.hotel_books.specs.declared.books.Books.{Ghosts as BooksOf}
use Rattle.hotel_http.specs.{declared.serve.Exchange.Exchange, declared.serve.ServeFault.ServeFault, Serve.served_in}
use Rattle.hotel_http.specs.declared.origins.Origins.TheVariants.{Local}
use Rattle.hotel_program.specs.Connections.{ServesInTime}
use Rattle.hotel_program.specs.declared.listener.Caller.{Ghosts as CallerOf}
use Rattle.hotel_building.specs.Calls.{Houses}
use Rattle.building_calls.specs.{Requests.ServedIn, Stands.InBuildings}

-- What a connection promises whose request is served: what the request does, by the bytes that the connection has.
abbrev pub ConnectionsStay : {C L S R : Type 0} → Houses → CallerOf L C → KeptOf S → BooksOf S → (R → Stream) → Type 0
ConnectionsStay {C = C} {L = L} {S = S} {R = R} houses calls K own words =
    (stream : C) (reads writes reads' writes' : L) (old new : S × R) (end : Result Exchange ServeFault)
    → (i : ServesInTime calls K own words stream reads writes old end reads' writes' new)
    → InBuildings houses K own.rows old.0
    (ServedIn houses K own words Local (calls.remaining stream reads) (calls.remaining stream i.read.caller)
    (calls.contents stream writes) (calls.contents stream writes') old new (served_in end)) new.0
