-- The connections of a server, over books that stand in a building.
use Rattle.rand_core.specs.Stream.{Stream}
use Rattle.keycard_rules.specs.declared.kept.Kept.{Ghosts as KeptOf}
use Rattle.hotel_books.specs.declared.books.Books.{Ghosts as BooksOf}
use Rattle.hotel_http.specs.Serve.{served_in}
use Rattle.hotel_http.specs.declared.origins.Origins.TheVariants.{Local}
use Rattle.hotel_program.specs.declared.listener.Caller.{Ghosts as CallerOf}
use Rattle.hotel_building.specs.Calls.{Houses}
use Rattle.building_calls.specs.Connections.{ConnectionsStay}
use Rattle.building_calls.proofs.{RequestsStay.requests_stay, Stays.Known}

pub connections_stay : (houses : Houses) → Known houses → {C L S R : Type 0} (calls : CallerOf L C) (K : KeptOf S)
    (own : BooksOf S) (words : R → Stream) → ConnectionsStay houses calls K own words
connections_stay houses facts calls K own words stream reads writes reads' writes' old new end i =
    requests_stay houses facts K own words Local (calls.remaining stream reads) (calls.remaining stream i.read.caller)
    (calls.contents stream writes) (calls.contents stream writes') old new (served_in end) i.serves
