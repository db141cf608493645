-- the connection and its callers as they are when its limits are set
use Rattle.std.proofs.Common.{Some}
use Rattle.hotel_program.proofs.connections.serve_taken.Given as goal

abbrev pub ghosts-serve_limited : goal.ghosts-serve_limited
ghosts-serve_limited g a = record { stream = Some a.stream.now; reads = Some a.reads; writes = Some a.writes }
