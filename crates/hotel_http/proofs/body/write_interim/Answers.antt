use Rattle.hotel_http.proofs.body.write_interim.Goals as goal

pub returns-clause-writes : goal.returns-clause-writes
returns-clause-writes g c = rw c.if-not-awaited.false c.write_bytes.ensures.writes
