-- The end is that of the request, by whichever table of routes; without one it is Memory.
use Rattle.std.proofs.Common.{refl, inl}
use Rattle.std.proofs.KnownBytes.{Appends-nil}
use Rattle.hotel_http.specs.declared.origins.Origins.TheVariants.{Local}
use Rattle.hotel_http.proofs.RequestLemmas.{none_read, unread}
use Rattle.hotel_program.proofs.connections.serve_stream.Goals as goal

pub returns-clause-serves : goal.returns-clause-serves
returns-clause-serves g c =
    let known = g.I.Read.remaining c.args.reader.now in
    ((refl, refl), inl (Appends-nil (g.W.Write.contents c.args.writer.now), unread known))

pub returns-clause-wanted : goal.returns-clause-wanted
returns-clause-wanted g c = none_read Local (g.I.Read.remaining c.args.reader.now)

pub returns-in-Ok-clause-follows : goal.returns-in-Ok-clause-follows
returns-in-Ok-clause-follows g c = rw c.local-service-in-Ok.ensures at c.serve_by-in-Ok.ensures.follows
