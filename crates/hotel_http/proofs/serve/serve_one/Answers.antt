-- Without a table of routes nothing is read.
use Rattle.std.proofs.Common.{refl, inl}
use Rattle.std.proofs.KnownBytes.{Appends-nil}
use Rattle.hotel_http.proofs.RequestLemmas.{unread}
use Rattle.hotel_http.proofs.serve.serve_one.Goals as goal

pub returns-in_default-clause-serves : goal.returns-in_default-clause-serves
returns-in_default-clause-serves g c =
    let known = g.I.Read.remaining c.args.reader.now in
    ((refl, refl), inl (Appends-nil (g.W.Write.contents c.args.writer.now), unread known))
