use Rattle.std.proofs.Common.{◌≡◌, ◌∙◌, ℕ, List, ◌++◌, codes, subst}
use Rattle.std.specs.Fmt.{decimal}
use Rattle.hotel_streams.specs.Bytes.{Writes}
use Rattle.hotel_program.proofs.server.write_listening.Goals as goal

pub returns : goal.returns
returns g c =
    let number : c.as_bytes-number.result.now ≡ decimal c.args.port =
    c.as_bytes-number.ensures.value ∙ c.format.ensures.text in
    let old = g.W.Write.contents c.args.writer.now in
    let new = g.W.Write.contents c.write_named.new.writer in
    record {
      writes = subst (λ (t : List ℕ). Writes old new (codes "listening on 127.0.0.1:" ++ t ++ codes "\n")
          c.args.calls.now c.write_named.new.calls c.write_named.result) number c.write_named.ensures.writes;
    }
