-- What the reader and the writer are left as is of this connection, since its callers began.
use Rattle.std.proofs.Common.{◌≡◌, ◌∙◌, ℕ, List, Option, IfOk, IfSome, sym, subst}
use Rattle.std.proofs.Math.Logic.{∥∥₁_map}
use Rattle.std.specs.Duration.{as_nanos}
use Rattle.hotel_streams.specs.Reads.{ReadsWhile}
use Rattle.hotel_http.specs.Request.{MayFollow, WantsMore}
use Rattle.hotel_http.specs.declared.origins.Origins.TheVariants.{Local}
use Rattle.hotel_program.specs.Connections.{ThrowsAway, follows_in}
use Rattle.hotel_program.specs.Timed.{Reads, WrittenSince}
use Rattle.hotel_program.proofs.ConnectionsLemmas.{lingered_behind, none_behind, same_served}
use Rattle.hotel_program.proofs.TimedLemmas.{since_read, since_written}
use Rattle.hotel_program.proofs.connections.serve_limited.Goals.{then-follows_in, else-follows_in}
use Rattle.hotel_program.proofs.connections.serve_limited.Goals as goal

pub returns-clause-served : goal.returns-clause-served
returns-clause-served g c =
    let stream = c.args.stream.now in
    let reader = c.serve_stream-end.new.reader in
    let writer = c.serve_stream-end.new.writer in
    let end = c.serve_stream-end.result in
    let writes = c.into_caller-writes.result in
    let left = as_nanos writer.left in
    let read : Reads g.row.L.Denot =
    record { caller = reader.caller; left = as_nanos reader.left; waits = reader.waits } in
    let of : reader.stream.now ≡ stream = cc reader.of in
    let of' : writer.stream.now ≡ stream = cc writer.of in
    let timed : ∥ WrittenSince g.L.Caller g.K.Begun.writes writer.stream.now (writes, left) ∥₁ =
    subst (λ (l : g.row.L.Denot). ∥ WrittenSince g.L.Caller g.K.Begun.writes writer.stream.now (l, left) ∥₁)
    (sym c.into_caller-writes.ensures) writer.timed in
    let known : g.L.Caller.remaining c.new-reader.result.stream.now c.new-reader.result.caller
    ≡ g.L.Caller.remaining stream c.args.reads = cc (c.new-reader.ensures.0, c.new-reader.ensures.1) in
    let rest : g.L.Caller.remaining reader.stream.now reader.caller ≡ g.L.Caller.remaining stream reader.caller = cc in
    let text : g.L.Caller.contents c.new-writer.result.stream.now c.new-writer.result.caller
    ≡ g.L.Caller.contents stream c.args.writes = cc (c.new-writer.ensures.0, c.new-writer.ensures.1) in
    let grown : g.L.Caller.contents writer.stream.now writer.caller ≡ g.L.Caller.contents stream writes =
    cc c.into_caller-writes.ensures in
    let follows : follows_in end ≡ c.follows_in.result = sym c.follows_in.ensures in
    let behind : ThrowsAway g.L.Caller stream (follows_in end) read c.if-follows_in.reads =
    elim c.if-follows_in.branch [
      | then-follows_in w ↦ subst (λ (l : g.row.L.Denot). ThrowsAway g.L.Caller stream (follows_in end) read l)
          (sym w.reads-is) (lingered_behind g.L.Caller stream reader.stream.now (follows_in end) read _ of
          (follows ∙ w.if-follows_in.true) w.linger-reads.ensures.lingers)
      | else-follows_in w ↦ subst (λ (l : g.row.L.Denot). ThrowsAway g.L.Caller stream (follows_in end) read l)
          (sym w.reads-is) (none_behind g.L.Caller stream (follows_in end) read _ (follows ∙ w.if-follows_in.false)
          w.into_caller-reads.ensures)
    ] in
    record {
      read = read;
      left = left;
      reads_in_time =
          ∥∥₁_map reader.timed (since_read g.L.Caller stream reader.stream.now c.args.reads read c.requires.reads of);
      writes_in_time = ∥∥₁_map timed
          (since_written g.L.Caller stream writer.stream.now c.args.writes (writes, left) c.requires.writes of');
      serves = same_served g.B.Kept g.B.Books g.R.Rng.stream _ _ _ known rest text grown
          c.serve_stream-end.ensures.serves;
      wanted = subst (λ (o : Option (List ℕ)). ReadsWhile (WantsMore Local) o
          (g.L.Caller.remaining stream reader.caller)) known (subst (ReadsWhile (WantsMore Local)
          (g.L.Caller.remaining c.new-reader.result.stream.now c.new-reader.result.caller)) rest
          c.serve_stream-end.ensures.wanted);
      follows = subst (λ (o : Option (List ℕ)). IfOk end
          (λ done. IfSome o (λ input. MayFollow Local input done.follows))) known c.serve_stream-end.ensures.follows;
      behind = behind;
    }
