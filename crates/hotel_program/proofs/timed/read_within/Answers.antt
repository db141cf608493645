-- Neither the limit nor the clock takes a byte.
use Rattle.std.proofs.Common.{◌≡◌, ◌∙◌, ℕ, List, Option, subst, sym}
use Rattle.std.specs.Io.KnownBytes.{ReadConsumes}
use Rattle.hotel_program.proofs.timed.read_within.Goals as goal

pub returns-clause-bytes : goal.returns-clause-bytes
returns-clause-bytes g c =
    let r = g.L.Caller.remaining c.args.stream.now in
    let got = c.read_some-got.result in
    let room = c.read_some-got.new.room in
    let before : r c.now.new.self ≡ r c.args.caller.now =
    c.now.ensures.unread c.args.stream.now ∙ c.limit_reads.ensures.unread in
    let after : r c.now-2.new.self ≡ r c.read_some-got.new.self = c.now-2.ensures.unread c.args.stream.now in
    subst (λ (a : Option (List ℕ)). ReadConsumes a (r c.now-2.new.self) got room) before
    (subst (λ (b : Option (List ℕ)). ReadConsumes (r c.now.new.self) b got room) (sym after)
    c.read_some-got.ensures.bytes)
