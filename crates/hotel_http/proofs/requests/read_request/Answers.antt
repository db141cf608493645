use Rattle.std.proofs.Common.{arith, sym, subst, take, ℕ, List}
use Rattle.httparse.specs.{Spans.IsRequestWithin}
use Rattle.hotel_http.specs.{Head.LiesWithin, declared.head.Judged.Judged}
use Rattle.hotel_http.proofs.RequestLemmas.{head_kept, follows_whole, request_ends, request_read}
use Rattle.hotel_http.specs.declared.head.TheConstants.{HEAD_BYTES}
use Rattle.hotel_http.proofs.requests.read_request.Goals as goal

pub read_behind_head-requires : goal.read_behind_head-requires
read_behind_head-requires g c =
    let prefix = take HEAD_BYTES c.read_head.new.bytes.items in
    let (within, of) =
    subst (λ (j : Judged). LiesWithin prefix c.read_head.new.headers j) c.in-Whole.is
    c.in_ok-read_head.ensures.within in
    subst (λ (l : List ℕ). IsRequestWithin (take HEAD_BYTES l) c.read_head.new.headers c.in-Whole.spans)
    (sym c.deref.ensures.value) within

pub returns-clause-ends : goal.returns-clause-ends
returns-clause-ends g c =
    let read = c.in_ok-read_head.ensures in
    request_ends c.args.service.origins (g.R.Read.remaining c.args.reader.now)
    (g.R.Read.remaining c.read_head.new.reader) (g.R.Read.remaining c.read_behind_head.new.reader)
    (g.W.Write.contents c.args.writer.now) (g.W.Write.contents c.read_behind_head.new.writer)
    c.read_behind_head.result c.in-Whole.is c.deref.ensures.value read.taken read.within read.judged
    c.read_behind_head.ensures.ends

pub returns-clause-wanted : goal.returns-clause-wanted
returns-clause-wanted g c =
    let read = c.in_ok-read_head.ensures in
    request_read c.args.service.origins (g.R.Read.remaining c.args.reader.now)
    (g.R.Read.remaining c.read_head.new.reader) (g.R.Read.remaining c.read_behind_head.new.reader) (omega arith)
    c.in-Whole.is
    c.deref.ensures.value read.taken read.within read.wanted c.read_behind_head.ensures.wanted

pub returns-clause-follows : goal.returns-clause-follows
returns-clause-follows g c =
    let read = c.in_ok-read_head.ensures in
    follows_whole c.args.service.origins (g.R.Read.remaining c.args.reader.now) c.read_behind_head.result c.in-Whole.is
    c.deref.ensures.value read.within read.judged c.read_behind_head.ensures.follows

pub returns-clause-before : goal.returns-clause-before
returns-clause-before g c failed = head_kept (g.R.Read.remaining c.args.reader.now) _ _ c.in_ok-read_head.ensures.wanted
    (c.read_behind_head.ensures.before failed)
