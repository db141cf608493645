use Rattle.std.proofs.Common.{sym, subst, ◌≡◌, Result, Ok, Err, inl, Bool}
use Rattle.hotel_core.specs.Books.Happens.{HappensBy}
use Rattle.hotel_http.specs.{Body.interim_where, Request.Wanted, Serve.Answered, Serve.Comes}
use Rattle.hotel_http.specs.{Serve.Serves, Serve.served_in, declared.serve.Cut.Cut, declared.serve.Served.Served}
use Rattle.hotel_http.specs.{declared.serve.Exchange.Exchange, declared.serve.ServeFault.ServeFault}
use Rattle.hotel_http.proofs.ServeLemmas.{request_served, rejection_served, is_cut}
use Rattle.hotel_http.proofs.serve.serve_by.Goals as goal

pub returns-in_ok-served-in-Ok-clause-serves : goal.returns-in_ok-served-in-Ok-clause-serves
returns-in_ok-served-in-Ok-clause-serves g c =
    let known = g.I.Read.remaining c.args.reader.now in
    let old = g.W.Write.contents c.args.writer.now in
    let mid = g.W.Write.contents c.read_request.new.writer in
    let left = g.I.Read.remaining c.read_request.new.reader in
    request_served c.args.service.origins g.B.Kept g.B.Books _ _ _ _ known left old mid _ c.in_ok-asks.field-0
    c.in-Ok.request (Ok c.in_ok-served-in-Ok.served) c.in-Ok.is c.in_ok-asks.ensures.ends
    c.in_ok-served-in-Ok.ensures.went

pub returns-in_err-served-in-Ok-clause-serves : goal.returns-in_err-served-in-Ok-clause-serves
returns-in_err-served-in-Ok-clause-serves g c =
    let known = g.I.Read.remaining c.args.reader.now in
    let old = g.W.Write.contents c.args.writer.now in
    let mid = g.W.Write.contents c.read_request.new.writer in
    let left = g.I.Read.remaining c.read_request.new.reader in
    let new = g.W.Write.contents c.answer_request.new.writer in
    let same = (c.answer_request.new.books ≡ c.args.books.now) × (c.answer_request.new.source ≡ c.args.source.now) in
    let went : Wanted → Bool → Result Served Cut → Type 0 =
    λ wanted awaited end. HappensBy g.B.Kept g.B.Books c.args.books.now
    (Answered (Comes wanted) (g.R.Rng.stream c.args.source.now) (g.R.Rng.stream c.answer_request.new.source)
    (interim_where awaited) old new end) c.answer_request.new.books in
    subst (λ (r : Result Exchange ServeFault). Serves c.args.service.origins known left old new same went (served_in r))
    (sym (is_cut c.from_residual-in_err-served-in-Ok.result _ c.from_residual-in_err-served-in-Ok.ensures.1))
    (inl (request_served c.args.service.origins g.B.Kept g.B.Books _ _ _ _ known left old mid new
    c.in_ok-asks.field-0 c.in-Ok.request (Err c.in_err-served-in-Ok.field-0.0) c.in-Ok.is c.in_ok-asks.ensures.ends
    c.in_err-served-in-Ok.ensures.went))

pub returns-in_ok-served-in-Err-clause-serves : goal.returns-in_ok-served-in-Err-clause-serves
returns-in_ok-served-in-Err-clause-serves g c =
    let known = g.I.Read.remaining c.args.reader.now in
    let old = g.W.Write.contents c.args.writer.now in
    let mid = g.W.Write.contents c.read_request.new.writer in
    let left = g.I.Read.remaining c.read_request.new.reader in
    rejection_served c.args.service.origins g.B.Kept g.B.Books _ _ known left old mid _ c.in_ok-asks.field-0
    c.in-Err.why (Ok c.in_ok-served-in-Err.served) c.in-Err.is c.in_ok-asks.ensures.ends
    c.in_ok-served-in-Err.ensures.ends

pub returns-in_err-served-in-Err-clause-serves : goal.returns-in_err-served-in-Err-clause-serves
returns-in_err-served-in-Err-clause-serves g c =
    let known = g.I.Read.remaining c.args.reader.now in
    let old = g.W.Write.contents c.args.writer.now in
    let mid = g.W.Write.contents c.read_request.new.writer in
    let left = g.I.Read.remaining c.read_request.new.reader in
    let new = g.W.Write.contents c.answer_rejection.new.writer in
    let s = g.R.Rng.stream c.args.source.now in
    let same = (c.args.books.now ≡ c.args.books.now) × (c.args.source.now ≡ c.args.source.now) in
    let went : Wanted → Bool → Result Served Cut → Type 0 =
    λ wanted awaited end. HappensBy g.B.Kept g.B.Books c.args.books.now
    (Answered (Comes wanted) s s (interim_where awaited) old new end) c.args.books.now in
    subst (λ (r : Result Exchange ServeFault). Serves c.args.service.origins known left old new same went (served_in r))
    (sym (is_cut c.from_residual-in_err-served-in-Err.result _
    c.from_residual-in_err-served-in-Err.ensures.1))
    (inl (rejection_served c.args.service.origins g.B.Kept g.B.Books c.args.books.now s known left old mid new
    c.in_ok-asks.field-0 c.in-Err.why (Err c.in_err-served-in-Err.field-0.0) c.in-Err.is c.in_ok-asks.ensures.ends
    c.in_err-served-in-Err.ensures.ends))
