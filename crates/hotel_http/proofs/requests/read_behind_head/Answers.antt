use Rattle.std.proofs.Common.{◌≤◌, ◌∙◌, arith, inl, sym, ap, subst, length-take, drop, ◌++◌, ℕ, List, length, IsUtf8}
use Rattle.std.proofs.KnownBytes.{Keeps-refl}
use Rattle.httparse.specs.Spans.{IsRequestAt}
use Rattle.hotel_http.specs.Plan.{path_of}
use Rattle.hotel_http.proofs.RequestLemmas.{body_read, head_ends, head_rejected}
use Rattle.hotel_http.specs.declared.head.TheConstants.{HEAD_BYTES}
use Rattle.hotel_http.proofs.requests.read_behind_head.Goals as goal

pub behind-begun-requires : goal.behind-begun-requires
behind-begun-requires g c = omega (arith, length-take HEAD_BYTES c.args.bytes.now, c.requires.section.len_fits)

pub returns-in-Err-clause-ends : goal.returns-in-Err-clause-ends
returns-in-Err-clause-ends g c head at =
    let here =
    subst (λ (l : List ℕ). IsRequestAt l c.args.headers.now c.args.spans.now head)
    (sym c.head_part-prefix.ensures) at in
    head_rejected c.args.service.origins head c.in-Err.why
    (λ left. drop c.args.spans.now.len (c.args.bytes.now ++ left)) _ _ (sym (c.in-Err.ensures head here))
    c.refused.result c.refused.ensures.asks

pub returns-in-Ok-clause-ends : goal.returns-in-Ok-clause-ends
returns-in-Ok-clause-ends g c head at =
    let here =
    subst (λ (l : List ℕ). IsRequestAt l c.args.headers.now c.args.spans.now head)
    (sym c.head_part-prefix.ensures) at in
    let text = c.target_text.ensures (subst IsUtf8 (sym here.path) here.reads.0.target_text) in
    let fits : c.args.spans.now.len ≤ length c.args.bytes.now =
    omega (arith, length-take HEAD_BYTES c.args.bytes.now, c.requires.section.len_fits) in
    head_ends c.args.service.origins head c.in-Ok.plan _ c.args.bytes.now c.args.spans.now.len _ _ _ _
    c.read_planned.result fits (sym (c.in-Ok.ensures head here))
    (c.path_part-path.ensures ∙ ap path_of (text ∙ here.path))
    c.behind-begun.ensures c.read_planned.ensures.ends

pub returns-in-Err-clause-wanted : goal.returns-in-Err-clause-wanted
returns-in-Err-clause-wanted g c head at = inl (Keeps-refl _)

pub returns-in-Ok-clause-wanted : goal.returns-in-Ok-clause-wanted
returns-in-Ok-clause-wanted g c head at =
    let here =
    subst (λ (l : List ℕ). IsRequestAt l c.args.headers.now c.args.spans.now head)
    (sym c.head_part-prefix.ensures) at in
    let fits : c.args.spans.now.len ≤ length c.args.bytes.now =
    omega (arith, length-take HEAD_BYTES c.args.bytes.now, c.requires.section.len_fits) in
    body_read c.args.service.origins head c.in-Ok.plan c.args.bytes.now c.args.spans.now.len _ _ _ fits
    (sym (c.in-Ok.ensures head here)) c.behind-begun.ensures c.read_planned.ensures.wanted
