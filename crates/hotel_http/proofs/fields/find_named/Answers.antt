use Rattle.std.proofs.Common.{◌∙◌, List, [], ◌∷◌, ◌++◌, ℕ, ap, sym, subst, map, take}
use Rattle.std.specs.Str.{str_eq_ignore_ascii_case}
use Rattle.hotel_http.proofs.FieldLemmas.{tells_none, tells_named, tells_other}
use Rattle.httparse.specs.Spans.{header_bytes}
use Rattle.hotel_http.specs.Fields.{IsFoundIn, values_named}
use Rattle.hotel_http.proofs.fields.find_named.Goals as goal
use Rattle.hotel_http.proofs.fields.find_named.Goals.{then-is_same_text, else-is_same_text}

pub loop-header-init : goal.loop-header-init
loop-header-init c = tells_none c.args.name.now

pub loop-header-preserved : goal.loop-header-preserved
loop-header-preserved c =
    let before = values_named c.args.name.now
    (map (header_bytes c.args.bytes.now) (take c.loop-header.header-index c.args.headers.now)) in
    let same = ap (λ (l : List ℕ). str_eq_ignore_ascii_case l c.args.name.now) (sym c.of.ensures)
    ∙ sym c.is_same_text.ensures in
    elim c.if-is_same_text.branch [
      | then-is_same_text w ↦
          tells_named _ (header_bytes c.args.bytes.now) _ _ _ _ c.loop-header-test.true (same ∙ w.if-is_same_text.true)
          (subst (IsFoundIn _) (sym w.found-is)
          (subst (λ (l : List ℕ). IsFoundIn (before ++ l ∷ []) w.once_more-found.result)
          w.of-then-is_same_text.ensures (w.once_more-found.ensures before c.loop-header.invariant)))
      | else-is_same_text w ↦
          tells_other _ (header_bytes c.args.bytes.now) _ _ _ _ c.loop-header-test.true (same ∙ w.if-is_same_text.false)
          (subst (IsFoundIn _) (sym w.found-is) c.loop-header.invariant)
    ]
