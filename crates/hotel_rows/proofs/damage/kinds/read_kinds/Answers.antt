use Rattle.std.proofs.Common.{◌+◌, ◌&&◌, ◌++◌, [], ◌∷◌, map, take, drop, get_or, ap, sym, subst, ◌∙◌}
use Rattle.std.specs.List.{list_all}
use Rattle.std.proofs.lemmas.List.{drop_more, take_more}
use Rattle.hotel_nights.specs.Kinds.{is_kind, read_kind}
use Rattle.hotel_rows.specs.Stored.{kind_text}
use Rattle.hotel_rows.specs.RowTests.{HasKinds}
use Rattle.hotel_rows.proofs.OfDamage.KindTexts.{read, knows_more, text_more}
use Rattle.hotel_rows.proofs.damage.kinds.read_kinds.Goals as goal

pub loop-i-preserved : goal.loop-i-preserved
loop-i-preserved c =
    let xs = c.args.kinds.now in
    let i = c.loop-i.i in
    let plain = get_or xs i c.index-kinds-i.result in
    let here = c.loop-i-test.true in
    let is = read (kind_text plain) c.in-Some.kind
    (sym (c.read.ensures ∙ ap read_kind c.as_bytes.ensures.value) ∙ c.in-Some.is) in
    let grown = ap (map kind_text) (take_more xs i c.index-kinds-i.result here) ∙ text_more kind_text (take i xs) _
    ∙ ap (λ t. map kind_text (take i xs) ++ t ∷ []) (sym is.1) in (
      c.loop-i.invariant.0 ∙ ap (λ ls. list_all is_kind (map kind_text ls)) (drop_more xs i c.index-kinds-i.result here)
          ∙ ap (λ b. b && list_all is_kind (map kind_text (drop (i + 1) xs))) is.0,
      subst (HasKinds c.insert.new.self.entries) (sym grown)
          (knows_more c.loop-i.known.entries c.insert.new.self.entries (map kind_text (take i xs)) c.in-Some.kind 0
          c.loop-i.invariant.1 (λ q. c.in-Ok.ensures.updates.0 q)),
    )
