use Rattle.std.proofs.Common.{ap, sym, ◌∙◌}
use Rattle.std.specs.Prelude.{bytes_eq}
use Rattle.std.specs.List.{list_any}
use Rattle.hotel_nights.specs.Kinds.{read_kind}
use Rattle.hotel_rows.proofs.OfDamage.KindTexts.{none_of_kinds, unread, read}
use Rattle.hotel_rows.proofs.damage.kinds.has_kind.Goals as goal

pub returns-in_default : goal.returns-in_default
returns-in_default c = λ kinds all knows.
    let text = c.args.text.now in
    sym (none_of_kinds kinds text all
    (unread text (sym (c.read.ensures ∙ ap read_kind c.as_bytes.ensures.value) ∙ c.in_default.is)))

pub returns : goal.returns
returns c = λ kinds all knows.
    let text = c.args.text.now in
    let kind = c.in-Some.kind in
    let is = read text kind (sym (c.read.ensures ∙ ap read_kind c.as_bytes.ensures.value) ∙ c.in-Some.is) in
    c.contains_key.ensures ∙ knows kind ∙ ap (λ q. list_any (λ k. bytes_eq k q) kinds) is.1
