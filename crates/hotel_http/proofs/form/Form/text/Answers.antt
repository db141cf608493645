use Rattle.std.proofs.Common.{rules, tests, ap, ◌∙◌, refl, Some, None}
use Rattle.std.proofs.lemmas.Iterator.{YieldsList-from_slice}
use Rattle.std.proofs.lemmas.Iterator.Consumers.{YieldsList-from_filter}
use Rattle.hotel_http.proofs.FormLemmas.{only_text}
use Rattle.hotel_http.proofs.form.Form.text.Goals.{in_default-via-in-Some+in_default, in_default-via-in_default}
use Rattle.hotel_http.proofs.form.Form.text.Goals as goal

pub returns-in-Some-None : goal.returns-in-Some-None
returns-in-Some-None c =
    ap Some c.as_str.ensures.value ∙ only_text c.args.name.now _ c.self.view_is
    (YieldsList-from_filter _ _ (YieldsList-from_slice c.self.inside.fields.items cc) c.filter-named.ensures.closure
    (λ x r q k. search (rules, tests))) c.next.ensures.steps c.next-2.ensures.steps
    (Some c.in-Some-None.field) (rw (c.in-Some-None.is-0, c.in-Some-None.is-1) refl)

pub returns-in_default : goal.returns-in_default
returns-in_default c =
    only_text c.args.name.now _ c.self.view_is
    (YieldsList-from_filter _ _ (YieldsList-from_slice c.self.inside.fields.items cc) c.filter-named.ensures.closure
    (λ x r q k. search (rules, tests))) c.next.ensures.steps c.next-2.ensures.steps None
    (elim c.in_default.branch [
      | in_default-via-in-Some+in_default w ↦ rw (w.in_default.is-0, w.in_default.is-1) refl
      | in_default-via-in_default w ↦ rw w.in_default.is-0 refl
    ])
