use Rattle.std.proofs.Common.{map, ap, sym, ◌∙◌}
use Rattle.std.proofs.lemmas.Result.{IfOk-weaker}
use Rattle.hotel_rows.specs.Keys.{are_numbered, card_key}
use Rattle.hotel_rows.proofs.OfDamage.InTurn.{first_fails, second_fails, third_tells}
use Rattle.hotel_rows.proofs.OfDamage.CardsTogether.{cards_together}
use Rattle.hotel_rows.proofs.damage.cards.cards_hold.Goals as goal

pub returns-then-not-are_numbered : goal.returns-then-not-are_numbered
returns-then-not-are_numbered c =
    let order = c.are_numbered.ensures
    ∙ ap are_numbered (c.deref-2.ensures.value ∙ c.in_ok-keys.ensures ∙ ap (map card_key) c.deref.ensures.value) in
    first_fails _ _ (cards_together c.args.stored.now) (sym order ∙ c.if-not-are_numbered.true)

pub returns-then-not-cards_fit : goal.returns-then-not-cards_fit
returns-then-not-cards_fit c =
    let order = c.are_numbered.ensures
    ∙ ap are_numbered (c.deref-2.ensures.value ∙ c.in_ok-keys.ensures ∙ ap (map card_key) c.deref.ensures.value) in
    second_fails _ (cards_together c.args.stored.now) (sym order ∙ c.if-not-are_numbered.false)
    (sym c.cards_fit.ensures ∙ c.if-not-cards_fit.true)

pub returns : goal.returns
returns c =
    let order = c.are_numbered.ensures
    ∙ ap are_numbered (c.deref-2.ensures.value ∙ c.in_ok-keys.ensures ∙ ap (map card_key) c.deref.ensures.value) in
    let told = third_tells (cards_together c.args.stored.now) (sym order ∙ c.if-not-are_numbered.false)
    (sym c.cards_fit.ensures ∙ c.if-not-cards_fit.false) in
    IfOk-weaker c.links_hold.result _ _ (λ hold is. is ∙ told) c.links_hold.ensures
