use Rattle.std.proofs.Common.{rules, ◌≡◌, None, Some, ap, sym, ◌∙◌, arith}
use Rattle.hotel_rows.specs.Stored.{card_row}
use Rattle.hotel_rows.specs.Places.{place_at}
use Rattle.hotel_rows.specs.Keys.{card_key}
use Rattle.hotel_rows.proofs.OfDamage.FoundKeys.{none_found, one_found, one_bound}
use Rattle.hotel_rows.proofs.damage.by_key.card_at.Goals as goal

pub returns-in_default : goal.returns-in_default
returns-in_default c =
    let none : c.place_at.result ≡ None = search rules in
    sym (none_found card_key card_row (place_at c.args.places.now.cards) c.args.stored.now.card.items c.args.number
    c.requires.cards (sym c.place_at.ensures ∙ none))

pub returns-then-place-len : goal.returns-then-place-len
returns-then-place-len c =
    let low = one_bound card_key card_row (place_at c.args.places.now.cards) c.args.stored.now.card.items c.args.number
    c.in-Some.place c.requires.cards (sym c.place_at.ensures ∙ c.in-Some.is) in
    absurd (omega (arith, low, c.if-place-len.true, c.len.ensures))

pub returns : goal.returns
returns c =
    ap (λ plain. Some (card_row plain)) c.index.ensures
    ∙ sym (one_found card_key card_row (place_at c.args.places.now.cards) c.args.stored.now.card.items c.args.number
    c.in-Some.place c.index.result.now c.requires.cards (sym c.place_at.ensures ∙ c.in-Some.is))
