use Rattle.std.proofs.Common.{rules, ◌≡◌, None, Some, ◌||◌, not, false, cond, ◌==◌, ap, sym, ◌∙◌}
use Rattle.std.specs.Prelude.{option_map}
use Rattle.std.specs.List.{list_all}
use Rattle.std.specs.Map.{values_of}
use Rattle.hotel_model.specs.Words.{said_of}
use Rattle.hotel_model.specs.Rows.{last_link_of}
use Rattle.hotel_model.specs.Cards.{same_link}
use Rattle.hotel_rows.specs.declared.stored.PlainCard.{PlainCard}
use Rattle.hotel_rows.specs.Stored.{number_of, link_row}
use Rattle.hotel_rows.specs.LastCards.{link_of_pair}
use Rattle.hotel_rows.specs.CodePlaces.{places_in}
use Rattle.hotel_rows.proofs.OfDamage.Owned.{owned_newest, agreeing_own}
use Rattle.hotel_rows.proofs.OfDamage.KnownFits.{newest_known}
use Rattle.hotel_rows.proofs.damage.card_links.all_owned.Goals as goal

pub returns-then-ends_with_fit : goal.returns-then-ends_with_fit
returns-then-ends_with_fit c =
    let s = c.args.stored.now in
    let placed = c.args.known.now.placed.entries in
    let begins = c.args.known.now.fits.begins.entries in
    let plain_rows = s.card.items in
    let newest = newest_known s placed begins c.args.room c.args.codes c.requires.placed c.requires.begins
    c.requires.due
    ∙ ap (λ b. cond b None (last_link_of (values_of (places_in placed c.args.room))))
    (sym c.ends_with_fit.ensures ∙ c.if-ends_with_fit.true) in
    sym (ap (λ o. list_all (λ (card : PlainCard). not (said_of o false (λ newest. same_link newest (link_row card)))
    || (number_of card.party == c.args.party)) plain_rows) newest
    ∙ owned_newest plain_rows None c.args.party (agreeing_own s c.requires.own))

pub returns-in_default : goal.returns-in_default
returns-in_default c =
    let s = c.args.stored.now in
    let placed = c.args.known.now.placed.entries in
    let begins = c.args.known.now.fits.begins.entries in
    let plain_rows = s.card.items in
    let none : c.newest_of.result ≡ None = search rules in
    let newest = newest_known s placed begins c.args.room c.args.codes c.requires.placed c.requires.begins
    c.requires.due
    ∙ ap (λ b. cond b None (last_link_of (values_of (places_in placed c.args.room))))
    (sym c.ends_with_fit.ensures ∙ c.if-ends_with_fit.false)
    ∙ sym c.newest_of.ensures ∙ ap (option_map link_of_pair) none in
    sym (ap (λ o. list_all (λ (card : PlainCard). not (said_of o false (λ newest. same_link newest (link_row card)))
    || (number_of card.party == c.args.party)) plain_rows) newest
    ∙ owned_newest plain_rows None c.args.party (agreeing_own s c.requires.own))

pub returns : goal.returns
returns c =
    let s = c.args.stored.now in
    let placed = c.args.known.now.placed.entries in
    let begins = c.args.known.now.fits.begins.entries in
    let plain_rows = s.card.items in
    let newest = newest_known s placed begins c.args.room c.args.codes c.requires.placed c.requires.begins
    c.requires.due
    ∙ ap (λ b. cond b None (last_link_of (values_of (places_in placed c.args.room))))
    (sym c.ends_with_fit.ensures ∙ c.if-ends_with_fit.false)
    ∙ sym c.newest_of.ensures ∙ ap (option_map link_of_pair) c.in-Some.is in
    c.is_link_of.ensures
    ∙ sym (ap (λ o. list_all (λ (card : PlainCard). not (said_of o false (λ newest. same_link newest (link_row card)))
    || (number_of card.party == c.args.party)) plain_rows) newest
    ∙ owned_newest plain_rows (Some (link_of_pair c.in-Some.link)) c.args.party (agreeing_own s c.requires.own))
