use Rattle.std.proofs.Common.{rules, ◌≡◌, None, false, ap, sym, ◌∙◌}
use Rattle.std.specs.Prelude.{option_map}
use Rattle.hotel_model.specs.Words.{said_of}
use Rattle.hotel_model.specs.SoundCards.{is_newest}
use Rattle.hotel_rows.specs.Stored.{rows_of}
use Rattle.hotel_rows.specs.LastCards.{link_of_pair}
use Rattle.hotel_rows.proofs.damage.card_links.has_newest.Goals as goal

pub returns-in_default : goal.returns-in_default
returns-in_default c =
    let none : c.last_of.result ≡ None = search rules in
    sym (ap (λ o. said_of o false (is_newest (rows_of c.args.stored.now) c.args.home))
    (sym (c.requires.lasts c.args.party) ∙ ap (option_map link_of_pair) (sym c.last_of.ensures ∙ none)))

pub returns : goal.returns
returns c =
    c.is_newest_at.ensures
    ∙ sym (ap (λ o. said_of o false (is_newest (rows_of c.args.stored.now) c.args.home))
    (sym (c.requires.lasts c.args.party) ∙ ap (option_map link_of_pair) (sym c.last_of.ensures ∙ c.in-Some.is)))
