use Rattle.std.proofs.Common.{◌≡◌, [], ◌∷◌, Some, None, Ok, Err, ap, rules, sym, ◌∙◌}
use Rattle.hotel_books.proofs.Names.{Rows}
use Rattle.hotel_model.specs.Refinement.Lookups.{stay_at}
use Rattle.keycard_rules.specs.Leaves.{told_by}
use Rattle.hotel_lists.specs.Faults.{list_fault}
use Rattle.hotel_model.specs.Lists.{card_row}
use Rattle.hotel_lists.proofs.ToldLemmas.{answered_clean}
use Rattle.hotel_lists.proofs.LookedLemmas.{all_found, answer_is, began_honest, card_there, look_ended, looks_next}
use Rattle.hotel_lists.proofs.LookedLemmas.{no_card, no_stay, none_kept, one_answered, one_failed}
use Rattle.hotel_lists.proofs.looked_lists.find_card.Goals as goal

pub returns-in_err-card : goal.returns-in_err-card
returns-in_err-card g c =
    let why = c.in_err-card.field-0.0 in
    let ends : c.from_residual.result ≡ Err (list_fault why) = search rules in
    let told : told_by c.card.result ≡ Some why = search rules in
    look_ended g.B.Kept (λ cards. cards.items) _ why ends (one_failed g.B.Kept why told c.card.ensures.looks)

pub returns-in_default : goal.returns-in_default
returns-in_default g c =
    let found : c.card.result ≡ Ok None = search rules in
    let told : told_by c.card.result ≡ None = search rules in
    all_found g.B.Kept (λ cards. cards.items) _ c.new-cards.result
    (λ honest. c.new-cards.ensures.items ∙ no_card (g.B.Books.rows c.args.books.now) c.args.number
    (sym (answer_is (λ a. a) _ _ _ found (c.card.ensures.answer honest))))
    (one_answered g.B.Kept told c.card.ensures.looks)

pub returns-in_err-stay : goal.returns-in_err-stay
returns-in_err-stay g c =
    let why = c.in_err-stay.field-0.0 in
    let ends : c.from_residual-in_err-stay.result ≡ Err (list_fault why) = search rules in
    let first : told_by c.card.result ≡ None = search rules in
    let told : told_by c.stay.result ≡ Some why = search rules in
    look_ended g.B.Kept (λ cards. cards.items) _ why ends (looks_next g.B.Kept _
    (one_answered g.B.Kept first c.card.ensures.looks)
    (one_failed g.B.Kept why told c.stay.ensures.looks))

pub returns-in_default-2 : goal.returns-in_default-2
returns-in_default-2 g c =
    let K = g.B.Kept in
    let card = c.in-Some.card in
    let found : c.card.result ≡ Ok (Some card) = search rules in
    let none : c.stay.result ≡ Ok None = search rules in
    let first : told_by c.card.result ≡ None = search rules in
    let second : told_by c.stay.result ≡ None = search rules in
    let looked = one_answered K first c.card.ensures.looks in
    let again = one_answered K second c.stay.ensures.looks in
    all_found K (λ cards. cards.items) _ c.new-cards.result
    (λ honest.
    let before = began_honest K again honest in
    let same = g.met.B.Books.kept_rows _ _ (looked.kept (answered_clean K looked before)) in
    c.new-cards.ensures.items ∙ no_stay (g.B.Books.rows c.args.books.now) c.args.number card
    (sym (answer_is (λ a. a) _ _ _ found (c.card.ensures.answer before)))
    (ap (λ (rs : Rows). stay_at rs card.party) (sym same)
    ∙ sym (answer_is (λ a. a) _ _ _ none (c.stay.ensures.answer honest))))
    (looks_next K _ looked again)

pub returns-in-Ok : goal.returns-in-Ok
returns-in-Ok g c =
    let K = g.B.Kept in
    let card = c.in-Some.card in
    let stay = c.in-Some-2.stay in
    let found : c.card.result ≡ Ok (Some card) = search rules in
    let its : c.stay.result ≡ Ok (Some stay) = search rules in
    let first : told_by c.card.result ≡ None = search rules in
    let second : told_by c.stay.result ≡ None = search rules in
    let items : c.push.new.self.items ≡ card_row card stay ∷ [] = search rules in
    let looked = one_answered K first c.card.ensures.looks in
    let again = one_answered K second c.stay.ensures.looks in
    all_found K (λ cards. cards.items) _ c.push.new.self
    (λ honest.
    let before = began_honest K again honest in
    let same = g.met.B.Books.kept_rows _ _ (looked.kept (answered_clean K looked before)) in
    items ∙ card_there (g.B.Books.rows c.args.books.now) c.args.number card stay
    (sym (answer_is (λ a. a) _ _ _ found (c.card.ensures.answer before)))
    (ap (λ (rs : Rows). stay_at rs card.party) (sym same)
    ∙ sym (answer_is (λ a. a) _ _ _ its (c.stay.ensures.answer honest))))
    (looks_next K _ looked again)

pub returns-in-Err : goal.returns-in-Err
returns-in-Err g c =
    let first : told_by c.card.result ≡ None = search rules in
    let second : told_by c.stay.result ≡ None = search rules in
    none_kept g.B.Kept (λ cards. cards.items) _ (looks_next g.B.Kept _
    (one_answered g.B.Kept first c.card.ensures.looks)
    (one_answered g.B.Kept second c.stay.ensures.looks))
