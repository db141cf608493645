use Rattle.std.proofs.Common.{◌≡◌, ℕ, [], ◌∷◌, Option, Some, None, Ok, Err, ap, refl, rules, ◌∙◌}
use Rattle.hotel_books.proofs.Names.{said_of}
use Rattle.keycard_rules.specs.Leaves.{told_by}
use Rattle.hotel_lists.specs.Faults.{list_fault}
use Rattle.hotel_lists.specs.LookedLists.{one_or_none}
use Rattle.hotel_lists.proofs.LookedLemmas.{all_found, answer_is, look_ended, one_answered, one_failed}
use Rattle.hotel_lists.proofs.looked_lists.find_day.Goals as goal

pub returns-in_err-day : goal.returns-in_err-day
returns-in_err-day g c =
    let why = c.in_err-day.field-0.0 in
    let ends : c.from_residual.result ≡ Err (list_fault why) = search rules in
    let told : told_by c.day.result ≡ Some why = search rules in
    look_ended g.B.Kept one_or_none _ why ends (one_failed g.B.Kept why told c.day.ensures.looks)

one_day : (day : Option ℕ) → one_or_none day ≡ said_of day [] (λ d. d ∷ [])
one_day None = refl
one_day (Some day) = refl

pub returns : goal.returns
returns g c =
    let found : c.day.result ≡ Ok c.in_ok-day.day = search rules in
    let told : told_by c.day.result ≡ None = search rules in
    all_found g.B.Kept one_or_none _ c.in_ok-day.day
    (λ honest. ap one_or_none (answer_is (λ a. a) _ _ _ found (c.day.ensures.answer honest)) ∙ one_day _)
    (one_answered g.B.Kept told c.day.ensures.looks)
