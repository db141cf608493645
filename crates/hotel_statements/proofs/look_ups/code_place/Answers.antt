use Rattle.std.proofs.Common.{◌∙◌, sym}
use Rattle.hotel_statements.proofs.LookedInTurn.{of_look, answers_so}
use Rattle.hotel_statements.proofs.look_ups.code_place.Goals as goal

pub returns-in_default : goal.returns-in_default
returns-in_default g c =
    answers_so (of_look c.in_ok-row.ensures) (λ kept. sym c.in_default.is ∙ c.in_ok-row.ensures.found kept)

pub returns : goal.returns
returns g c =
    answers_so (of_look c.in_ok-row.ensures) (λ kept. sym c.in-Some.is ∙ c.in_ok-row.ensures.found kept)
