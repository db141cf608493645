use Rattle.std.proofs.Common.{◌∙◌, sym, ap, Some}
use Rattle.std.specs.Prelude.{option_map}
use Rattle.sqlite.specs.Held.{state}
use Rattle.hotel_statements.specs.LookUps.{known_by_room}
use Rattle.hotel_statements.proofs.Fitted.{known_are}
use Rattle.hotel_statements.proofs.LookedInTurn.{of_find, answers_so}
use Rattle.hotel_statements.proofs.look_ups.known_by_room.Goals as goal

pub returns-in_default : goal.returns-in_default
returns-in_default g c =
    let old = state g.S.Store c.args.conn.now in
    answers_so (of_find c.in_ok-bare.ensures)
    (λ kept. ap (option_map known_by_room) (sym c.in_default.is ∙ c.in_ok-bare.ensures.found kept)
    ∙ known_are old.now.trees c.args.room)

pub returns : goal.returns
returns g c =
    let old = state g.S.Store c.args.conn.now in
    answers_so (of_find c.in_ok-bare.ensures)
    (λ kept. ap Some c.known.ensures
    ∙ ap (option_map known_by_room) (sym c.in-Some.is ∙ c.in_ok-bare.ensures.found kept)
    ∙ known_are old.now.trees c.args.room)
