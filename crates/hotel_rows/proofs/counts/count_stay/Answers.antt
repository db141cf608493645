use Rattle.std.proofs.Common.{◌≡◌, ◌&&◌, ◌∙◌, false, ap, option_map, rules, string_bytes, sym}
use Rattle.hotel_nights.specs.Kinds.{is_kind}
use Rattle.hotel_model.specs.SoundRooms.{is_day}
use Rattle.hotel_rows.specs.{Counts.tells_state, Counts.tells_stay, Stored.number_of}
use Rattle.hotel_rows.proofs.OfCounts.Untold.{amid_fails, last_fails, told_anyway}
use Rattle.hotel_rows.proofs.counts.count_stay.Goals as goal

pub returns-in_err-state-clause-err : goal.returns-in_err-state-clause-err
returns-in_err-state-clause-err c =
    let plain = c.args.plain.now in
    let state : c.number.result ≡ number_of plain.state = search rules in
    let fails : tells_state (number_of plain.state) (option_map number_of plain.room) ≡ false =
    (λ i. tells_state (sym state i) (sym c.number_if.ensures i)) ∙ c.in_err-state.ensures.err.1 in
    let untold : tells_stay plain ≡ false = last_fails _ _ fails in
    told_anyway c.from_residual.result untold

pub returns-in_err-kind-clause-err : goal.returns-in_err-kind-clause-err
returns-in_err-kind-clause-err c =
    let plain = c.args.plain.now in
    let fails : is_kind (string_bytes plain.kind) ≡ false =
    ap is_kind (sym c.as_str.ensures.value) ∙ c.in_err-kind.ensures.err.1 in
    let untold : tells_stay plain ≡ false =
    ap (λ b. b && is_day (number_of plain.depart)
    && tells_state (number_of plain.state) (option_map number_of plain.room)) (amid_fails _ _ _ fails) in
    told_anyway c.from_residual-in_err-kind.result untold
