use Rattle.std.proofs.Common.{◌∙◌, ap, option_map, refl, sym}
use Rattle.hotel_lock.specs.Fields.{field_texts, fields_under}
use Rattle.hotel_lock.proofs.FieldsAt.{all_left, none_under, took, took_none, under}
use Rattle.hotel_lock.proofs.fields.fields_of_record.Goals as goal

pub returns-in_err-room : goal.returns-in_err-room
returns-in_err-room c =
    let all = all_left c.iter-left.result c.iter-left.ensures.row c.iter-left.ensures.at in
    ap (option_map field_texts) c.from_residual.ensures ∙ sym (ap (fields_under c.args.columns)
    (all ∙ took_none _ c.next.new.self c.in_err-room.ensures.steps) ∙ none_under c.args.columns)

pub returns-in_err-fit-in-WithFit : goal.returns-in_err-fit-in-WithFit
returns-in_err-fit-in-WithFit c =
    let all = all_left c.iter-left.result c.iter-left.ensures.row c.iter-left.ensures.at in
    ap (option_map field_texts) c.from_residual-in_err-fit-in-WithFit.ensures ∙ sym (under c.in-WithFit.is
    (all ∙ took _ _ c.in_ok-room.ensures.steps
    (took_none _ c.next-in-WithFit.new.self c.in_err-fit-in-WithFit.ensures.steps)))

pub returns-in_ok-fit-in-WithFit : goal.returns-in_ok-fit-in-WithFit
returns-in_ok-fit-in-WithFit c =
    let all = all_left c.iter-left.result c.iter-left.ensures.row c.iter-left.ensures.at in
    c.fields_behind.ensures ∙ sym (under c.in-WithFit.is
    (all ∙ took _ _ c.in_ok-room.ensures.steps (took _ _ c.in_ok-fit-in-WithFit.ensures.steps refl)))

pub returns-in-WithoutFit : goal.returns-in-WithoutFit
returns-in-WithoutFit c =
    let all = all_left c.iter-left.result c.iter-left.ensures.row c.iter-left.ensures.at in
    c.fields_behind-in-WithoutFit.ensures ∙ sym (under c.in-WithoutFit.is
    (all ∙ took _ _ c.in_ok-room.ensures.steps refl))
