use Rattle.std.proofs.Common.{◌∙◌, ap, sym, option_map, refl}
use Rattle.hotel_lock.specs.Fields.{field_texts, fields_behind}
use Rattle.hotel_lock.proofs.FieldsAt.{took, took_none}
use Rattle.hotel_lock.proofs.fields.fields_behind.Goals as goal

pub returns-in_err-next : goal.returns-in_err-next
returns-in_err-next c = ap (option_map field_texts) c.from_residual.ensures
    ∙ sym (ap (fields_behind c.args.room.now c.args.fit.now)
    (took_none _ c.next.new.self c.in_err-next.ensures.steps))

pub returns-in_err-next-2 : goal.returns-in_err-next-2
returns-in_err-next-2 c = ap (option_map field_texts) c.from_residual-in_err-next-2.ensures
    ∙ sym (ap (fields_behind c.args.room.now c.args.fit.now)
    (took _ _ c.in_ok-next.ensures.steps
    (took_none _ c.next-2.new.self c.in_err-next-2.ensures.steps)))

pub returns-in_err-next-3 : goal.returns-in_err-next-3
returns-in_err-next-3 c = ap (option_map field_texts) c.from_residual-in_err-next-3.ensures
    ∙ sym (ap (fields_behind c.args.room.now c.args.fit.now)
    (took _ _ c.in_ok-next.ensures.steps (took _ _ c.in_ok-next-2.ensures.steps
    (took_none _ c.next-3.new.self c.in_err-next-3.ensures.steps))))

pub returns-in_err-next-4 : goal.returns-in_err-next-4
returns-in_err-next-4 c = ap (option_map field_texts) c.from_residual-in_err-next-4.ensures
    ∙ sym (ap (fields_behind c.args.room.now c.args.fit.now)
    (took _ _ c.in_ok-next.ensures.steps (took _ _ c.in_ok-next-2.ensures.steps
    (took _ _ c.in_ok-next-3.ensures.steps
    (took_none _ c.next-4.new.self c.in_err-next-4.ensures.steps)))))

pub returns-in_err-next-5 : goal.returns-in_err-next-5
returns-in_err-next-5 c = ap (option_map field_texts) c.from_residual-in_err-next-5.ensures
    ∙ sym (ap (fields_behind c.args.room.now c.args.fit.now)
    (took _ _ c.in_ok-next.ensures.steps (took _ _ c.in_ok-next-2.ensures.steps
    (took _ _ c.in_ok-next-3.ensures.steps (took _ _ c.in_ok-next-4.ensures.steps
    (took_none _ c.next-5.new.self c.in_err-next-5.ensures.steps))))))

pub returns-in_err-next-6 : goal.returns-in_err-next-6
returns-in_err-next-6 c = ap (option_map field_texts) c.from_residual-in_err-next-6.ensures
    ∙ sym (ap (fields_behind c.args.room.now c.args.fit.now)
    (took _ _ c.in_ok-next.ensures.steps (took _ _ c.in_ok-next-2.ensures.steps
    (took _ _ c.in_ok-next-3.ensures.steps (took _ _ c.in_ok-next-4.ensures.steps
    (took _ _ c.in_ok-next-5.ensures.steps
    (took_none _ c.next-6.new.self c.in_err-next-6.ensures.steps)))))))

pub returns-in-None : goal.returns-in-None
returns-in-None c = sym (ap (fields_behind c.args.room.now c.args.fit.now)
    (took _ _ c.in_ok-next.ensures.steps (took _ _ c.in_ok-next-2.ensures.steps
    (took _ _ c.in_ok-next-3.ensures.steps (took _ _ c.in_ok-next-4.ensures.steps
    (took _ _ c.in_ok-next-5.ensures.steps (took _ _ c.in_ok-next-6.ensures.steps
    (took_none _ c.next-7.new.self c.in-None.ensures.steps))))))))

pub returns-in-Some : goal.returns-in-Some
returns-in-Some c = sym (ap (fields_behind c.args.room.now c.args.fit.now)
    (took _ _ c.in_ok-next.ensures.steps (took _ _ c.in_ok-next-2.ensures.steps
    (took _ _ c.in_ok-next-3.ensures.steps (took _ _ c.in_ok-next-4.ensures.steps
    (took _ _ c.in_ok-next-5.ensures.steps (took _ _ c.in_ok-next-6.ensures.steps
    (took _ _ c.in-Some.ensures.steps refl))))))))
